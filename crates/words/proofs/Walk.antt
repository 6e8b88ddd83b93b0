-- What a walk over bytes does at each place, in the shape of the loop's facts: its invariant says that what is still to be
-- found from place i on is what is wanted.
use mathlib.Core.Bool.{Bool, true, false}
use mathlib.Core.List.{List}
use mathlib.Core.Path.{◌≡◌, sym, ◌∙◌}
use Prim.Native.Nat.{ℕ, ◌+◌, ◌≤◌, ◌<◌}
use lib.ListN.{length, get_or}
use Rattle.lists.specs.Lists.{index_from}
use Rattle.lists.proofs.Lists.{from-here, from_past, from-none}

module _ {r : ℕ} (f : ℕ → Bool) (b : List ℕ) (i : ℕ) (inv : r ≡ index_from f i b) where
  pub walk-found : i < length b → f (get_or b i 0) ≡ true → i ≡ r
  walk-found h e = sym (inv ∙ from-here f b i 0 h e)

  pub walk-past : i < length b → f (get_or b i 0) ≡ false → r ≡ index_from f (i + 1) b
  walk-past h e = inv ∙ from_past f b i 0 h e

  pub walk_none : length b ≤ i → i ≡ r
  walk_none h = sym (inv ∙ from-none f b i h)

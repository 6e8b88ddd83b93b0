-- `walks::first` meets its contract: whatever the test decides, the loop keeps what is still to be found.
use mathlib.Core.Bool.{Bool}
use mathlib.Core.Path.{◌≡◌}
use Prim.Native.Nat.{ℕ}
use Rattle.lists.specs.Lists.{index_from}
use Rattle.words.proofs.walks.first.Given as goal

abbrev pub invariant-loop-i : goal.invariant-loop-i
invariant-loop-i g l = (f : ℕ → Bool) → ((x : ℕ) (r : Bool) → goal.F-post g l.test x r → r ≡ f x) → index_from f l.start l.b ≡ index_from f l.i l.b

-- The tests of a place, in the shapes that the code's returns ask for.
use mathlib.Core.Path.{◌≡◌, sym, ◌∙◌}
use Prim.Native.Nat.{ℕ, ◌+◌, ◌-◌, ◌<◌}
use native.Mathlib.Omega.{arith}
use lib.Dec.{leb}
use borrow.Author.Tests.{le-leb, lt-leb, leb-true, leb-false}
use Rattle.lists.proofs.Choice.{by}

-- the length of a period, by what is left of its end
pub short_enough : (start end limit : ℕ) → start < end → leb (end - start) limit ≡ leb end (start + limit)
short_enough start end limit h =
    by (leb (end - start) limit)
    (λ e. e ∙ sym (le-leb end (start + limit) (omega (arith, leb-true (end - start) limit e))))
    (λ e. e ∙ sym (lt-leb end (start + limit) (omega (arith, leb-false (end - start) limit e))))

-- No identity is held twice: what that says of two places, and that it stays so where a place is set.
use mathlib.Core.Bool.{true, false, not}
use mathlib.Core.List.{List, [], ◌∷◌}
use mathlib.Core.Path.{◌≡◌, ap}
use Prim.Native.Nat.{ℕ, zero, suc, ◌<◌, suc-le-suc, zero-le}
use native.Mathlib.Nat.{not-suc-le-zero, le_of_suc-le-suc}
use native.Mathlib.Omega.{arith}
use lib.ListN.{length, get_or, set}
use borrow.Author.Tests.{not-true}
use Rattle.lists.specs.Choice.{either}
use Rattle.lists.specs.Lists.{all_of}
use Rattle.lists.proofs.Choice.{clash, both_left, both_right, both_true, either_left, either-right, either-cases}
use Rattle.lists.proofs.Lists.{all-at, all-by, all_set}
use Rattle.places.specs.Places.{same_identity, no_place, empty_place}
use Rattle.places.specs.declared.Place.{Place}
use Rattle.places.proofs.HeldLaws.{same-identity-swap}
use Rattle.board.specs.Boards.{differs, distinct}

-- Of two places the later one has another identity than a held earlier one.
pub distinct-two : (ps : List Place) → distinct ps ≡ true → (k j : ℕ) → k < j → j < length ps → empty_place (get_or ps k no_place) ≡ false
    → same_identity (get_or ps k no_place).identity (get_or ps j no_place).identity ≡ false
unfolding distinct
distinct-two [] t k j h l e = absurd (not-suc-le-zero l)
distinct-two (p ∷ ps) t zero zero h l e = absurd (not-suc-le-zero h)
distinct-two (p ∷ ps) t zero (suc j) h l e =
    either-cases (empty_place p) (all_of (differs p) ps) (both_left (either (empty_place p) (all_of (differs p) ps)) (distinct ps) t)
    (λ m. clash (empty_place p) m e)
    (λ a. not-true _ (all-at (differs p) ps no_place a j (le_of_suc-le-suc l)))
distinct-two (p ∷ ps) t (suc k) zero h l e = absurd (not-suc-le-zero h)
distinct-two (p ∷ ps) t (suc k) (suc j) h l e =
    distinct-two ps (both_right (either (empty_place p) (all_of (differs p) ps)) (distinct ps) t) k j (le_of_suc-le-suc h) (le_of_suc-le-suc l) e

-- A place is set that no other place has the identity of.
pub distinct-set : (ps : List Place) (k : ℕ) (p : Place) → distinct ps ≡ true
    → ((j : ℕ) → j < length ps → (j ≡ k → ⊥) → same_identity p.identity (get_or ps j no_place).identity ≡ false) → distinct (set ps k p) ≡ true
unfolding distinct
distinct-set [] k p t h = t
distinct-set (q ∷ qs) zero p t h =
    both_true
    (either-right (empty_place p) (all-by (differs p) qs no_place (λ j l. ap not (h (suc j) (suc-le-suc l) (λ e. absurd (omega (arith, e)))))))
    (both_right (either (empty_place q) (all_of (differs q) qs)) (distinct qs) t)
distinct-set (q ∷ qs) (suc k) p t h =
    both_true
    (either-cases (empty_place q) (all_of (differs q) qs) (both_left (either (empty_place q) (all_of (differs q) qs)) (distinct qs) t)
    (λ m. either_left (all_of (differs q) (set qs k p)) m)
    (λ a. either-right (empty_place q) (all_set (differs q) qs k p a (ap not (same-identity-swap p.identity q.identity (h 0 (suc-le-suc zero-le) (λ e. absurd (omega (arith, e)))))))))
    (distinct-set qs k p (both_right (either (empty_place q) (all_of (differs q) qs)) (distinct qs) t) (λ j l n. h (suc j) (suc-le-suc l) (λ e. n (omega (arith, e)))))

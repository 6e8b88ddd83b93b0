-- What it says that a call is refused for the board or the clock, and that it is not.
use mathlib.Core.Bool.{true, false}
use mathlib.Core.Path.{◌≡◌}
use Prim.Native.Nat.{ℕ, ◌≤◌}
use native.Mathlib.Omega.{arith}
use lib.Dec.{ltb}
use borrow.Author.Tests.{ltb-false}
use Rattle.lists.proofs.Choice.{by}
use Rattle.board.specs.Boards.{in_range, good_board, refusal_at}
use Rattle.board.specs.declared.Board.{Board}

pub record Unrefused (b : Board) (clock : ℕ) : Type 0 where
  pub sound : good_board b ≡ true
  pub ranged : in_range clock ≡ true
  pub no-earlier : b.clock ≤ clock

pub unrefused-parts : (b : Board) (clock : ℕ) → refusal_at b clock ≡ 0 → Unrefused b clock
unfolding refusal_at
unrefused-parts b clock =
    by (good_board b)
    (λ g. rw g (by (in_range clock)
    (λ t. rw t (by (ltb clock b.clock)
    (λ e. rw e (λ z. absurd (omega (arith, z))))
    (λ e. rw e (λ z. record { sound = g; ranged = t; no-earlier = ltb-false clock b.clock e }))))
    (λ f. rw f (λ z. absurd (omega (arith, z))))))
    (λ g. rw g (λ z. absurd (omega (arith, z))))

-- 36: a board that is not good, and no other
pub bad-refusal : (b : Board) (clock : ℕ) → good_board b ≡ false → refusal_at b clock ≡ 36
unfolding refusal_at
bad-refusal b clock f = rw f

pub good-refusal : (b : Board) (clock : ℕ) → good_board b ≡ true → refusal_at b clock ≡ 36 → ⊥
unfolding refusal_at
good-refusal b clock g =
    rw g (by (in_range clock)
    (λ t. rw t (by (ltb clock b.clock) (λ u. rw u (λ e. absurd (omega (arith, e)))) (λ u. rw u (λ e. absurd (omega (arith, e))))))
    (λ t. rw t (λ e. absurd (omega (arith, e)))))

-- The number of a post is the one whose cause the history and the record give, and it has no other.
use mathlib.Core.Path.{◌≡◌, refl, sym}
use Prim.Native.Nat.{ℕ, ◌≤◌, ◌<◌}
use native.Mathlib.Omega.{arith}
use lib.Dec.{leb}
use borrow.Author.Tests.{leb-true, leb-false}
use Rattle.lists.proofs.Choice.{by, clash}
use Rattle.message.specs.declared.Record.{Record}
use Rattle.places.specs.declared.Identity.{Identity}
use Rattle.places.specs.declared.Place.{Place}
use Rattle.board.specs.Posts.{dropped, post_of}
use Rattle.board.specs.declared.Board.{Board}
use Rattle.promises.specs.Calls.{History}
use Rattle.promises.specs.Accepted.{IsReport, Reported, Known, last_clock}
use Rattle.promises.specs.Accepted.Known.{by-report, by-cancellation}
use Rattle.promises.specs.Refusals.{Refuses, Accepts, Concerns, Already, NoRoom, Unplaced}
use Rattle.promises.specs.Refusals.Refuses.{given, passed}
use Rattle.promises.specs.Refusals.Concerns.{reports, cancels}
use Rattle.promises.specs.Refusals.Already.{held, again}
use Rattle.promises.specs.Answers.{Timely, Full, found_after, PostAnswered}
use Rattle.promises.proofs.Messages.{one-identity, fit}
use Rattle.promises.proofs.Held.{On, on-dropped}
use Rattle.promises.proofs.Refusing.{past, one_answer, Knows, answered}
use Rattle.promises.proofs.Tracks.{Stands, Tracks, stands-later, stands-unnamed, stands-named, stands-as}
use Rattle.promises.proofs.Room.{holds_on, not_full, is-full}

-- What a post finds.

module _ {h : History} {b : Board} (t : Tracks h b) (clock : ℕ) where
  standing : {q : Place} → On (dropped clock b.places) q → Stands h q
  standing {q} o = t.stands q (on-dropped clock b.places q o).0

  knows : last_clock h ≤ clock → Knows (dropped clock b.places) clock (found_after h clock)
  knows y =
      record {
        marked = λ q o. stands-named (standing o);
        unmarked = λ q o. stands-unnamed (standing o);
        held = λ q o. stands-as (standing o);
        latest = λ q o. stands-later (standing o);
        marked-on = λ i l x. holds_on t y i (by-cancellation x) l;
        held_on = λ i c l x. holds_on t y i (by-report c x) l;
        room = not_full t y;
        full = is-full t y;
      }

  module _ (r : Record) where
    -- The number of a post has its cause, …
    pub answer-cause : PostAnswered h clock r (post_of b clock r).answer
    answer-cause =
        answered b clock r (found_after h clock) (λ x. absurd x) (λ f. clash _ t.sound f) (sym t.clock) (λ g l. knows (omega (arith, l, t.clock)))

    -- … and no other: where a number's cause holds, that is the number.
    pub cause-answer : (n : ℕ) → PostAnswered h clock r n → (post_of b clock r).answer ≡ n
    cause-answer n = one_answer (found_after h clock) clock r (post_of b clock r).answer n answer-cause

-- What 0 and 23 say.

module _ (h : History) (clock : ℕ) (r : Record) where
  -- neither is 36, 16, 17 or one of 13 to 20
  unplaced : {n : ℕ} → n < 36 → (12 < n → 20 < n) → PostAnswered h clock r n → Unplaced (found_after h clock) clock r n
  unplaced {n} small far x =
      let off : (k : ℕ) → 12 < k → k < 21 → n ≡ k → ⊥ = λ k low high e. let y = far (omega (arith, e, low)) in absurd (omega (arith, y, e, high)) in
      let clocks = (past (past (past x (λ e. absurd (omega (arith, e, small)))).1 (off 16 (omega (arith)) (omega (arith)))).1 (off 17 (omega (arith)) (omega (arith)))).1 in
      let starts = (past (past (past clocks (off 13 (omega (arith)) (omega (arith)))).1 (off 15 (omega (arith)) (omega (arith)))).1 (off 18 (omega (arith)) (omega (arith)))).1 in
      (past (past starts (off 19 (omega (arith)) (omega (arith)))).1 (off 20 (omega (arith)) (omega (arith)))).1

  -- what is accepted has a later correction than every one accepted before
  pub later : PostAnswered h clock r 0 → (i : Identity) (c : ℕ) → IsReport clock r i c → (d : ℕ) → Reported i d h → d < c
  later x i c m d y =
      let new = (past (past (unplaced (omega (arith)) (λ e. absurd (omega (arith, e))) x) (λ e. absurd (omega (arith, e)))).1 (λ e. absurd (omega (arith, e)))).0 in
      by (leb c d) (λ t. absurd (new (held m y (leb-true c d t)))) (λ f. leb-false c d f)

  no_room : {n : ℕ} → Refuses 23 (NoRoom (found_after h clock) clock r) Accepts n → (n ≡ 0 → ⊥) → Full h clock
  no_room (given c) d = c.full
  no_room (passed u z) d = absurd (d z)

  pub only-room : PostAnswered h clock r 23 → Full h clock
  only-room x =
      no_room (past (past (unplaced (omega (arith)) (λ e. omega (arith)) x) (λ e. absurd (omega (arith, e)))).1 (λ e. absurd (omega (arith, e)))).1 (λ e. absurd (omega (arith, e)))

  -- a message of a new identity
  module _ (y : Timely h clock) {i : Identity} (c : Concerns clock r i) (l : clock < i.end) (u : Known i h → ⊥) where
    same : {j : Identity} → Concerns clock r j → Known j h → ⊥
    same x k = u (rw (one-identity c x) k)

    unsettled : Already (found_after h clock) clock r → ⊥
    unsettled (held {c = e} {d = d} m x le) = same (reports e m) (by-report d x)
    unsettled (again m x) = same (cancels m) (by-cancellation x)

    new-so : {n : ℕ} → Refuses 23 (NoRoom (found_after h clock) clock r) Accepts n → PostAnswered h clock r n
    new-so x =
        passed (λ z. z)
        (passed (λ o. o y.ranged)
        (passed (λ e. absurd (omega (arith, e, y.no-earlier)))
        (fit c l (passed (λ z. same (reports z.1 z.2) (by-cancellation z.3)) (passed unsettled x)))))

    pub new-full : Full h clock → PostAnswered h clock r 23
    new-full f = new-so (given record { identity = i; concerned = c; unmarked = λ x. u (by-cancellation x); unheld = λ d x. u (by-report d x); full = f })

    pub new-accepted : (Full h clock → ⊥) → PostAnswered h clock r 0
    new-accepted n = new-so (passed (λ x. n x.full) refl)

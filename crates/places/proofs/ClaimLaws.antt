-- What a message claims where it is not refused: a held place, a marked one for a cancellation; and nothing for a test.
use mathlib.Core.Bool.{true}
use mathlib.Core.Path.{◌≡◌, refl}
use Prim.Native.Nat.{ℕ, ◌<◌}
use native.Mathlib.Omega.{arith}
use lib.Dec.{leb, eqb}
use borrow.Author.Tests.{eqb-false, leb-false}
use Rattle.lists.specs.Choice.{both}
use Rattle.lists.proofs.Choice.{by, both_left, both_true}
use Rattle.figures.specs.Letters.{good_letters}
use Rattle.groups.specs.declared.Group.{Group}
use Rattle.headings.specs.Headings.{good_type, good_designator}
use Rattle.headings.specs.Sequences.{good_sequence}
use Rattle.headings.specs.declared.Sequence.{Sequence}
use Rattle.message.specs.Records.{good}
use Rattle.message.specs.declared.Form.{Form}
use Rattle.message.specs.declared.Form.TheVariants.{NoForm, Test, Cancellation, Reported}
use Rattle.message.specs.declared.Record.{Record}
use Rattle.message.proofs.Goodness.{good-parts, heading-parts, area-parts}
use Rattle.calendar.specs.Gregorian.{never}
use Rattle.calendar.specs.Instants.{end_of, target_of}
use Rattle.calendar.proofs.CalendarLaws.{end-bound, end-within, target-bound, target-within}
use Rattle.places.specs.Padded.{held_sequence, padded_of}
use Rattle.places.specs.Places.{held_correction, held_place}
use Rattle.places.specs.Claims.{Claim, identity_of, report_place, target_place, ending, cancels, timed, is_test, start_at, end_at, claim_of}
use Rattle.places.specs.declared.Place.{Place}
use Rattle.places.proofs.PaddedLaws.{padded-held}
use Rattle.places.proofs.ClaimReturns.{named_good, own_good}
use Rattle.places.proofs.HeldLaws.{identity-held}

-- What a message claims is held.

record-formed : (r : Record) (s : Sequence) → good r ≡ true → good_sequence s ≡ true
    → both (good_type r.heading.designator.kind) (both (good_letters 4 r.area.indicator) (held_sequence (padded_of s))) ≡ true
unfolding good_designator
record-formed r s g h =
    both_true (both_left (good_type r.heading.designator.kind) _ (heading-parts r.heading (good-parts r g).heading).designator)
    (both_true (area-parts r.area (good-parts r g).area).indicator (padded-held s h))

report-held : (clock : ℕ) (r : Record) (start : ℕ) → good r ≡ true → (end_of r.heading.designator.kind start r.line.valid.to ≡ never → ⊥)
    → clock < end_of r.heading.designator.kind start r.line.valid.to → held_place clock (report_place r start (end_of r.heading.designator.kind start r.line.valid.to)) ≡ true
unfolding held_place report_place held_correction
report-held clock r start g n l =
    let end : ℕ = end_of r.heading.designator.kind start r.line.valid.to in
    let early : end < never = omega (arith, n, end-bound r.heading.designator.kind start r.line.valid.to) in
    let w = end-within r.heading.designator.kind start r.line.valid.to early in
    both_true
    (identity-held clock (identity_of r r.line.sequence start end) (record { formed = record-formed r r.line.sequence g (own_good r g); starts = w.0; short = w.1; lasts = l; timely = early }))
    (heading-parts r.heading (good-parts r g).heading).correction

target-held : (clock : ℕ) (r : Record) (s : Sequence) (from : Group) (end : ℕ) → good r ≡ true → good_sequence s ≡ true → end < never
    → (target_of r.heading.designator.kind end from ≡ never → ⊥) → clock < end → held_place clock (target_place r s (target_of r.heading.designator.kind end from) end) ≡ true
unfolding held_place target_place held_correction
target-held clock r s from end g h e n l =
    let start : ℕ = target_of r.heading.designator.kind end from in
    let w = target-within r.heading.designator.kind end from (omega (arith, n, target-bound r.heading.designator.kind end from)) in
    both_true
    (identity-held clock (identity_of r s start end) (record { formed = record-formed r s g h; starts = w.0; short = w.1; lasts = l; timely = e }))
    refl

-- a claim that is not refused
abbrev Holds : ℕ → Claim → Type 0
Holds clock c = c.answer ≡ 0 → held_place clock c.place ≡ true

ending-holds : (clock end : ℕ) (p : Place) → (clock < end → held_place clock p ≡ true) → Holds clock (ending clock end p)
unfolding ending
ending-holds clock end p h =
    by (leb end clock)
    (λ t. rw t (λ z. absurd (omega (arith, z))))
    (λ f. rw f (λ z. h (leb-false end clock f)))

form-holds : (clock : ℕ) (r : Record) → good r ≡ true → (end_at clock r ≡ never → ⊥) → (f : Form) → r.form ≡ f → Holds clock (timed clock r (start_at clock r) (end_at clock r) f)
unfolding timed cancels
form-holds clock r g n NoForm e = λ z. absurd (omega (arith, z))
form-holds clock r g n (Test k) e = λ z. absurd (omega (arith, z))
form-holds clock r g n (Cancellation s from) e =
    by (eqb (target_of r.heading.designator.kind (end_at clock r) from) never)
    (λ t. rw t (λ z. absurd (omega (arith, z))))
    (λ f. rw f (ending-holds clock (end_at clock r) (target_place r s (target_of r.heading.designator.kind (end_at clock r) from) (end_at clock r)) (λ l.
    target-held clock r s from (end_at clock r) g (named_good r g e) (omega (arith, n, end-bound r.heading.designator.kind (start_at clock r) r.line.valid.to))
    (eqb-false (target_of r.heading.designator.kind (end_at clock r) from) never f) l)))
form-holds clock r g n Reported e =
    ending-holds clock (end_at clock r) (report_place r (start_at clock r) (end_at clock r)) (report-held clock r (start_at clock r) g n)

pub claim-held : (clock : ℕ) (r : Record) → (claim_of clock r).answer ≡ 0 → held_place clock (claim_of clock r).place ≡ true
unfolding claim_of
claim-held clock r =
    by (good r)
    (λ g. rw g (by (is_test r.form)
    (λ t. rw t (λ z. absurd (omega (arith, z))))
    (λ t. rw t (by (eqb (start_at clock r) never)
    (λ u. rw u (λ z. absurd (omega (arith, z))))
    (λ u. rw u (by (eqb (end_at clock r) never)
    (λ v. rw v (λ z. absurd (omega (arith, z))))
    (λ v. rw v (form-holds clock r g (eqb-false (end_at clock r) never v) r.form refl))))))))
    (λ g. rw g (λ z. absurd (omega (arith, z))))

-- "A cancellation marks its target's place, or takes a marked place where none is held": an accepted one claims a marked place.
cancelled-timed : (clock : ℕ) (r : Record) (start end : ℕ) (s : Sequence) (from : Group) (f : Form) → f ≡ Cancellation s from
    → (timed clock r start end f).answer ≡ 0 → (timed clock r start end f).place.marked ≡ true
unfolding timed cancels ending target_place
cancelled-timed clock r start end s from f e =
    rw e (by (eqb (target_of r.heading.designator.kind end from) never)
    (λ v. rw v (λ z. absurd (omega (arith, z))))
    (λ v. rw v (by (leb end clock) (λ w. rw w (λ z. absurd (omega (arith, z)))) (λ w. rw w (λ z. refl)))))

pub cancelled-claim : (clock : ℕ) (r : Record) (s : Sequence) (from : Group) → r.form ≡ Cancellation s from → (claim_of clock r).answer ≡ 0 → (claim_of clock r).place.marked ≡ true
unfolding claim_of
cancelled-claim clock r s from e =
    by (good r)
    (λ g. rw g (by (is_test r.form)
    (λ t. rw t (λ z. absurd (omega (arith, z))))
    (λ t. rw t (by (eqb (start_at clock r) never)
    (λ u. rw u (λ z. absurd (omega (arith, z))))
    (λ u. rw u (by (eqb (end_at clock r) never)
    (λ v. rw v (λ z. absurd (omega (arith, z))))
    (λ v. rw v (cancelled-timed clock r (start_at clock r) (end_at clock r) s from r.form e))))))))
    (λ g. rw g (λ z. absurd (omega (arith, z))))

-- "15 a test"
pub test-unclaimed : (clock : ℕ) (r : Record) → is_test r.form ≡ true → (claim_of clock r).answer ≡ 0 → ⊥
unfolding claim_of
test-unclaimed clock r t =
    by (good r)
    (λ g. rw (g, t) (λ z. absurd (omega (arith, z))))
    (λ g. rw g (λ z. absurd (omega (arith, z))))

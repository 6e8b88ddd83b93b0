-- What a message asks for, one law for each return of the code.
use mathlib.Core.Bool.{true, false}
use mathlib.Core.Path.{◌≡◌, sym, ap, ◌∙◌}
use Prim.Native.Nat.{ℕ, ◌≤◌}
use native.Mathlib.Omega.{arith}
use borrow.Author.Tests.{ne_eqb, ltb-true, ltb-false}
use Rattle.std.specs.Prelude.{Option, Some, None, Result, Ok, Err}
use Rattle.std.specs.Option.{ok_or}
use Rattle.lists.specs.Choice.{found}
use Rattle.lists.proofs.Choice.{by, both_left, pick_true, pick-false}
use Rattle.groups.specs.declared.Group.{Group}
use Rattle.headings.specs.Sequences.{good_sequence}
use Rattle.headings.specs.declared.Sequence.{Sequence}
use Rattle.message.specs.Records.{good_cancellation, good_form, good}
use Rattle.message.specs.Reports.{empty_report}
use Rattle.message.proofs.Goodness.{good-parts, line-parts, cancellation-parts}
use Rattle.message.specs.declared.Form.TheVariants.{Cancellation}
use Rattle.message.specs.declared.Record.{Record}
use Rattle.calendar.specs.Gregorian.{never, is_instant}
use Rattle.calendar.specs.Instants.{start_of, end_of, target_of}
use Rattle.calendar.proofs.CalendarLaws.{start-bound, end-bound, target-bound}
use Rattle.places.specs.Claims.{Claim, claim_in, identity_of, target_place, ending, cancels, timed, is_test, claim_of}
use Rattle.places.specs.declared.Identity.{Identity}
use Rattle.places.specs.declared.Place.{Place}
use Rattle.places.specs.declared.refusals.Refusal.{Refusal}
use Rattle.places.specs.declared.refusals.Refusal.TheVariants.{NoStart, NoEnd}

-- What `ok_or` makes of an instant that may not be found.

module _ (n : ℕ) (bound : n ≤ never) (why : Refusal) {o : Option ℕ} {q : Result ℕ Refusal} (is : o ≡ found is_instant n) (or : q ≡ ok_or o why) where
  not-found : {e : Refusal} → q ≡ Err e → (n ≡ never) × (why ≡ e)
  not-found {e} w =
      by (is_instant n)
      (λ (t : is_instant n ≡ true). absurd (let z : Ok n ≡ Err e = sym (or ∙ ap (λ x. ok_or x why) (is ∙ pick_true (Some n) None t)) ∙ w in cc))
      (λ (t : is_instant n ≡ false). (omega (arith, ltb-false n never t, bound), let z : Err why ≡ Err e = sym (or ∙ ap (λ x. ok_or x why) (is ∙ pick-false (Some n) None t)) ∙ w in cc))

  is-found : {t : ℕ} → q ≡ Ok t → (n ≡ t) × (n ≡ never → ⊥)
  is-found {t} w =
      by (is_instant n)
      (λ (b : is_instant n ≡ true). (let z : Ok n ≡ Ok t = sym (or ∙ ap (λ x. ok_or x why) (is ∙ pick_true (Some n) None b)) ∙ w in cc, λ e. absurd (omega (arith, ltb-true n never b, e))))
      (λ (b : is_instant n ≡ false). absurd (let z : Err why ≡ Ok t = sym (or ∙ ap (λ x. ok_or x why) (is ∙ pick-false (Some n) None b)) ∙ w in cc))

-- a cancellation without a target's start, and with one
module _ (clock : ℕ) (r : Record) (s : Sequence) (from : Group) (end : ℕ) {o : Option ℕ} {q : Result ℕ Refusal}
    (is : o ≡ found is_instant (target_of r.heading.designator.kind end from)) (or : q ≡ ok_or o NoEnd) where
  pub no-target : {e : Refusal} {x : Result Place Refusal} → q ≡ Err e → x ≡ Err e → claim_in x ≡ cancels clock r s from end
  unfolding cancels
  no-target w x =
      let n = not-found _ (target-bound r.heading.designator.kind end from) NoEnd is or w in
      rw (x, ← n.1, n.0)

  pub a-target : {target : ℕ} {i : Identity} {k : Claim} → q ≡ Ok target → i ≡ identity_of r s target end
      → k ≡ ending clock end (record { identity = i; correction = 0; marked = true }) → k ≡ cancels clock r s from end
  unfolding cancels target_place
  a-target {target} w e k =
      let f = is-found _ (target-bound r.heading.designator.kind end from) NoEnd is or w in
      k ∙ rw (e, f.0, ne_eqb target never (λ z. f.1 (f.0 ∙ z)))

-- a good record that is no test
module _ (clock : ℕ) (r : Record) (good-is : good r ≡ true) (no-test : is_test r.form ≡ false) {o : Option ℕ} {q : Result ℕ Refusal}
    (is : o ≡ found is_instant (start_of clock r.line.valid.from)) (or : q ≡ ok_or o NoStart) where
  pub no-start : {e : Refusal} {x : Result Place Refusal} → q ≡ Err e → x ≡ Err e → claim_in x ≡ claim_of clock r
  unfolding claim_of
  no-start w x =
      let n = not-found _ (start-bound clock r.line.valid.from) NoStart is or w in
      rw (x, ← n.1, good-is, no-test, n.0)

  module _ {start : ℕ} (starts : q ≡ Ok start) {p : Option ℕ} {v : Result ℕ Refusal} (ends : p ≡ found is_instant (end_of r.heading.designator.kind start r.line.valid.to)) (so : v ≡ ok_or p NoEnd) where
    pub no-end : {e : Refusal} {x : Result Place Refusal} → v ≡ Err e → x ≡ Err e → claim_in x ≡ claim_of clock r
    unfolding claim_of
    no-end w x =
        let f = is-found _ (start-bound clock r.line.valid.from) NoStart is or starts in
        let n = not-found _ (end-bound r.heading.designator.kind start r.line.valid.to) NoEnd ends so w in
        rw (x, ← n.1, good-is, no-test, f.0, ne_eqb start never (λ z. f.1 (f.0 ∙ z)), n.0)

    pub a-claim : {end : ℕ} {k : Claim} → v ≡ Ok end → k ≡ timed clock r start end r.form → k ≡ claim_of clock r
    unfolding claim_of
    a-claim {end} w k =
        let f = is-found _ (start-bound clock r.line.valid.from) NoStart is or starts in
        let g = is-found _ (end-bound r.heading.designator.kind start r.line.valid.to) NoEnd ends so w in
        k ∙ rw (good-is, no-test, f.0, ne_eqb start never (λ z. f.1 (f.0 ∙ z)), g.0, ne_eqb end never (λ z. g.1 (g.0 ∙ z)))

-- the sequence that a cancellation names, and a message's own
pub named_good : (r : Record) {s : Sequence} {from : Group} → good r ≡ true → r.form ≡ Cancellation s from → good_sequence s ≡ true
unfolding good_form
named_good r {s} {from} g e =
    let f : good_form r.heading.designator.kind r.line r.report (Cancellation s from) ≡ true = rw e at (good-parts r g).form in
    (cancellation-parts r.line s from (both_left (good_cancellation r.line s from) (empty_report r.report) f)).sequence

pub own_good : (r : Record) → good r ≡ true → good_sequence r.line.sequence ≡ true
own_good r g = (line-parts r.line (good-parts r g).line).sequence

-- What a message asks of a board, in the paper's words: a number that no board can change, or a place.
use mathlib.Core.Bool.{Bool, true, false}
use mathlib.Core.Path.{◌≡◌, refl, sym, ap, subst, ◌∙◌}
use Prim.Native.Nat.{ℕ, ◌≤◌, ◌<◌}
use native.Mathlib.Omega.{arith}
use lib.Dec.{leb, eqb}
use borrow.Author.Tests.{leb-true, leb-false, eqb-true, eqb-false}
use Rattle.lists.proofs.Choice.{by, clash}
use Rattle.groups.specs.declared.Group.{Group}
use Rattle.headings.specs.declared.Sequence.{Sequence}
use Rattle.message.specs.Records.{good_form, good}
use Rattle.message.specs.declared.Form.{Form}
use Rattle.message.specs.declared.Form.TheVariants.{NoForm, Test, Cancellation, Reported}
use Rattle.message.specs.declared.Record.{Record}
use Rattle.message.proofs.Goodness.{good-parts}
use Rattle.calendar.specs.Gregorian.{never}
use Rattle.calendar.specs.Instants.{end_of, target_of}
use Rattle.calendar.specs.Meanings.{IsStart, IsEnd}
use Rattle.calendar.proofs.CalendarLaws.{start-found, start-bound, start-only, start_none, end-found, end-bound, end-complete, end-only, end_none, target_found, target-bound, target-complete, target_none}
use Rattle.places.specs.Padded.{padded_of}
use Rattle.places.specs.Places.{no_place}
use Rattle.places.specs.Claims.{identity_of, report_place, target_place, ending, cancels as cancels_of, timed, is_test, start_at, end_at, claim_of}
use Rattle.places.specs.declared.Identity.{Identity}
use Rattle.places.specs.declared.Place.{Place}
use Rattle.promises.specs.Accepted.{IsReport, IsCancellation}
use Rattle.promises.specs.Refusals.{Refuses, Concerns, NoEnd, Unfit}
use Rattle.promises.specs.Refusals.Refuses.{given, passed}
use Rattle.promises.specs.Refusals.Concerns.{reports, cancels}
use Rattle.promises.specs.Refusals.NoEnd.{no_end, no_target}

abbrev pub reported_place : Identity → ℕ → Place
reported_place i c = record { identity = i; correction = c; marked = false }

abbrev pub marked_place : Identity → Place
marked_place i = record { identity = i; correction = 0; marked = true }

-- no number at all
abbrev pub None : ℕ → Type 0
None n = ⊥

pub data Asks (clock : ℕ) (r : Record) : ℕ → Place → Type 0 where
  unfit : {n : ℕ} → Unfit clock r None n → Asks clock r n no_place
  report : {i : Identity} {c : ℕ} → IsReport clock r i c → clock < i.end → Asks clock r 0 (reported_place i c)
  cancellation : {i : Identity} → IsCancellation clock r i → clock < i.end → Asks clock r 0 (marked_place i)

pub unfit-range : (clock : ℕ) (r : Record) {n : ℕ} → Unfit clock r None n → (12 < n) × (n < 21)
unfit-range clock r (given f) = (omega (arith), omega (arith))
unfit-range clock r (passed a (given f)) = (omega (arith), omega (arith))
unfit-range clock r (passed a (passed b (given f))) = (omega (arith), omega (arith))
unfit-range clock r (passed a (passed b (passed c (given f)))) = (omega (arith), omega (arith))
unfit-range clock r (passed a (passed b (passed c (passed d (given f))))) = (omega (arith), omega (arith))
unfit-range clock r (passed a (passed b (passed c (passed d (passed e x))))) = absurd x

-- Forms.

no-form : (r : Record) → good r ≡ true → r.form ≡ NoForm → ⊥
unfolding good_form
no-form r g e = clash false (rw e at (good-parts r g).form) refl

test-form : (f : Form) → is_test f ≡ true → (n : ℕ) × (f ≡ Test n)
test-form NoForm t = clash false t refl
test-form (Test n) t = (n, refl)
test-form (Cancellation s from) t = clash false t refl
test-form Reported t = clash false t refl

is_reported : Form → Bool
is_reported NoForm = false
is_reported (Test n) = false
is_reported (Cancellation s from) = false
is_reported Reported = true

named : Form → Sequence
named NoForm = record { letter = 0; digits = 0; number = 0 }
named (Test n) = record { letter = 0; digits = 0; number = 0 }
named (Cancellation s from) = s
named Reported = record { letter = 0; digits = 0; number = 0 }

begun : Form → Group
begun NoForm = record { day = 0; hour = 0; minute = 0 }
begun (Test n) = record { day = 0; hour = 0; minute = 0 }
begun (Cancellation s from) = from
begun Reported = record { day = 0; hour = 0; minute = 0 }

-- A message concerns one identity.

-- an identity by its parts
identity-is : (r : Record) (s : Sequence) (i : Identity) {start end : ℕ} → i.kind ≡ r.heading.designator.kind → i.area ≡ r.area.indicator
    → i.sequence ≡ padded_of s → i.start ≡ start → i.end ≡ end → identity_of r s start end ≡ i
identity-is r s i k a q u v = λ j. record { kind = sym k j; area = sym a j; sequence = sym q j; start = sym u j; end = sym v j }

module _ {clock : ℕ} {r : Record} {i j : Identity} where
  pub no_both : {c : ℕ} → IsReport clock r i c → IsCancellation clock r j → ⊥
  unfolding is_reported
  no_both m n = clash (is_reported r.form) (rw m.form) (rw n.form)

  one-report : {c d : ℕ} → IsReport clock r i c → IsReport clock r j d → i ≡ j
  one-report m n =
      let s : i.start ≡ j.start = start-only m.start n.start in
      let e : i.end ≡ j.end = sym (end-complete m.end) ∙ (ap (λ (t : ℕ). end_of r.heading.designator.kind t r.line.valid.to) s ∙ end-complete n.end) in
      sym (identity-is r r.line.sequence i m.kind m.area m.sequence s e) ∙ identity-is r r.line.sequence j n.kind n.area n.sequence refl refl

  one-target : IsCancellation clock r i → IsCancellation clock r j → i ≡ j
  unfolding named begun
  one-target m n =
      let kind : ℕ = r.heading.designator.kind in
      let form : Cancellation m.named m.from ≡ Cancellation n.named n.from = sym m.form ∙ n.form in
      let same : m.named ≡ n.named = ap named form in
      let o : m.own ≡ n.own = start-only m.own-start n.own-start in
      let e : i.end ≡ j.end = sym (end-complete m.end) ∙ (ap (λ (t : ℕ). end_of kind t r.line.valid.to) o ∙ end-complete n.end) in
      let s : i.start ≡ j.start =
      sym (target-complete m.start) ∙ (ap (λ (t : ℕ). target_of kind t m.from) e ∙ (ap (λ (g : Group). target_of kind j.end g) (ap begun form) ∙ target-complete n.start)) in
      sym (identity-is r m.named i m.kind m.area m.sequence s e)
      ∙ (ap (λ (x : Sequence). identity_of r x j.start j.end) same ∙ identity-is r n.named j n.kind n.area n.sequence refl refl)

pub one-identity : {clock : ℕ} {r : Record} {i j : Identity} → Concerns clock r i → Concerns clock r j → i ≡ j
one-identity (reports c m) (reports d n) = one-report m n
one-identity (reports c m) (cancels n) = absurd (no_both m n)
one-identity (cancels m) (reports d n) = absurd (no_both n m)
one-identity (cancels m) (cancels n) = one-target m n

-- It has got past 13, 15, 18 and 19, and past 20 where its identity has not ended.

-- an end is that of the only start
end-from : {clock kind start other end : ℕ} {from to : Group} → IsStart clock from start → IsStart clock from other → IsEnd kind start to end → IsEnd kind other to end
end-from {kind = kind} {end = end} {to = to} s t e = subst (λ (u : ℕ). IsEnd kind u to end) (start-only s t) e

module _ {clock : ℕ} {r : Record} where
  sound-so : {i : Identity} → Concerns clock r i → good r ≡ true
  sound-so (reports c m) = m.sound
  sound-so (cancels m) = m.sound

  no-test-so : {i : Identity} → Concerns clock r i → (n : ℕ) × (r.form ≡ Test n) → ⊥
  no-test-so (reports c m) t = clash (is_test r.form) (rw t.1) (rw m.form)
  no-test-so (cancels m) t = clash (is_test r.form) (rw t.1) (rw m.form)

  start-so : {i : Identity} → Concerns clock r i → ((t : ℕ) → IsStart clock r.line.valid.from t → ⊥) → ⊥
  start-so {i} (reports c m) none = none i.start m.start
  start-so (cancels m) none = none m.own m.own-start

  end-so : {i : Identity} → Concerns clock r i → NoEnd clock r → ⊥
  unfolding is_reported begun
  end-so {i} (reports c m) (no_end s n) = n i.end (end-from m.start s m.end)
  end-so (reports c m) (no_target f s e n) = clash (is_reported r.form) (rw m.form) (rw f)
  end-so {i} (cancels m) (no_end s n) = n i.end (end-from m.own-start s m.end)
  end-so {i} (cancels m) (no_target f s e n) =
      n i.start (rw (← (end-only (end-from m.own-start s m.end) e), ← (ap begun (sym m.form ∙ f))) m.start)

  module _ {behind : ℕ → Type 0} where
    timed-so : {i : Identity} {n : ℕ} → Concerns clock r i → Refuses 20 ((j : Identity) × Concerns clock r j × (j.end ≤ clock)) behind n → Unfit clock r behind n
    timed-so c x = passed (λ f. clash (good r) (sound-so c) f) (passed (no-test-so c) (passed (start-so c) (passed (end-so c) x)))

    pub fit : {i : Identity} {n : ℕ} → Concerns clock r i → clock < i.end → behind n → Unfit clock r behind n
    fit c l x = timed-so c (passed (λ e. absurd (omega (arith, l, e.2, ap (λ (j : Identity). j.end) (one-identity c e.1)))) x)

-- The definition's claim is what the message asks.

module _ (clock : ℕ) (r : Record) (g : good r ≡ true) (s : IsStart clock r.line.valid.from (start_at clock r))
    (e : IsEnd r.heading.designator.kind (start_at clock r) r.line.valid.to (end_at clock r)) where
  report-asks : r.form ≡ Reported → Asks clock r (ending clock (end_at clock r) (report_place r (start_at clock r) (end_at clock r))).answer (ending clock (end_at clock r) (report_place r (start_at clock r) (end_at clock r))).place
  unfolding ending report_place
  report-asks f =
      by (leb (end_at clock r) clock)
      (λ t. rw t (unfit (timed-so (reports r.heading.correction this) (given (_, reports r.heading.correction this, leb-true (end_at clock r) clock t)))))
      (λ t. rw t (report this (leb-false (end_at clock r) clock t)))
    where
      this : IsReport clock r (identity_of r r.line.sequence (start_at clock r) (end_at clock r)) r.heading.correction
      this = record { sound = g; form = f; kind = refl; area = refl; sequence = refl; start = s; end = e; corrected = refl }

  cancellation-asks : (named : Sequence) (from : Group) → r.form ≡ Cancellation named from → Asks clock r (cancels_of clock r named from (end_at clock r)).answer (cancels_of clock r named from (end_at clock r)).place
  unfolding cancels_of ending target_place
  cancellation-asks named from f =
      by (eqb (target_of r.heading.designator.kind (end_at clock r) from) never)
      (λ t. rw t (unfit (passed (λ x. clash (good r) g x)
      (passed (λ x. clash (is_test r.form) (rw x.1) (rw f))
      (passed (λ none. none (start_at clock r) s)
      (given (no_target f s e (target_none r.heading.designator.kind (end_at clock r) from (eqb-true _ never t)))))))))
      (λ t. rw t (by (leb (end_at clock r) clock)
      (λ u. rw u (unfit (timed-so (cancels (this t)) (given (_, cancels (this t), leb-true (end_at clock r) clock u)))))
      (λ u. rw u (cancellation (this t) (leb-false (end_at clock r) clock u)))))
    where
      this : eqb (target_of r.heading.designator.kind (end_at clock r) from) never ≡ false
          → IsCancellation clock r (identity_of r named (target_of r.heading.designator.kind (end_at clock r) from) (end_at clock r))
      this t =
          let n = eqb-false (target_of r.heading.designator.kind (end_at clock r) from) never t in
          record {
            named = named;
            from = from;
            own = start_at clock r;
            sound = g;
            form = f;
            kind = refl;
            area = refl;
            sequence = refl;
            own-start = s;
            end = e;
            start = target_found r.heading.designator.kind (end_at clock r) from (omega (arith, n, target-bound r.heading.designator.kind (end_at clock r) from));
          }

  timed-asks : is_test r.form ≡ false → (f : Form) → r.form ≡ f → Asks clock r (timed clock r (start_at clock r) (end_at clock r) f).answer (timed clock r (start_at clock r) (end_at clock r) f).place
  unfolding timed
  timed-asks n NoForm f = absurd (no-form r g f)
  timed-asks n (Test k) f = clash (is_test r.form) (rw f refl) n
  timed-asks n (Cancellation named from) f = cancellation-asks named from f
  timed-asks n Reported f = report-asks f

pub asks : (clock : ℕ) (r : Record) → Asks clock r (claim_of clock r).answer (claim_of clock r).place
unfolding claim_of
asks clock r =
    by (good r)
    (λ g.
    let sound : good r ≡ false → ⊥ = λ f. clash (good r) g f in
    rw g (by (is_test r.form)
    (λ t. rw t (unfit (passed sound (given (test-form r.form t)))))
    (λ n.
    let no_test : (k : ℕ) × (r.form ≡ Test k) → ⊥ = λ x. clash (is_test r.form) (rw x.1) n in
    rw n (by (eqb (start_at clock r) never)
    (λ t. rw t (unfit (passed sound (passed no_test (given (start_none clock r.line.valid.from (eqb-true _ never t)))))))
    (λ u.
    let early = eqb-false (start_at clock r) never u in
    let s = start-found clock r.line.valid.from (omega (arith, early, start-bound clock r.line.valid.from)) in
    rw u (by (eqb (end_at clock r) never)
    (λ t. rw t (unfit (passed sound (passed no_test (passed (λ none. none (start_at clock r) s)
    (given (no_end s (end_none r.heading.designator.kind (start_at clock r) r.line.valid.to (eqb-true _ never t)))))))))
    (λ v.
    let soon = eqb-false (end_at clock r) never v in
    let e = end-found r.heading.designator.kind (start_at clock r) r.line.valid.to (omega (arith, soon, end-bound r.heading.designator.kind (start_at clock r) r.line.valid.to)) in
    rw v (timed-asks clock r g s e n r.form refl))))))))
    (λ f. rw f (unfit (given f)))

-- What a message asks of the board at a clock: the place that it would take, or a refusal.
-- 01, "13; 15 a test; 18 no start; 19 no end, or no start of a target; 20 end at or before the clock"
-- Tied: `asks` (crates/promises/proofs/Messages.antt).
use Rattle.std.specs.Prelude.{Bool, true, false, not, ℕ, leb, eqb, Result, Ok, Err}
use Rattle.lists.specs.Choice.{pick}
use Rattle.groups.specs.declared.Group.{Group}
use Rattle.headings.specs.declared.Sequence.{Sequence}
use Rattle.message.specs.Records.{good}
use Rattle.message.specs.declared.Form.{Form}
use Rattle.message.specs.declared.Form.TheVariants.{NoForm, Test, Cancellation, Reported}
use Rattle.message.specs.declared.Record.{Record}
use Rattle.calendar.specs.Gregorian.{never}
use Rattle.calendar.specs.Instants.{start_of, end_of, target_of}
use Rattle.places.specs.Padded.{padded_of}
use Rattle.places.specs.Places.{no_place}
use Rattle.places.specs.declared.Identity.{Identity}
use Rattle.places.specs.declared.Place.{Place}
use Rattle.places.specs.declared.refusals.Refusal.{Refusal}
use Rattle.places.specs.Refusals.{number_of}

-- what a message asks for: a refusal number, or 0 and the place that it would take
pub record Claim : Type 0 where
  pub answer : ℕ
  pub place : Place

-- refused by a number, and a place asked for
abbrev pub unclaimed : ℕ → Claim
unclaimed number = record { answer = number; place = no_place }

abbrev pub claimed : Place → Claim
claimed p = record { answer = 0; place = p }

-- what the code answers: the place, or the refusal by its name
abbrev pub claim_in : Result Place Refusal → Claim
claim_in (Ok p) = claimed p
claim_in (Err e) = unclaimed (number_of e)

-- "Identity: type, area, sequence as written, start, end."
abbrev pub identity_of : Record → Sequence → ℕ → ℕ → Identity
identity_of r s start end =
    record { kind = r.heading.designator.kind; area = r.area.indicator; sequence = padded_of s; start = start; end = end }

-- a report: its own identity, its correction, no mark
unfoldable pub report_place : Record → ℕ → ℕ → Place
report_place r start end = record { identity = identity_of r r.line.sequence start end; correction = r.heading.correction; marked = false }

-- "A cancellation's target has the cancellation's type, area and end": the target's identity, marked; "a marked place's correction is none"
unfoldable pub target_place : Record → Sequence → ℕ → ℕ → Place
target_place r s start end = record { identity = identity_of r s start end; correction = 0; marked = true }

-- "20 end at or before the clock"
unfoldable pub ending : ℕ → ℕ → Place → Claim
ending clock end p = pick (leb end clock) (unclaimed 20) (claimed p)

-- "19 …, or no start of a target"
unfoldable pub cancels : ℕ → Record → Sequence → Group → ℕ → Claim
cancels clock r s from end =
    pick (eqb (target_of r.heading.designator.kind end from) never) (unclaimed 19)
    (ending clock end (target_place r s (target_of r.heading.designator.kind end from) end))

-- a message whose start and end are known; a good record has a form, and a test has been refused
unfoldable pub timed : ℕ → Record → ℕ → ℕ → Form → Claim
timed clock r start end NoForm = unclaimed 13
timed clock r start end (Test n) = unclaimed 15
timed clock r start end (Cancellation s from) = cancels clock r s from end
timed clock r start end Reported = ending clock end (report_place r start end)

-- "15 a test"
abbrev pub is_test : Form → Bool
is_test NoForm = false
is_test (Test n) = true
is_test (Cancellation s from) = false
is_test Reported = false

-- the start and the end of VALID
abbrev pub start_at : ℕ → Record → ℕ
start_at clock r = start_of clock r.line.valid.from

abbrev pub end_at : ℕ → Record → ℕ
end_at clock r = end_of r.heading.designator.kind (start_at clock r) r.line.valid.to

-- "13; 15 a test; 18 no start; 19 no end, or no start of a target; 20 end at or before the clock", in this order
unfoldable pub claim_of : ℕ → Record → Claim
claim_of clock r =
    pick (not (good r)) (unclaimed 13)
    (pick (is_test r.form) (unclaimed 15)
    (pick (eqb (start_at clock r) never) (unclaimed 18)
    (pick (eqb (end_at clock r) never) (unclaimed 19) (timed clock r (start_at clock r) (end_at clock r) r.form))))

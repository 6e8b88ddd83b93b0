-- What a history has accepted: "the weather reports accepted so far", their corrections and periods, and what accepted cancellations name.
-- A correction is the code of its letter, 0 for none, so that "none, then A to X" is the order of the numbers. A sequence is kept padded;
-- two good sequences that are padded alike are the same as written (`padded-only`).
-- Believed.
use Rattle.std.specs.Prelude.{true, [], ◌∷◌, ◌≡◌, ℕ, eqb}
use Rattle.lists.specs.Choice.{pick}
use Rattle.groups.specs.declared.Group.{Group}
use Rattle.headings.specs.declared.Sequence.{Sequence}
use Rattle.message.specs.Records.{good}
use Rattle.message.specs.declared.Form.TheVariants.{Cancellation, Reported as report_form}
use Rattle.message.specs.declared.Record.{Record}
use Rattle.calendar.specs.Meanings.{IsStart, IsEnd, IsTarget}
use Rattle.places.specs.Padded.{padded_of}
use Rattle.places.specs.declared.Identity.{Identity}
use Rattle.promises.specs.Calls.{Call, History}
use Rattle.promises.specs.Calls.Call.{posted, listed}

-- A report posted at a clock. "Identity: type, area, sequence as written, start, end."
pub record IsReport (clock : ℕ) (r : Record) (i : Identity) (correction : ℕ) : Type 0 where
  pub sound : good r ≡ true
  pub form : r.form ≡ report_form
  pub kind : i.kind ≡ r.heading.designator.kind
  pub area : i.area ≡ r.area.indicator
  pub sequence : i.sequence ≡ padded_of r.line.sequence
  pub start : IsStart clock r.line.valid.from i.start
  pub end : IsEnd r.heading.designator.kind i.start r.line.valid.to i.end
  pub corrected : correction ≡ r.heading.correction

-- A cancellation posted at a clock, and the identity that it names. "A cancellation's target has the cancellation's type, area and end; its
-- start is the latest matching instant before that, under the same limit."
pub record IsCancellation (clock : ℕ) (r : Record) (i : Identity) : Type 0 where
  pub named : Sequence
  pub from : Group
  pub own : ℕ
  pub sound : good r ≡ true
  pub form : r.form ≡ Cancellation named from
  pub kind : i.kind ≡ r.heading.designator.kind
  pub area : i.area ≡ r.area.indicator
  pub sequence : i.sequence ≡ padded_of named
  pub own-start : IsStart clock r.line.valid.from own
  pub end : IsEnd r.heading.designator.kind own r.line.valid.to i.end
  pub start : IsTarget r.heading.designator.kind i.end from i.start

-- a report of that identity and correction was accepted
pub data Reported (i : Identity) (correction : ℕ) : History → Type 0 where
  report-now : {clock answer : ℕ} {r : Record} {h : History} → answer ≡ 0 → IsReport clock r i correction → Reported i correction (posted clock r answer ∷ h)
  report-before : {call : Call} {h : History} → Reported i correction h → Reported i correction (call ∷ h)

-- an accepted cancellation names that identity
pub data Cancelled (i : Identity) : History → Type 0 where
  cancelled-now : {clock answer : ℕ} {r : Record} {h : History} → answer ≡ 0 → IsCancellation clock r i → Cancelled i (posted clock r answer ∷ h)
  cancelled-before : {call : Call} {h : History} → Cancelled i h → Cancelled i (call ∷ h)

-- an accepted identity, reported or cancelled
pub data Known (i : Identity) (h : History) : Type 0 where
  by-report : (correction : ℕ) → Reported i correction h → Known i h
  by-cancellation : Cancelled i h → Known i h

-- the clock of the last accepted post: "An accepted post sets the board's clock"; "The empty board has clock 0."
unfoldable pub last_clock : History → ℕ
last_clock [] = 0
last_clock (posted clock r answer ∷ h) = pick (eqb answer 0) clock (last_clock h)
last_clock (listed time buffer answer count after ∷ h) = last_clock h

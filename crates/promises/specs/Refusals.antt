-- 01, "Post: 36 not a good board; 16 clock outside its range; 17 clock before the board's; 13; 15 a test; 18 no start; 19 no end, or no start of
-- a target; 20 end at or before the clock; 22 a report whose identity is marked; 21 a report held with the same or a later correction, or a
-- cancellation whose target is marked; 23 a new place needed and all 64 in use after the dropping."
-- The numbers in this order, each with its cause by what the post finds. What it finds is said of a history in specs/Answers.antt and of a board
-- in specs/AnyBoard.antt.
-- Believed.
use Rattle.std.specs.Prelude.{false, ◌≡◌, ℕ, ◌≤◌, ◌<◌}
use Rattle.groups.specs.declared.Group.{Group}
use Rattle.headings.specs.declared.Sequence.{Sequence}
use Rattle.message.specs.Records.{good}
use Rattle.message.specs.declared.Form.TheVariants.{Test, Cancellation}
use Rattle.message.specs.declared.Record.{Record}
use Rattle.calendar.specs.Meanings.{IsStart, IsEnd, IsTarget}
use Rattle.places.specs.declared.Identity.{Identity}
use Rattle.board.specs.Boards.{earliest_clock, latest_clock}
use Rattle.promises.specs.Accepted.{IsReport, IsCancellation}

-- A number is given where its cause holds, and those behind it only where that cause does not.
pub data Refuses (number : ℕ) (cause : Type 0) (behind : ℕ → Type 0) : ℕ → Type 0 where
  given : cause → Refuses number cause behind number
  passed : {n : ℕ} → (cause → ⊥) → behind n → Refuses number cause behind n

-- behind them all: nothing is left to refuse the message for
abbrev pub Accepts : ℕ → Type 0
Accepts n = n ≡ 0

-- "The clock given to a board call is 1,440 to 52,591,679."
pub record InRange (clock : ℕ) : Type 0 where
  pub from : earliest_clock ≤ clock
  pub until : clock ≤ latest_clock

-- the message is a report of the identity, or a cancellation that names it
pub data Concerns (clock : ℕ) (r : Record) (i : Identity) : Type 0 where
  reports : (correction : ℕ) → IsReport clock r i correction → Concerns clock r i
  cancels : IsCancellation clock r i → Concerns clock r i

-- By the message and the clock alone.

-- "19 no end, or no start of a target"
pub data NoEnd (clock : ℕ) (r : Record) : Type 0 where
  no_end : {start : ℕ} → IsStart clock r.line.valid.from start
      → ((t : ℕ) → IsEnd r.heading.designator.kind start r.line.valid.to t → ⊥) → NoEnd clock r
  no_target : {named : Sequence} {from : Group} {start end : ℕ} → r.form ≡ Cancellation named from
      → IsStart clock r.line.valid.from start → IsEnd r.heading.designator.kind start r.line.valid.to end
      → ((t : ℕ) → IsTarget r.heading.designator.kind end from t → ⊥) → NoEnd clock r

-- "13; 15 a test; 18 no start; 19 …; 20 end at or before the clock"; 13 is "bad record"
abbrev pub Unfit : ℕ → Record → (ℕ → Type 0) → ℕ → Type 0
Unfit clock r behind =
    Refuses 13 (good r ≡ false)
    (Refuses 15 ((n : ℕ) × (r.form ≡ Test n))
    (Refuses 18 ((t : ℕ) → IsStart clock r.line.valid.from t → ⊥)
    (Refuses 19 (NoEnd clock r) (Refuses 20 ((i : Identity) × Concerns clock r i × (i.end ≤ clock)) behind))))

-- By what the post finds: that the board is not good, its clock, which identities are marked, which reports are held with which correction, and
-- that all 64 places are in use after the dropping.
pub record Found : Type 1 where
  pub bad : Type 0
  pub clock : ℕ
  pub marked : Identity → Type 0
  pub held : Identity → ℕ → Type 0
  pub full : Type 0

-- "21 a report held with the same or a later correction, or a cancellation whose target is marked"
pub data Already (f : Found) (clock : ℕ) (r : Record) : Type 0 where
  held : {i : Identity} {c d : ℕ} → IsReport clock r i c → f.held i d → c ≤ d → Already f clock r
  again : {i : Identity} → IsCancellation clock r i → f.marked i → Already f clock r

-- "23 a new place needed and all 64 in use after the dropping"
pub record NoRoom (f : Found) (clock : ℕ) (r : Record) : Type 0 where
  pub identity : Identity
  pub concerned : Concerns clock r identity
  pub unmarked : f.marked identity → ⊥
  pub unheld : (c : ℕ) → f.held identity c → ⊥
  pub full : f.full

-- "22 a report whose identity is marked; 21 …; 23 …"
abbrev pub Unplaced : Found → ℕ → Record → ℕ → Type 0
Unplaced f clock r =
    Refuses 22 ((i : Identity) × (c : ℕ) × IsReport clock r i c × f.marked i)
    (Refuses 21 (Already f clock r) (Refuses 23 (NoRoom f clock r) Accepts))

-- "Post: 36 not a good board; 16 clock outside its range; 17 clock before the board's; 13; …; 23 …": the answer to a post of the record at the clock
abbrev pub Answered : Found → ℕ → Record → ℕ → Type 0
Answered f clock r =
    Refuses 36 f.bad
    (Refuses 16 (InRange clock → ⊥) (Refuses 17 (clock < f.clock) (Unfit clock r (Unplaced f clock r))))

-- The history of a board: the calls that were made, with their answers. Nothing here looks inside a board.
-- A contract speaks of slices: where one lies, the name by which its contents are kept track of, and how long it is lent are whatever they
-- are; `Learnt` is the function's `ensures`.
-- Believed.
use Rattle.std.specs.Prelude.{List, [], ◌∷◌, ℕ}
use Rattle.std.specs.Borrow.{GName}
use contract.Lifetimes.{Lfts}
use Rattle.message.specs.declared.Record.{Record}
use Rattle.board.specs.declared.Board.{Board}
use Rattle.board.proofs.Board.new.Reads as new-reads
use Rattle.board.proofs.Board.post.Reads as post-reads
use Rattle.listing.proofs.list.Reads as list-reads
use Rattle.roundtrips.specs.Trips.{slice}

-- one call with its answer: a post, or a listing with its buffer before and after
pub data Call : Type 0 where
  posted : (clock : ℕ) (message : Record) (answer : ℕ) → Call
  listed : (time : ℕ) (buffer : List ℕ) (answer count : ℕ) (after : List ℕ) → Call

-- the latest call stands first
abbrev pub History : Type 0
History = List Call

-- What the contracts of the board's calls allow.

-- `Board::new()` may give this board
pub record MayBegin (b : Board) : Type 0 where
  pub lent : Lfts 0
  pub allowed : new-reads.Learnt lent tt b tt

-- `board.post(clock, message)` may answer this, and give back this board
pub record MayPost (b : Board) (clock : ℕ) (message : Record) (answer : ℕ) (after : Board) : Type 0 where
  pub lent : Lfts 0
  pub allowed : post-reads.Learnt lent (b, (clock, (message, tt))) (record { answer = answer; board = after }) (b, (clock, (message, tt)))

-- `list(board, time, buffer)` may answer this, count this, and leave the buffer as `after`
pub record MayList (b : Board) (time : ℕ) (buffer : List ℕ) (answer count : ℕ) (after : List ℕ) : Type 0 where
  pub lent : Lfts 1
  pub address : ℕ × ℕ
  pub name : GName
  pub allowed : list-reads.Learnt lent (b, (time, (slice address name buffer, tt))) (record { number = answer; count = count }) (b, (time, (slice address name after, tt)))

-- "From an empty board, over all sequences of calls": each call is made on the board that the last post gave back
pub data Run : History → Board → Type 0 where
  begun : {b : Board} → MayBegin b → Run [] b
  then-posted : {h : History} {b after : Board} {clock answer : ℕ} {message : Record}
      → Run h b → MayPost b clock message answer after → Run (posted clock message answer ∷ h) after
  then-listed : {h : History} {b : Board} {time answer count : ℕ} {buffer after : List ℕ}
      → Run h b → MayList b time buffer answer count after → Run (listed time buffer answer count after ∷ h) b

-- the history is one that the contracts allow
pub record Happens (h : History) : Type 0 where
  pub board : Board
  pub run : Run h board

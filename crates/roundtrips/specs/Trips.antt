-- What the contracts of `read` and `write` allow, said of lists of bytes. A contract speaks of slices: where one lies, the name by which its
-- contents are kept track of, and how long it is lent are whatever they are.
-- Believed.
use Rattle.std.specs.Prelude.{true, false, List, ◌++◌, ◌≡◌, ℕ, ◌≤◌, ◌<◌, length, drop}
use Rattle.std.specs.Borrow.{GName, Bor, MutBor}
use contract.Lifetimes.{Lfts}
use Rattle.message.specs.Records.{good}
use Rattle.message.specs.Words.{text_of}
use Rattle.message.specs.declared.Record.{Record}
use Rattle.grammar.specs.declared.Reply.{Reply}
use Rattle.reader.proofs.read.Reads as read-reads
use Rattle.writer.proofs.write.Reads as write-reads
use Rattle.pens.specs.declared.Written.{Written}

-- a slice with these contents
abbrev pub slice : ℕ × ℕ → GName → List ℕ → MutBor (List ℕ)
slice address name contents = record { ref_ptr = address; ghost_name = name; now = contents }

-- the same of one that is only read: its contents stay, and have no name
abbrev pub shared_slice : ℕ × ℕ → List ℕ → Bor (List ℕ)
shared_slice address contents = record { ref_ptr = address; now = contents }

-- `read(bulletin)` may answer this reply
pub record MayRead (bulletin : List ℕ) (reply : Reply) : Type 0 where
  pub lent : Lfts 1
  pub address : ℕ × ℕ
  pub allowed : read-reads.Learnt lent (shared_slice address bulletin, tt) reply (shared_slice address bulletin, tt)

-- `write(message, buffer)` may answer w and leave the buffer as `after`
pub record MayWrite (message : Record) (buffer : List ℕ) (w : Written) (after : List ℕ) : Type 0 where
  pub lent : Lfts 1
  pub address : ℕ × ℕ
  pub name : GName
  pub allowed : write-reads.Learnt lent (message, (slice address name buffer, tt)) w (message, (slice address name after, tt))

-- "13 bad record; …; 14 buffer shorter than what would be written. Count 0, buffer untouched. On success … the bytes past the count stay":
-- the number, the count and the buffer afterwards. 24 is no outcome: no good record's text has over 2,048 bytes (`text-fits`)
pub data Outcome (r : Record) (buffer : List ℕ) : ℕ → ℕ → List ℕ → Type 0 where
  bad : good r ≡ false → Outcome r buffer 13 0 buffer
  short : good r ≡ true → length buffer < length (text_of r) → Outcome r buffer 14 0 buffer
  whole : good r ≡ true → length (text_of r) ≤ length buffer → Outcome r buffer 0 (length (text_of r)) (text_of r ++ drop (length (text_of r)) buffer)

-- The customer's second demand: "The reader takes exactly the message forms of ICAO Annex 3, Amendment 77, as our paper gives them, each with
-- one meaning. Writing a good record, where the buffer has room, and reading it gives that record. Reading a canonical text and writing it
-- gives the same bytes."
-- A reader and a writer are known by the replies that they may give, and the demand is made of those. Ours are `MayRead` and `MayWrite`.
-- Believed.
use Rattle.std.specs.Prelude.{true, List, ◌++◌, ◌≡◌, ℕ, ◌≤◌, length, take, drop}
use Rattle.words.specs.Check.{check_of}
use Rattle.words.specs.Words.{words_in}
use Rattle.message.specs.Records.{good}
use Rattle.message.specs.Words.{words_of, text_of}
use Rattle.message.specs.declared.Record.{Record}
use Rattle.grammar.specs.Judged.{message_words}
use Rattle.grammar.specs.Layout.{Canonical}
use Rattle.grammar.specs.Bulletins.{acceptance, text_within}
use Rattle.grammar.specs.declared.Reply.{Reply}
use Rattle.pens.specs.declared.Written.{Written}

-- the bulletin is a form of the paper, and means this record: it has the words of a good record and the `=`, and nothing that numbers 1
-- to 3 are for
pub record Says (bulletin : List ℕ) (r : Record) : Type 0 where
  pub readable : (check_of bulletin).number ≡ 0
  pub sound : good r ≡ true
  pub words : words_in (text_within bulletin) ≡ message_words r

pub record Demand2 (Reads : List ℕ → Reply → Type 0) (Writes : Record → List ℕ → Written → List ℕ → Type 0) : Type 0 where
  -- "The reader takes exactly the message forms of ICAO Annex 3, Amendment 77, as our paper gives them", …
  pub takes-only : (bulletin : List ℕ) (p : Reply) → Reads bulletin p → p.number ≡ 0 → Says bulletin p.message
  pub takes_all : (bulletin : List ℕ) (p : Reply) → Reads bulletin p → (r : Record) → Says bulletin r → p ≡ acceptance r
  -- … "each with one meaning."
  pub one-meaning : (q r : Record) → good q ≡ true → good r ≡ true → words_of q ≡ words_of r → q ≡ r
  -- "Writing a good record, where the buffer has room, and reading it gives that record."
  pub written-then-read : (r : Record) (buffer after : List ℕ) (w : Written) (p : Reply) → good r ≡ true → length (text_of r) ≤ length buffer
      → Writes r buffer w after → Reads (take w.count after) p → (w.number ≡ 0) × (p ≡ acceptance r)
  -- "Reading a canonical text and writing it gives the same bytes."
  pub read-then-written : (t buffer after : List ℕ) (p : Reply) (w : Written) → Canonical t → Reads t p → p.number ≡ 0 → length t ≤ length buffer
      → Writes p.message buffer w after → (w.number ≡ 0) × (w.count ≡ length t) × (after ≡ t ++ drop (length t) buffer)
  -- what is written is canonical, so that every bulletin that is read has a canonical text, and one only
  pub written-canonical : (r : Record) (buffer after : List ℕ) (w : Written) → Writes r buffer w after → w.number ≡ 0 → Canonical (take w.count after)
  pub one-canonical : (s t : List ℕ) (p : Reply) → Canonical s → Canonical t → Reads s p → Reads t p → p.number ≡ 0 → s ≡ t

-- The theorems of the grammar, with nothing left open. They speak of `good`, `words_of` and `text_of` (crate message), of the words of a text
-- (crate words), and of what is said without the machine in `Judged` and `Replies`; `step` stands in none but through `run`, `walk`, `read_of`.
use mathlib.Core.Bool.{true}
use mathlib.Core.List.{List, [], ◌∷◌, ◌++◌, map, Memᴰ}
use mathlib.Core.Logic.{◌↔◌}
use mathlib.Core.Path.{◌≡◌, ap, sym, ◌∙◌}
use Prim.Native.Nat.{ℕ, suc, ◌+◌, ◌≤◌, zero-le}
use lib.ListN.{length, take, drop, get_or}
use borrow.Author.Tests.{le-ltb}
use Rattle.lists.specs.Lists.{all_of, part}
use Rattle.words.specs.Bytes.{allowed, equals, unequal}
use Rattle.words.specs.Check.{check_of}
use Rattle.words.specs.Words.{Word, equals_sign, words_at, length_at, bytes_of}
use Rattle.words.proofs.NextWord.{Found, word-found, word_bytes, word-equals}
use Rattle.words.proofs.Refusals.{check-readable}
use Rattle.message.specs.Records.{good}
use Rattle.message.specs.Words.{words_of, text_of}
use Rattle.message.specs.declared.Record.{Record}
use Rattle.grammar.specs.Judged.{message_words, Whole, ComesNext, JudgedAs, RefusedAt}
use Rattle.grammar.specs.Layout.{Canonical}
use Rattle.grammar.specs.Bulletins.{acceptance, text_within}
use Rattle.grammar.specs.Parts.{Marked, marked, message_parts}
use Rattle.grammar.specs.Reads.{read_of}
use Rattle.grammar.specs.Replies.{Replied}
use Rattle.grammar.specs.Runs.{walk, run, run_at}
use Rattle.grammar.specs.Runs.Ran.{accepted, refused}
use Rattle.grammar.specs.States.Move.{goes, done}
use Rattle.grammar.specs.States.State.{at_designator}
use Rattle.grammar.specs.Writes.{write_of}
use Rattle.pens.specs.Outcomes.{written, unwritten}
use Rattle.grammar.specs.declared.Reply.{Reply}
use Rattle.grammar.proofs.Forth.{good-accepted}
use Rattle.grammar.proofs.Lengths.{text-fits}
use Rattle.grammar.proofs.Marks.{accepted-good, accepted-words}
use Rattle.grammar.proofs.Opening.{plain-heading, plain-line}
use Rattle.grammar.proofs.PartLaws.{in_order}
use Rattle.grammar.proofs.Plain.{plain_body}
use Rattle.grammar.proofs.Replies.{text-accepted, text-accepts, refused-exactly, replied, reply-only}
use Rattle.grammar.proofs.Required.{judged-required}
use Rattle.grammar.proofs.RunLaws.{done-same, run-walks, walk-runs}
use Rattle.grammar.proofs.Sections.{sound, next}
use Rattle.grammar.proofs.TextLaws.{text-read, text-canonical, canonical-is-text, write_read, read-write, write-refused}
use Rattle.grammar.proofs.Twelve.{twelve-exactly}

-- Words.

-- a. Accepted words are the words of the accepted record, and that record is good.
pub theorem-a : (ws : List (List ℕ)) (r : Record) → walk (goes at_designator) ws ≡ done r → (good r ≡ true) × (ws ≡ message_words r)
theorem-a ws r e = (accepted-good sound ws r e, accepted-words sound ws r e)

-- b. For every good record, its words are accepted as that record.
pub theorem-b : (r : Record) → good r ≡ true → walk (goes at_designator) (message_words r) ≡ done r
theorem-b r g = good-accepted r g

-- So words are accepted as r exactly when r is good and they are its words, …
pub accepted-exactly : (ws : List (List ℕ)) (r : Record) → (walk (goes at_designator) ws ≡ done r) ↔ ((good r ≡ true) × (ws ≡ message_words r))
accepted-exactly ws r = (theorem-a ws r, λ h. ap (walk (goes at_designator)) h.1 ∙ theorem-b r h.0)

-- … and two good records with the same words are equal.
pub one-meaning : (q r : Record) → good q ≡ true → good r ≡ true → words_of q ≡ words_of r → q ≡ r
one-meaning q r g h e =
    let same : message_words q ≡ message_words r = ap (λ (ws : List (List ℕ)). ws ++ (equals_sign ∷ [])) e in
    done-same (sym (theorem-b q g) ∙ (ap (walk (goes at_designator)) same ∙ theorem-b r h))

-- The same of words with their places.
pub run-accepts-exactly : (ws : List Word) (r : Record) → (run at_designator ws ≡ accepted r) ↔ ((good r ≡ true) × (bytes_of ws ≡ message_words r))
run-accepts-exactly ws r =
    (λ e. theorem-a (bytes_of ws) r (run-walks at_designator ws r e), λ h. walk-runs at_designator ws r ((accepted-exactly (bytes_of ws) r).1 h))

-- c and d. The run over a text is refused by a number at a place exactly where `RefusedAt` says so: the words before begin an accepted message,
-- with this word they begin none, and the number is that of the part that the word is judged as. Its length is that found at the place.
pub theorem-c-d : (t : List ℕ) → all_of allowed t ≡ true → all_of unequal t ≡ true → (number place : ℕ)
    → (run_at at_designator t 0 ≡ refused number place) ↔ RefusedAt (words_at t 0) number place (length_at t place)
theorem-c-d t a f n p = refused-exactly sound next good-accepted t a f n p

-- d. The number is 12 exactly where the words before also make an accepted message with the `=`.
pub theorem-d-twelve : (ws : List Word) (number place long : ℕ) (r : RefusedAt ws number place long) → (number ≡ 12) ↔ Whole (bytes_of r.before ++ (equals_sign ∷ []))
theorem-d-twelve ws n p long r = twelve-exactly sound next good-accepted ws n p long r

-- d. Every accepted message that begins with the words before still has a word of the part that the next word is judged as, …
pub theorem-d-required : (ws : List (List ℕ)) (part : ℕ) → JudgedAs ws part → (r : Record) → good r ≡ true
    → (seen left : List Marked) → seen ++ left ≡ message_parts r → map (λ (m : Marked). m.word) seen ≡ ws → (word : List ℕ) × Memᴰ (marked part word) left
theorem-d-required ws part j r g seen left parts words = judged-required sound next good-accepted ws part j r g seen left parts words

-- … and of the parts that may come next no later one is required: the parts of a message come in the order of their numbers.
pub none-later : (ws : List (List ℕ)) (part other : ℕ) (c : ComesNext ws other) (word : List ℕ) → Memᴰ (marked part word) (marked other c.word ∷ c.rest) → other ≤ part
none-later ws part other c word i = in_order c.message c.before c.rest (marked other c.word) (marked part word) c.parts i

-- Bytes.

-- Every list of bytes gets the reply that `Replied` says, …
pub read-replied : (b : List ℕ) → Replied b (read_of b)
read-replied b = replied sound next good-accepted b

-- … and no other.
pub replied-only : (b : List ℕ) (q : Reply) → Replied b q → q ≡ read_of b
replied-only b q h = reply-only sound next good-accepted b q h

-- What stands in the bulletin at the place of a refusal by 4 to 12, as long as its length, is the refused word, …
module _ (b : List ℕ) (number place long : ℕ) (c : (check_of b).number ≡ 0) (r : RefusedAt (words_at (text_within b) 0) number place long) where
  found : Found (text_within b) r.word
  found = word-found (text_within b) 0 zero-le r.before r.word r.rest r.split

  -- the bulletin is its text, the `=` and what is behind it
  abbrev behind : List ℕ
  behind = drop (suc (check_of b).place) b

  pub refused-bytes : part place (place + long) b ≡ r.word.bytes
  refused-bytes = rw (r.there, r.as_long, ← (check-readable b c).split) at (word_bytes (text_within b) behind r.word found)

  -- … and where a `=` stands there, the length is 1.
  pub refused-equals : equals (get_or b place 0) ≡ true → long ≡ 1
  refused-equals y =
      let there : equals (get_or (text_within b ++ (61 ∷ behind)) r.word.place 0) ≡ true = rw (r.there, ← (check-readable b c).split) y in
      sym r.as_long ∙ word-equals (text_within b) behind r.word found (check-readable b c).no-equals there

-- Reading the canonical text of a good record gives that record: it always fits, so number 24 stays unused under today's limits.
pub good-text-read : (r : Record) → good r ≡ true → read_of (text_of r) ≡ acceptance r
good-text-read r g = text-read (text-accepted sound next good-accepted) (text-accepts sound next good-accepted) plain-heading plain-line plain_body r g (text-fits r g)

pub good-text-canonical : (r : Record) → good r ≡ true → Canonical (text_of r)
good-text-canonical r g = text-canonical (text-accepted sound next good-accepted) (text-accepts sound next good-accepted) plain-heading plain-line plain_body r g (text-fits r g)

-- A text that is read and is in canonical layout is the canonical text of its record.
pub canonical-text : (b : List ℕ) (r : Record) → read_of b ≡ acceptance r → Canonical b → b ≡ text_of r
canonical-text b r e c =
    canonical-is-text (text-accepted sound next good-accepted) (text-accepts sound next good-accepted) plain-heading plain-line plain_body b r e c

-- Writing a good record and reading it gives that record …
pub written_read : (r : Record) (buffer : List ℕ) → (write_of r buffer).number ≡ 0 → read_of (take (write_of r buffer).count (write_of r buffer).buffer) ≡ acceptance r
written_read r buffer e =
    write_read (text-accepted sound next good-accepted) (text-accepts sound next good-accepted) plain-heading plain-line plain_body r buffer e

-- … a good record is written wherever the buffer holds its text, and the bytes past the count stay …
pub good-written : (r : Record) (buffer : List ℕ) → good r ≡ true → length (text_of r) ≤ length buffer → write_of r buffer ≡ written (text_of r) buffer
unfolding write_of
good-written r buffer g h = rw (g, le-ltb 2048 (length (text_of r)) (text-fits r g), le-ltb (length buffer) (length (text_of r)) h)

-- … and reading a canonical text and writing it gives the same bytes.
pub read-written : (b : List ℕ) (r : Record) (buffer : List ℕ) → read_of b ≡ acceptance r → Canonical b → length b ≤ length buffer → write_of r buffer ≡ written b buffer
read-written b r buffer e c h =
    read-write (text-accepted sound next good-accepted) (text-accepts sound next good-accepted) plain-heading plain-line plain_body b r buffer e c h

-- A refused writing leaves the buffer as it was, and counts 0.
pub write-refused-untouched : (r : Record) (buffer : List ℕ) (n : ℕ) → (write_of r buffer).number ≡ suc n → write_of r buffer ≡ unwritten (suc n) buffer
write-refused-untouched r buffer n e = write-refused r buffer n e

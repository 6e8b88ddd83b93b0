-- Demand 2, of the contracts of `read` and `write`: "Writing a good record and reading it gives that record; reading a canonical text and
-- writing it gives the same bytes". `MayRead` and `MayWrite` stand for every outcome that the two contracts allow (`specs/Trips.antt`).
use mathlib.Core.Bool.{true, false}
use mathlib.Core.List.{List, [], ◌++◌}
use mathlib.Core.Logic.{◌⊎◌, ◌↔◌}
use mathlib.Core.Path.{◌≡◌, refl, ap, sym, ◌∙◌, subst}
use Prim.Native.Nat.{ℕ, ◌≤◌, ◌<◌}
use native.Mathlib.Omega.{arith}
use lib.ListN.{length, take, drop}
use lib.Seq.{take-append_seam}
use Rattle.message.specs.Records.{good}
use Rattle.message.specs.Words.{text_of}
use Rattle.message.specs.declared.Record.{Record}
use Rattle.grammar.specs.Layout.{Canonical}
use Rattle.grammar.specs.Bulletins.{acceptance}
use Rattle.grammar.specs.Reads.{read_of}
use Rattle.grammar.specs.Replies.{Replied}
use Rattle.grammar.specs.Writes.{write_of}
use Rattle.pens.specs.Outcomes.{Wrote, written}
use Rattle.grammar.specs.declared.Reply.{Reply}
use Rattle.grammar.proofs.Lengths.{text-fits}
use Rattle.grammar.proofs.Theorems as grammar
use Rattle.pens.specs.Outcomes.{wrote}
use Rattle.pens.specs.declared.Written.{Written}
use Rattle.roundtrips.specs.Trips.{MayRead, MayWrite, Outcome}
use Rattle.roundtrips.proofs.Outcomes.{reads, accepted, writes, ends, put_whole, untouched, numbers, at_zero, at-thirteen, at-fourteen}

-- The writer.

module _ {r : Record} {buffer after : List ℕ} {w : Written} where
  -- Every outcome is one of three: a bad record, a short buffer, or the text whole at the front.
  pub three-outcomes : MayWrite r buffer w after → Outcome r buffer w.number w.count after
  three-outcomes m = ends m

  -- A refusal counts 0 and leaves the buffer as it was.
  pub refused-untouched : MayWrite r buffer w after → 0 < w.number → (w.count ≡ 0) × (after ≡ buffer)
  refused-untouched m = untouched (ends m)

  -- The number is 0, 13 or 14, so 24 is never given; …
  pub writer-numbers : MayWrite r buffer w after → (w.number ≡ 0) ⊎ ((w.number ≡ 13) ⊎ (w.number ≡ 14))
  writer-numbers m = numbers (ends m)

  -- … 0 exactly for a good record whose text has room, …
  pub zero-exactly : MayWrite r buffer w after → (w.number ≡ 0) ↔ ((good r ≡ true) × (length (text_of r) ≤ length buffer))
  zero-exactly m = at_zero (ends m)

  -- … 13 exactly for a bad record, …
  pub thirteen-exactly : MayWrite r buffer w after → (w.number ≡ 13) ↔ (good r ≡ false)
  thirteen-exactly m = at-thirteen (ends m)

  -- … and 14 exactly for a good record whose text has no room.
  pub fourteen-exactly : MayWrite r buffer w after → (w.number ≡ 14) ↔ ((good r ≡ true) × (length buffer < length (text_of r)))
  fourteen-exactly m = at-fourteen (ends m)

  -- A good record whose text has room is written whole, from the front on, and the bytes past it are as they were.
  pub written-whole : good r ≡ true → length (text_of r) ≤ length buffer → MayWrite r buffer w after
      → (w.number ≡ 0) × (w.count ≡ length (text_of r)) × (after ≡ text_of r ++ drop (length (text_of r)) buffer)
  written-whole g h m = put_whole (ends m) g h

  -- The bytes written are the canonical text of the record, …
  pub written-text : MayWrite r buffer w after → w.number ≡ 0 → take w.count after ≡ text_of r
  written-text m e =
      let fine = (zero-exactly m).0 e in
      let out = written-whole fine.0 fine.1 m in
      rw (out.1, out.2) (take-append_seam (text_of r) (drop (length (text_of r)) buffer))

  -- … and in canonical layout.
  pub written-canonical : MayWrite r buffer w after → w.number ≡ 0 → Canonical (take w.count after)
  written-canonical m e = subst Canonical (sym (written-text m e)) (grammar.good-text-canonical r ((zero-exactly m).0 e).0)

-- "Writing a good record and reading it gives that record": with room for its text, number 0, and the bytes written are read as the record.
pub written-then-read : {r : Record} {buffer after : List ℕ} {w : Written} {p : Reply} → good r ≡ true → length (text_of r) ≤ length buffer
    → MayWrite r buffer w after → MayRead (take w.count after) p → (w.number ≡ 0) × (p ≡ acceptance r)
written-then-read {r} g h m n =
    let done = (written-whole g h m).0 in
    (done, reads n ∙ (ap read_of (written-text m done) ∙ grammar.good-text-read r g))

-- The same with a buffer that has room for every text.
pub written-then-read-2048 : {r : Record} {buffer after : List ℕ} {w : Written} {p : Reply} → good r ≡ true → 2048 ≤ length buffer
    → MayWrite r buffer w after → MayRead (take w.count after) p → (w.number ≡ 0) × (p ≡ acceptance r)
written-then-read-2048 {r} {buffer} g h m n =
    let room : length (text_of r) ≤ length buffer = omega (arith, text-fits r g) in
    written-then-read g room m n

-- A reply with number 0 has place 0 and a good record.
pub read-good : {bulletin : List ℕ} {p : Reply} → MayRead bulletin p → p.number ≡ 0 → (p ≡ acceptance p.message) × (good p.message ≡ true)
read-good {bulletin} m = accepted (subst (Replied bulletin) (sym (reads m)) (grammar.read-replied bulletin))

-- "Reading a canonical text and writing it gives the same bytes": with room for it, number 0, its length for the count, and the text at the
-- front of the buffer; the bytes past it are as they were.
pub read-then-written : {t buffer after : List ℕ} {p : Reply} {w : Written} → Canonical t → MayRead t p → p.number ≡ 0 → length t ≤ length buffer
    → MayWrite p.message buffer w after → (w.number ≡ 0) × (w.count ≡ length t) × (after ≡ t ++ drop (length t) buffer)
read-then-written {t} {buffer} {after} {p} {w} c m e h n =
    let same : wrote w after ≡ written t buffer = writes n ∙ grammar.read-written t p.message buffer (sym (reads m) ∙ (read-good m e).0) c h in
    (ap (λ (x : Wrote). x.number) same, ap (λ (x : Wrote). x.count) same, ap (λ (x : Wrote). x.buffer) same)

-- Every bulletin that is read has a canonical text: its record is written in canonical layout, and that is read as the same reply.
pub read-written-read : {bulletin buffer after : List ℕ} {p q : Reply} {w : Written} → MayRead bulletin p → p.number ≡ 0
    → length (text_of p.message) ≤ length buffer → MayWrite p.message buffer w after → MayRead (take w.count after) q
    → (w.number ≡ 0) × Canonical (take w.count after) × (q ≡ p)
read-written-read m e h n k =
    let fine = read-good m e in
    let trip = written-then-read fine.1 h n k in
    (trip.0, written-canonical n trip.0, trip.1 ∙ sym fine.0)

-- The theorems are about something: some reply to any bytes is allowed, and some outcome of writing any record to any buffer.

pub some-reading : (bulletin : List ℕ) → (p : Reply) × MayRead bulletin p
some-reading b = (read_of b, record { lent = ([], tt); address = (0, 0); allowed = refl })

pub some-writing : (r : Record) (buffer : List ℕ) → (w : Written) × (after : List ℕ) × MayWrite r buffer w after
some-writing r buffer = (
  record { number = (write_of r buffer).number; count = (write_of r buffer).count },
  (write_of r buffer).buffer,
  record { lent = ([], tt); address = (0, 0); name = 0; allowed = refl },
)

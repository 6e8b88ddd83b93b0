-- What `put_text` left on the page as the text, and one law for each reply.
use mathlib.Core.Bool.{true, false}
use mathlib.Core.List.{List, [], ◌++◌}
use mathlib.Core.Path.{◌≡◌}
use Prim.Native.Nat.{ℕ, ◌≤◌, ◌<◌, zero-le}
use native.Mathlib.Omega.{arith}
use lib.ListN.{length, take, drop, length-append}
use lib.Seq.{take-append_seam}
use borrow.Author.Tests.{lt-ltb, le-ltb}
use Rattle.lists.proofs.Choice.{by}
use Rattle.message.specs.Records.{good}
use Rattle.message.specs.Words.{text_of}
use Rattle.message.specs.declared.Record.{Record}
use Rattle.grammar.specs.Writes.{write_of}
use Rattle.grammar.proofs.Lengths.{text-fits}
use Rattle.pens.specs.Pens.{Puts}
use Rattle.pens.proofs.PenLaws.{put-place, put-page}
use Rattle.writer_sections.specs.Sections.{good_text}
use Rattle.pens.specs.Outcomes.{wrote}
use Rattle.pens.specs.declared.Written.{Written}

-- The page.

-- What was put on the page tells whether the record is good: nothing of a bad one, and the text of a good one is not empty.

text-some : (r : Record) → 1 ≤ length (text_of r)
unfolding text_of
text-some r = simp length-append (omega arith)

put-good : (r : Record) {n : ℕ} {page after : List ℕ} → good r ≡ true → Puts (good_text r) 0 page n after → Puts (text_of r) 0 page n after
put-good r g f = rw g at f

pub page-count : (r : Record) {n : ℕ} {page after : List ℕ} → good r ≡ true → length page ≡ 2049 → Puts (good_text r) 0 page n after → n ≡ length (text_of r)
page-count r g l f = put-place (put-good r g f) (omega (arith, text-fits r g))

pub page-text : (r : Record) {n : ℕ} {page after : List ℕ} → good r ≡ true → length page ≡ 2049 → Puts (good_text r) 0 page n after → take n after ≡ text_of r
page-text r {n} {page} {after} g l f =
    let long : length (text_of r) ≤ length page = omega (arith, text-fits r g) in
    let put : Puts (text_of r) 0 page n after = put-good r g f in
    rw (put-place put long, put-page put long, take-append_seam (text_of r) (drop (length (text_of r)) page))

pub bad-here : (r : Record) {n : ℕ} {page after : List ℕ} → length page ≡ 2049 → Puts (good_text r) 0 page n after → n ≡ 0 → good r ≡ false
bad-here r l f e = by (good r) (λ g. absurd (omega (arith, page-count r g l f, text-some r))) (λ b. b)

pub good-here : (r : Record) {n : ℕ} {page after : List ℕ} → Puts (good_text r) 0 page n after → (n ≡ 0 → ⊥) → good r ≡ true
good-here r {n} {page} {after} f h =
    by (good r) (λ g. g) (λ b. let none : Puts [] 0 page n after = rw b at f in absurd (h (put-place none zero-le)))

-- The replies.

wrote-is : (w : Written) (buffer : List ℕ) (number count : ℕ) → w.number ≡ number → w.count ≡ count
    → wrote w buffer ≡ record { number = number; count = count; buffer = buffer }
wrote-is w buffer number count n k = λ i. record { number = n i; count = k i; buffer = buffer }

pub bad-record : (r : Record) (w : Written) (buffer : List ℕ) → good r ≡ false → (w.number ≡ 13) × (w.count ≡ 0) → wrote w buffer ≡ write_of r buffer
unfolding write_of
bad-record r w buffer g e = rw g (wrote-is w buffer 13 0 e.0 e.1)

pub too_long : (r : Record) (w : Written) (buffer : List ℕ) (n : ℕ) → good r ≡ true → n ≡ length (text_of r) → 2048 < n
    → (w.number ≡ 24) × (w.count ≡ 0) → wrote w buffer ≡ write_of r buffer
unfolding write_of
too_long r w buffer n g l h e = rw (g, lt-ltb 2048 (length (text_of r)) (omega arith)) (wrote-is w buffer 24 0 e.0 e.1)

pub no_room : (r : Record) (w : Written) (buffer : List ℕ) (n : ℕ) → good r ≡ true → n ≡ length (text_of r) → n ≤ 2048 → length buffer < n
    → (w.number ≡ 14) × (w.count ≡ 0) → wrote w buffer ≡ write_of r buffer
unfolding write_of
no_room r w buffer n g l h s e =
    rw (g, le-ltb 2048 (length (text_of r)) (omega arith), lt-ltb (length buffer) (length (text_of r)) (omega arith))
    (wrote-is w buffer 14 0 e.0 e.1)

-- the text goes from the page into the buffer
pub all-written : (r : Record) (n : ℕ) (buffer : List ℕ) {text front : List ℕ} → good r ≡ true → n ≡ length (text_of r) → n ≤ 2048 → n ≤ length buffer
    → text ≡ text_of r → front ≡ text → wrote (record { number = 0; count = n }) (front ++ drop n buffer) ≡ write_of r buffer
unfolding write_of
all-written r n buffer g l h s e f =
    rw (g, le-ltb 2048 (length (text_of r)) (omega arith), le-ltb (length buffer) (length (text_of r)) (omega arith), f, e, l)

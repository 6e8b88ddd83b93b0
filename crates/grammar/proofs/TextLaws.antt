-- From words to bytes: a good record's text is read as that record and is canonical, and a canonical text that is read is the text of its
-- record. What is accepted is handed over: the words of a good record, and no others.
use mathlib.Core.Bool.{Bool, true}
use mathlib.Core.List.{List, [], ◌∷◌, ◌++◌, append_assoc, append_cancel_right}
use mathlib.Core.Path.{◌≡◌, refl, ap, sym, ◌∙◌}
use Prim.Native.Nat.{ℕ, suc, ◌+◌, ◌≤◌}
use native.Mathlib.Omega.{arith}
use lib.Dec.{ltb, eqb}
use lib.ListN.{length, take, drop, length-append}
use lib.Seq.{take-append_seam}
use borrow.Author.Tests.{eqb-true, ltb-false, le-ltb}
use Rattle.lists.specs.Choice.{both}
use Rattle.lists.specs.Lists.{all_of}
use Rattle.lists.proofs.Choice.{by, clash, both_left, both_right, either-cases}
use Rattle.lists.proofs.Lists.{all_append, all-weaken}
use Rattle.words.specs.Bytes.{solid, unequal, allowed, plain}
use Rattle.words.specs.Check.{check_of}
use Rattle.words.specs.Words.{Word, equals_sign, words_in, solid_word, plain_word, line}
use Rattle.words.proofs.Refusals.{check-readable, check-bare}
use Rattle.words.proofs.Words.{run-all, gap-crlf, words-line, words-line-end}
use Rattle.figures.proofs.PlainLaws.{plain-solid}
use Rattle.headings.specs.Headings.{good_correction}
use Rattle.headings.proofs.HeadingLaws.{correction-reads}
use Rattle.message.specs.Records.{good_heading, good_line, good}
use Rattle.message.specs.Words.{heading_words, line_words, body_words, words_of, new_line, text_of}
use Rattle.message.specs.declared.FirstLine.{FirstLine}
use Rattle.message.specs.declared.Heading.{Heading}
use Rattle.message.specs.declared.Record.{Record}
use Rattle.message.proofs.Goodness.{good-parts, heading-parts}
use Rattle.grammar.specs.Judged.{message_words}
use Rattle.grammar.specs.Layout.{heading_count, laid_out, Canonical}
use Rattle.grammar.specs.Numbers.{number_of}
use Rattle.grammar.specs.Bulletins.{acceptance, text_within}
use Rattle.grammar.specs.Reads.{reply_of, read_of}
use Rattle.grammar.specs.Runs.{Ran, follow, run, run_at}
use Rattle.grammar.specs.Runs.Ran.{accepted, refused, unfinished}
use Rattle.grammar.specs.States.{State, Move}
use Rattle.grammar.specs.States.Move.{goes, done, dead}
use Rattle.grammar.specs.States.State.{at_designator}
use Rattle.grammar.specs.Steps.{step}
use Rattle.grammar.specs.declared.Reply.{Reply}
use Rattle.grammar.specs.Writes.{write_of}
use Rattle.pens.specs.Outcomes.{Wrote, unwritten, written}
use Rattle.grammar.proofs.NumberLaws.{number-range}
use Rattle.grammar.proofs.Opening.{some-correction, no-correction}
use Rattle.grammar.proofs.RunLaws.{refused-number, accepted-not, unfinished-not}

-- A refusal's number is not 0.

follow-number : (m : Move) (s : State) (place : ℕ) (ws : List Word) (n p : ℕ)
    → ((next : State) → run next ws ≡ refused n p → 4 ≤ n)
    → follow m (number_of s) place ws (λ (next : State). run next ws) ≡ refused n p
    → 4 ≤ n
follow-number (goes next) s place ws n p later e = later next e
follow-number (done r) s place [] n p later e = absurd (accepted-not e)
follow-number (done r) s place (w ∷ ws) n p later e = omega (arith, (number-range s).low, refused-number e)
follow-number dead s place ws n p later e = omega (arith, (number-range s).low, refused-number e)

pub run-number : (s : State) (ws : List Word) (n p : ℕ) → run s ws ≡ refused n p → 4 ≤ n
unfolding run
run-number s [] n p e = absurd (unfinished-not e)
run-number s (w ∷ ws) n p e = follow-number (step s w.bytes) s w.place ws n p (λ next h. run-number next ws n p h) e

reply-accepted : (t : List ℕ) (ran : Ran) (r : Record) → ((n p : ℕ) → ran ≡ refused n p → 4 ≤ n) → reply_of t ran ≡ acceptance r → ran ≡ accepted r
reply-accepted t (accepted m) r h e = ap (λ (x : Reply). accepted x.message) e
reply-accepted t (refused n p) r h e = let z : n ≡ 0 = ap (λ (x : Reply). x.number) e in absurd (omega (arith, h n p refl))
reply-accepted t unfinished r h e = let z : ◌≡◌ {A = ℕ} 3 0 = ap (λ (x : Reply). x.number) e in absurd (omega arith)

pub read-accepted : (b : List ℕ) (r : Record) → read_of b ≡ acceptance r → ((check_of b).number ≡ 0) × (run_at at_designator (text_within b) 0 ≡ accepted r)
unfolding read_of run_at
read-accepted b r e =
    by (eqb (check_of b).number 0)
    (λ t. (eqb-true (check_of b).number 0 t, reply-accepted (text_within b) (run_at at_designator (text_within b) 0) r (λ n p h. run-number at_designator _ n p h) (rw t at e)))
    (λ f. let z : (check_of b).number ≡ 0 = ap (λ (x : Reply). x.number) (rw f at e) in clash (eqb (check_of b).number 0) (rw z) f)

-- What stands before the `=` of a text.

abbrev text_before : Record → List ℕ
text_before r = line (heading_words r.heading) ++ (new_line ++ (line (line_words r.line) ++ (new_line ++ line (body_words r))))

text-split : (r : Record) → text_of r ≡ text_before r ++ (61 ∷ [])
unfolding text_of
text-split r =
    let h : List ℕ = line (heading_words r.heading) in
    let l : List ℕ = line (line_words r.line) in
    let b : List ℕ = line (body_words r) in
    sym (append_assoc h (new_line ++ (l ++ (new_line ++ b))) (61 ∷ [])
    ∙ ap (λ (t : List ℕ). h ++ (new_line ++ t)) (append_assoc l (new_line ++ b) (61 ∷ [])))

-- words of plain bytes joined by single spaces: what holds of every plain byte and of the space holds of all
line-all : (f : ℕ → Bool) → f 32 ≡ true → ((x : ℕ) → plain x ≡ true → f x ≡ true) → (ws : List (List ℕ)) → all_of plain_word ws ≡ true
    → all_of f (line ws) ≡ true
unfolding line all_of
line-all f space imp [] t = refl
line-all f space imp (w ∷ []) t = all-weaken plain f imp w (run-all plain w (both_left (plain_word w) true t))
line-all f space imp (w ∷ v ∷ ws) t =
    rw (all_append f w (32 ∷ line (v ∷ ws)), all-weaken plain f imp w (run-all plain w (both_left (plain_word w) (all_of plain_word (v ∷ ws)) t)), space)
    (line-all f space imp (v ∷ ws) (both_right (plain_word w) (all_of plain_word (v ∷ ws)) t))

solid-words : (ws : List (List ℕ)) → all_of plain_word ws ≡ true → all_of solid_word ws ≡ true
solid-words ws t = all-weaken plain_word solid_word plain-solid ws t

-- The fourth word of a record's words is a correction exactly where the record has one.

laid-bare : (r : Record) → eqb r.heading.correction 0 ≡ true → laid_out (heading_count (words_of r)) (words_of r) ≡ text_of r
unfolding words_of heading_words line_words text_of
laid-bare r e = rw (e, no-correction r.line.unit)

laid-corrected : (r : Record) → good_correction r.heading.correction ≡ true → laid_out (heading_count (words_of r)) (words_of r) ≡ text_of r
unfolding words_of heading_words line_words text_of
laid-corrected r g =
    let c : ℕ = r.heading.correction in
    rw (some-correction c g, correction-reads.forth c g, g)

pub laid-text : (r : Record) → good r ≡ true → laid_out (heading_count (words_of r)) (words_of r) ≡ text_of r
laid-text r g =
    either-cases (eqb r.heading.correction 0) (good_correction r.heading.correction) (heading-parts r.heading (good-parts r g).heading).correction
    (laid-bare r)
    (laid-corrected r)

-- The writer's definition.

-- a claim about `write_of` is one for each of its lines
pub write-cases : (A : Wrote → Type 0) (r : Record) (buffer : List ℕ) → A (unwritten 13 buffer) → A (unwritten 24 buffer) → A (unwritten 14 buffer)
    → (good r ≡ true → length (text_of r) ≤ 2048 → length (text_of r) ≤ length buffer → A (written (text_of r) buffer))
    → A (write_of r buffer)
unfolding write_of
write-cases A r buffer bad long short fine =
    by (good r)
    (λ g. by (ltb 2048 (length (text_of r))) (λ e. rw (g, e) long)
    (λ fits. by (ltb (length buffer) (length (text_of r))) (λ e. rw (g, fits, e) short)
    (λ room. rw (g, fits, room) (fine g (ltb-false 2048 (length (text_of r)) fits) (ltb-false (length buffer) (length (text_of r)) room)))))
    (λ e. rw e bad)

pub write-refused : (r : Record) (buffer : List ℕ) (n : ℕ) → (write_of r buffer).number ≡ suc n → write_of r buffer ≡ unwritten (suc n) buffer
write-refused r buffer n =
    write-cases (λ (w : Wrote). w.number ≡ suc n → w ≡ unwritten (suc n) buffer) r buffer
    (λ e. ap (λ (k : ℕ). unwritten k buffer) e)
    (λ e. ap (λ (k : ℕ). unwritten k buffer) e)
    (λ e. ap (λ (k : ℕ). unwritten k buffer) e)
    (λ g fits room e. absurd (omega arith))

module _
    (accepted-words : (t : List ℕ) (r : Record) → run_at at_designator t 0 ≡ accepted r → (good r ≡ true) × (words_in t ≡ message_words r))
    (words-accepted : (t : List ℕ) (r : Record) → good r ≡ true → words_in t ≡ message_words r → run_at at_designator t 0 ≡ accepted r)
    (plain-heading : (h : Heading) → good_heading h ≡ true → all_of plain_word (heading_words h) ≡ true)
    (plain-line : (l : FirstLine) → good_line l ≡ true → all_of plain_word (line_words l) ≡ true)
    (plain_body : (r : Record) → good r ≡ true → all_of plain_word (body_words r) ≡ true)
  where
    -- what holds of every plain byte and of the blanks that a text has holds of all that stands before its `=`
    before-all : (f : ℕ → Bool) → f 32 ≡ true → f 13 ≡ true → f 10 ≡ true → ((x : ℕ) → plain x ≡ true → f x ≡ true)
        → (r : Record) → good r ≡ true → all_of f (text_before r) ≡ true
    unfolding all_of
    before-all f space cr lf imp r g =
        rw (
          all_append f (line (heading_words r.heading)),
          line-all f space imp (heading_words r.heading) (plain-heading r.heading (good-parts r g).heading),
          cr,
          lf,
          all_append f (line (line_words r.line)),
          line-all f space imp (line_words r.line) (plain-line r.line (good-parts r g).line),
          cr,
          lf,
        )
        (line-all f space imp (body_words r) (plain_body r g))

    text-checked : (r : Record) → good r ≡ true → length (text_of r) ≤ 2048 → check_of (text_of r) ≡ record { number = 0; place = length (text_before r); length = 0 }
    unfolding allowed
    text-checked r g h =
        let long : length (text_of r) ≡ length (text_before r) + 1 = ap length (text-split r) ∙ length-append (text_before r) (61 ∷ []) in
        rw (text-split r)
        (check-bare (text_before r)
        (before-all allowed refl refl refl (λ x p. both_left (allowed x) (both (solid x) (unequal x)) p) r g)
        (before-all unequal refl refl refl (λ x p. both_right (solid x) (unequal x) (both_right (allowed x) (both (solid x) (unequal x)) p)) r g)
        (omega arith))

    text_in : (r : Record) → good r ≡ true → length (text_of r) ≤ 2048 → text_within (text_of r) ≡ text_before r
    text_in r g h = rw (text-checked r g h, text-split r) (take-append_seam (text_before r) (61 ∷ []))

    before-words : (r : Record) → good r ≡ true → words_in (text_before r) ≡ message_words r
    unfolding words_of
    before-words r g =
        let hs : List (List ℕ) = heading_words r.heading in
        let ls : List (List ℕ) = line_words r.line in
        let bs : List (List ℕ) = body_words r in
        words-line hs new_line (line ls ++ (new_line ++ line bs)) (solid-words hs (plain-heading r.heading (good-parts r g).heading)) gap-crlf
        ∙ (ap (λ (ws : List (List ℕ)). hs ++ ws) (words-line ls new_line (line bs) (solid-words ls (plain-line r.line (good-parts r g).line)) gap-crlf
        ∙ ap (λ (ws : List (List ℕ)). ls ++ ws) (words-line-end bs (solid-words bs (plain_body r g))))
        ∙ sym (append_assoc hs (ls ++ bs) (equals_sign ∷ []) ∙ ap (λ (ws : List (List ℕ)). hs ++ ws) (append_assoc ls bs (equals_sign ∷ []))))

    pub text-words : (r : Record) → good r ≡ true → length (text_of r) ≤ 2048 → words_in (text_within (text_of r)) ≡ message_words r
    text-words r g h = rw (text_in r g h) (before-words r g)

    -- a good record's text is read as that record
    pub text-read : (r : Record) → good r ≡ true → length (text_of r) ≤ 2048 → read_of (text_of r) ≡ acceptance r
    unfolding read_of
    text-read r g h = rw (text-checked r g h, text-split r, take-append_seam (text_before r) (61 ∷ []), words-accepted (text_before r) r g (before-words r g))

    -- and it is canonical
    pub text-canonical : (r : Record) → good r ≡ true → length (text_of r) ≤ 2048 → Canonical (text_of r)
    text-canonical r g h = record { words = words_of r; theirs = text-words r g h; layout = sym (laid-text r g) }

    pub read-good : (b : List ℕ) (r : Record) → read_of b ≡ acceptance r → (good r ≡ true) × (words_in (text_within b) ≡ message_words r)
    read-good b r e = accepted-words (text_within b) r (read-accepted b r e).1

    -- a canonical text that is read is the text of its record
    pub canonical-is-text : (b : List ℕ) (r : Record) → read_of b ≡ acceptance r → Canonical b → b ≡ text_of r
    canonical-is-text b r e c =
        let w : c.words ≡ words_of r = append_cancel_right c.words (words_of r) (equals_sign ∷ []) (sym c.theirs ∙ (read-good b r e).1) in
        c.layout ∙ rw w (laid-text r (read-good b r e).0)

    -- what is written is read as the record
    pub write_read : (r : Record) (buffer : List ℕ) → (write_of r buffer).number ≡ 0
        → read_of (take (write_of r buffer).count (write_of r buffer).buffer) ≡ acceptance r
    write_read r buffer =
        write-cases (λ (w : Wrote). w.number ≡ 0 → read_of (take w.count w.buffer) ≡ acceptance r) r buffer
        (λ e. absurd (omega arith))
        (λ e. absurd (omega arith))
        (λ e. absurd (omega arith))
        (λ g fits room e. rw (take-append_seam (text_of r) (drop (length (text_of r)) buffer)) (text-read r g fits))

    -- a canonical text that is read is written again, byte for byte
    pub read-write : (b : List ℕ) (r : Record) (buffer : List ℕ) → read_of b ≡ acceptance r → Canonical b → length b ≤ length buffer
        → write_of r buffer ≡ written b buffer
    unfolding write_of
    read-write b r buffer e c h =
        let t : b ≡ text_of r = canonical-is-text b r e c in
        let fits : length b ≤ 2048 = (check-readable b (read-accepted b r e).0).fits in
        rw ((read-good b r e).0, ← t, le-ltb 2048 (length b) fits, le-ltb (length buffer) (length b) h)

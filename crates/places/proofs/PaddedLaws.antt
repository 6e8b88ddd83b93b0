-- A sequence padded with spaces to three characters, and back.
use mathlib.Core.Bool.{Bool, true, false}
use mathlib.Core.List.{List, [], ◌∷◌}
use mathlib.Core.Path.{◌≡◌, refl, sym, ap, ◌∙◌}
use Prim.Native.Nat.{ℕ, ◌+◌, ◌*◌, ◌/◌, ◌%◌, ◌≤◌}
use native.Mathlib.Omega.{arith}
use native.Mathlib.Nat.{not-suc-le-zero, le_of_suc-le-suc}
use lib.Dec.{eqb, ltb}
use lib.ListN.{length, get_or, take}
use borrow.Author.Tests.{eq-eqb, ne_eqb, eqb-true, eqb-false, lt-ltb, le-leb}
use Rattle.lists.specs.Choice.{both, found}
use Rattle.lists.specs.Lists.{index_of, all_of}
use Rattle.lists.specs.Base.{worth, worth_after, places}
use Rattle.lists.proofs.Choice.{by, both_left, both_right, both_true, both-three, both-four, either-cases}
use Rattle.std.specs.Prelude.{Some, None}
use Rattle.std.specs.List.{position}
use Rattle.std.specs.Option.{unwrap_or}
use Rattle.lists.proofs.Found.{found-is, found-out}
use Rattle.lists.proofs.Library.{position-or-length}
use Rattle.lists.proofs.Lists.{all-weaken}
use Rattle.lists.proofs.Base.{places-worth}
use Rattle.words.specs.Bytes.{between, letter, digit}
use Rattle.words.proofs.Ranges.{between-low, between-high}
use Rattle.figures.specs.Figures.{in_figures}
use Rattle.figures.proofs.FigureLaws.{length-in_figures, in_figures-digits}
use Rattle.figures.proofs.ReadsLaws.{reads-spelled}
use Rattle.headings.specs.Sequences.{characters, good_sequence, sequence_of, spell_sequence}
use Rattle.headings.specs.declared.Sequence.{Sequence}
use Rattle.headings.proofs.SequenceLaws.{sequence-reads}
use Rattle.places.specs.Padded.{padded, padded_of, unpadded, held_sequence}

-- The forms of a sequence, written out.

-- three characters as one number, behind a zero byte
pub joined : (w : List ℕ) → length w ≡ 3 → 0 + get_or w 0 0 * 65536 + get_or w 1 0 * 256 + get_or w 2 0 ≡ worth 256 w
unfolding worth_after
joined [] h = absurd (omega arith)
joined (a ∷ []) h = absurd (omega arith)
joined (a ∷ b ∷ []) h = absurd (omega arith)
joined (a ∷ b ∷ c ∷ []) h = omega arith
joined (a ∷ b ∷ c ∷ d ∷ w) h = absurd (omega arith)

-- the characters of a sequence of one figure: it and two spaces
pub bare-one : (s : Sequence) {ones r : ℕ} → s.letter ≡ 0 → s.digits ≡ 1 → ones ≡ s.number % 10 + 48 → r ≡ (ones * 256 + 32) * 256 + 32 → r ≡ padded_of s
unfolding padded worth_after places spell_sequence
bare-one s l d e t = t ∙ rw (l, d, e) (omega arith)

-- the digits of a good sequence: one, two or three; no more than two behind a letter
pub third_digit : (s : Sequence) → good_sequence s ≡ true → s.letter ≡ 0 → (s.digits ≡ 1 → ⊥) → (s.digits ≡ 2 → ⊥) → s.digits ≡ 3
unfolding good_sequence
third_digit s g l one two =
    either-cases (both (eqb s.letter 0) (between 1 3 s.digits)) (both (letter s.letter) (between 1 2 s.digits)) (both_left (characters s) _ g)
    (λ e. let b = both_right (eqb s.letter 0) (between 1 3 s.digits) e in omega (arith, between-low 1 3 s.digits b, between-high 1 3 s.digits b, one, two))
    (λ e. absurd (let t = between-low 65 90 s.letter (both_left (letter s.letter) (between 1 2 s.digits) e) in omega (arith, t, l)))

pub second_digit : (s : Sequence) → good_sequence s ≡ true → (s.letter ≡ 0 → ⊥) → (s.digits ≡ 1 → ⊥) → s.digits ≡ 2
unfolding good_sequence
second_digit s g l one =
    either-cases (both (eqb s.letter 0) (between 1 3 s.digits)) (both (letter s.letter) (between 1 2 s.digits)) (both_left (characters s) _ g)
    (λ e. absurd (l (eqb-true s.letter 0 (both_left (eqb s.letter 0) (between 1 3 s.digits) e))))
    (λ e. let b = both_right (letter s.letter) (between 1 2 s.digits) e in omega (arith, between-low 1 2 s.digits b, between-high 1 2 s.digits b, one))

-- how many of them stand before the first space
eqb-swap : (a b : ℕ) → eqb a b ≡ eqb b a
eqb-swap a b = by (eqb b a) (λ t. rw t (eq-eqb a b (sym (eqb-true b a t)))) (λ f. rw f (ne_eqb a b (λ e. eqb-false b a f (sym e))))

pub space-count : (w : List ℕ) → length w ≡ 3 → unwrap_or (position (λ x. eqb x 32) w) 3 ≡ index_of (eqb 32) w
space-count w h =
    ap (unwrap_or (position (λ x. eqb x 32) w)) (sym h) ∙ position-or-length (λ x. eqb x 32) w ∙ ap (λ f. index_of f w) (λ i x. eqb-swap x 32 i)

-- what a padded number holds before its first space, three characters being given
pub unpads : (n : ℕ) {count : ℕ} → count ≡ index_of (eqb 32) (n / 65536 % 256 ∷ n / 256 % 256 ∷ n % 256 ∷ []) → take count (n / 65536 % 256 ∷ n / 256 % 256 ∷ n % 256 ∷ []) ≡ unpadded n
unfolding unpadded places
unpads n e =
    let a : n / 65536 % 256 ≡ n / 256 / 256 % 256 = omega arith in
    rw (e, a)

-- the test of a held sequence, by the sequence that its characters are
pub held_good : (n : ℕ) {s : Sequence} → found good_sequence (sequence_of (unpadded n)) ≡ Some s → (good_sequence s ≡ true) × (eqb (padded_of s) n ≡ held_sequence n)
unfolding held_sequence
held_good n e =
    let r = found-is {v = sequence_of (unpadded n)} good_sequence e in
    let g : good_sequence (sequence_of (unpadded n)) ≡ true = r.1 in
    (ap good_sequence (sym r.0) ∙ g, rw (← r.0, g, reads-spelled sequence-reads (unpadded n) g))

pub held_bad : (n : ℕ) → found good_sequence (sequence_of (unpadded n)) ≡ None → false ≡ held_sequence n
unfolding held_sequence
held_bad n e = rw (found-out {v = sequence_of (unpadded n)} good_sequence e)

-- Padding undone: three characters, none of them a space, are found again.

-- the characters of a sequence lie between `0` and `Z`
abbrev character : ℕ → Bool
character x = between 48 90 x

character-of-digit : (x : ℕ) → digit x ≡ true → character x ≡ true
character-of-digit x t = both_true (le-leb 48 x (between-low 48 57 x t)) (le-leb x 90 (omega (arith, between-high 48 57 x t)))

character-of-letter : (x : ℕ) → letter x ≡ true → character x ≡ true
character-of-letter x t = both_true (le-leb 48 x (omega (arith, between-low 65 90 x t))) (le-leb x 90 (between-high 65 90 x t))

no-space : (x : ℕ) → character x ≡ true → eqb 32 x ≡ false
no-space x t = ne_eqb 32 x (λ e. absurd (omega (arith, e, between-low 48 90 x t)))

one_byte : (x : ℕ) → character x ≡ true → ltb x 256 ≡ true
one_byte x t = lt-ltb x 256 (omega (arith, between-high 48 90 x t))

unpad-nothing : unpadded (padded []) ≡ []
unfolding unpadded padded index_of places worth_after
unpad-nothing = refl

unpad-word : (w : List ℕ) → length w ≤ 3 → all_of character w ≡ true → unpadded (padded w) ≡ w
unfolding unpadded padded index_of all_of
unpad-word [] h t = unpad-nothing
unpad-word (a ∷ []) h t =
    let p = both_left (character a) true t in
    rw (places-worth 256 (a ∷ 32 ∷ 32 ∷ []) (both_true (one_byte a p) refl), no-space a p)
unpad-word (a ∷ b ∷ []) h t =
    let u = both-three (character a) (character b) true t in
    rw (places-worth 256 (a ∷ b ∷ 32 ∷ []) (both_true (one_byte a u.0) (both_true (one_byte b u.1) refl)), no-space a u.0, no-space b u.1)
unpad-word (a ∷ b ∷ c ∷ []) h t =
    let u = both-four (character a) (character b) (character c) true t in
    rw (places-worth 256 (a ∷ b ∷ c ∷ []) (both_true (one_byte a u.0) (both_true (one_byte b u.1) (both_true (one_byte c u.2) refl))), no-space a u.0, no-space b u.1, no-space c u.2)
unpad-word (a ∷ b ∷ c ∷ d ∷ w) h t = absurd (not-suc-le-zero (le_of_suc-le-suc (le_of_suc-le-suc (le_of_suc-le-suc h))))

figures-characters : (k n : ℕ) → all_of character (in_figures k n) ≡ true
figures-characters k n = all-weaken digit character character-of-digit (in_figures k n) (in_figures-digits k n)

-- the text of a good sequence: at most three characters
spelled : (s : Sequence) → good_sequence s ≡ true → (length (spell_sequence s) ≤ 3) × (all_of character (spell_sequence s) ≡ true)
unfolding good_sequence spell_sequence all_of
spelled s g =
    either-cases (both (eqb s.letter 0) (between 1 3 s.digits)) (both (letter s.letter) (between 1 2 s.digits)) (both_left (characters s) _ g)
    (λ e.
    let z = both_left (eqb s.letter 0) (between 1 3 s.digits) e in
    rw z (omega (arith, length-in_figures s.digits s.number, between-high 1 3 s.digits (both_right (eqb s.letter 0) (between 1 3 s.digits) e)), figures-characters s.digits s.number))
    (λ e.
    let l = both_left (letter s.letter) (between 1 2 s.digits) e in
    let z : eqb s.letter 0 ≡ false = ne_eqb s.letter 0 (λ q. absurd (omega (arith, q, between-low 65 90 s.letter l))) in
    rw z (
      omega (arith, length-in_figures s.digits s.number, between-high 1 2 s.digits (both_right (letter s.letter) (between 1 2 s.digits) e)),
      both_true (character-of-letter s.letter l) (figures-characters s.digits s.number),
    ))

-- the characters of a padded sequence are those of the sequence, and so it is held as one; equal numbers are equal sequences as written
pub unpad-padded : (s : Sequence) → good_sequence s ≡ true → unpadded (padded_of s) ≡ spell_sequence s
unpad-padded s g = unpad-word (spell_sequence s) (spelled s g).0 (spelled s g).1

pub padded-held : (s : Sequence) → good_sequence s ≡ true → held_sequence (padded_of s) ≡ true
unfolding held_sequence
padded-held s g = rw (unpad-padded s g, sequence-reads.forth s g, g, eq-eqb (padded_of s) (padded_of s) refl)

pub padded-only : (s t : Sequence) → good_sequence s ≡ true → good_sequence t ≡ true → padded_of s ≡ padded_of t → s ≡ t
padded-only s t g h e =
    let same : spell_sequence s ≡ spell_sequence t = sym (unpad-padded s g) ∙ (ap unpadded e ∙ unpad-padded t h) in
    sym (sequence-reads.forth s g) ∙ (ap sequence_of same ∙ sequence-reads.forth t h)

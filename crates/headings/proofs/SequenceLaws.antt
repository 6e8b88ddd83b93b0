-- The sequence: its reader and its spelling undo one another, and the spelling is a word.
use mathlib.Core.Bool.{true, false}
use mathlib.Core.List.{List, ◌∷◌}
use mathlib.Core.Path.{◌≡◌, refl, ap, sym, ◌∙◌}
use Prim.Native.Nat.{ℕ, suc, ◌-◌, ◌^◌, ◌≤◌, ◌<◌}
use native.Mathlib.Nat.{le_trans, pow-le-pow_right, suc-sub-suc, sub-zero}
use native.Mathlib.Omega.{arith}
use lib.Dec.{leb, ltb, eqb, lit<}
use lib.ListN.{length, get_or, drop, length-drop}
use lib.Seq.{drop-cons}
use borrow.Author.Tests.{le-leb, lt-leb, ltb-true, ne_eqb, eqb-true}
use Rattle.lists.specs.Choice.{pick, both}
use Rattle.lists.proofs.Choice.{by, both_left, both_right, both_true, both-false-left, either-cases}
use Rattle.lists.proofs.Lists.{all-at}
use Rattle.words.specs.Bytes.{between, letter, digit}
use Rattle.words.specs.Words.{plain_word}
use Rattle.words.proofs.Ranges.{between-low, between-high}
use Rattle.figures.specs.Figures.{three_of, in_figures}
use Rattle.figures.specs.Reads.{Reads}
use Rattle.figures.proofs.FigureLaws.{length-in_figures, in_figures-digits, three-forth, three_back}
use Rattle.figures.proofs.ReadsLaws.{if-good-reads}
use Rattle.figures.proofs.PlainLaws.{letter-plain, in_figures-plain, run-plain, plain-cons}
use Rattle.headings.specs.Sequences.{characters, good_sequence, no_sequence, lettered, unlettered, sequence_of, spell_sequence}
use Rattle.headings.specs.declared.Sequence.{Sequence}

-- the two forms: no letter and 1 to 3 digits, or a letter and 1 or 2
by_form : {A : Type 0} (s : Sequence) → characters s ≡ true → (s.letter ≡ 0 → 1 ≤ s.digits → s.digits ≤ 3 → A) → (letter s.letter ≡ true → 1 ≤ s.digits → s.digits ≤ 2 → A) → A
by_form s t bare with =
    either-cases (both (eqb s.letter 0) (between 1 3 s.digits)) (both (letter s.letter) (between 1 2 s.digits)) t
    (λ e. let h : between 1 3 s.digits ≡ true = both_right (eqb s.letter 0) (between 1 3 s.digits) e in
    bare (eqb-true s.letter 0 (both_left (eqb s.letter 0) (between 1 3 s.digits) e)) (between-low 1 3 s.digits h) (between-high 1 3 s.digits h))
    (λ e. let h : between 1 2 s.digits ≡ true = both_right (letter s.letter) (between 1 2 s.digits) e in
    with (both_left (letter s.letter) (between 1 2 s.digits) e) (between-low 1 2 s.digits h) (between-high 1 2 s.digits h))

characters-some : (s : Sequence) → characters s ≡ true → 1 ≤ s.digits
characters-some s t = by_form s t (λ e l h. l) (λ e l h. l)

characters-few : (s : Sequence) → characters s ≡ true → s.digits ≤ 3
characters-few s t = by_form s t (λ e l h. h) (λ e l h. omega arith)

-- The value of a word of 1 to 3 bytes.

abbrev pub sequence_value : List ℕ → Sequence
sequence_value w = pick (letter (get_or w 0 0)) (lettered w) (unlettered w)

-- What is good, and its spelling.

module _ (s : Sequence) (g : good_sequence s ≡ true) where
  good-characters : characters s ≡ true
  unfolding good_sequence
  good-characters = both_left (characters s) (both (ltb 0 s.number) (ltb s.number (10 ^ s.digits))) g

  good-below : s.number < 10 ^ s.digits
  unfolding good_sequence
  good-below = ltb-true s.number (10 ^ s.digits) (both_right (ltb 0 s.number) (ltb s.number (10 ^ s.digits)) (both_right (characters s) (both (ltb 0 s.number) (ltb s.number (10 ^ s.digits))) g))

  good-small : s.number < 1000
  good-small = le_trans good-below (pow-le-pow_right (lit< tt) (characters-few s good-characters))

  three-again : three_of (in_figures s.digits s.number) ≡ s.number
  three-again = three-forth s.digits s.number (characters-few s good-characters) good-below

spell-bare : (s : Sequence) → s.letter ≡ 0 → spell_sequence s ≡ in_figures s.digits s.number
unfolding spell_sequence
spell-bare s e = rw e

spell-lettered : (s : Sequence) → letter s.letter ≡ true → spell_sequence s ≡ s.letter ∷ in_figures s.digits s.number
unfolding spell_sequence
spell-lettered s t =
    let low : 65 ≤ s.letter = between-low 65 90 s.letter t in
    rw (ne_eqb s.letter 0 (omega arith))

sequence-passes : (s : Sequence) → good_sequence s ≡ true → between 1 3 (length (spell_sequence s)) ≡ true
sequence-passes s g =
    by_form s (good-characters s g)
    (λ e l h. rw (spell-bare s e, length-in_figures s.digits s.number) (both_true (le-leb 1 s.digits l) (le-leb s.digits 3 h)))
    (λ e l h. rw (spell-lettered s e, length-in_figures s.digits s.number) (both_true (le-leb 1 (suc s.digits) (omega arith)) (le-leb (suc s.digits) 3 (omega arith))))

-- a run of figures begins with no letter
figures-first : (k n : ℕ) → 1 ≤ k → letter (get_or (in_figures k n) 0 0) ≡ false
figures-first k n h =
    let x : ℕ = get_or (in_figures k n) 0 0 in
    let first : digit x ≡ true = all-at digit (in_figures k n) 0 (in_figures-digits k n) 0 (omega (arith, length-in_figures k n)) in
    both-false-left (leb x 90) (lt-leb 65 x (omega (arith, between-high 48 57 x first)))

sequence-gives : (s : Sequence) → good_sequence s ≡ true → sequence_value (spell_sequence s) ≡ s
sequence-gives s g =
    by_form s (good-characters s g)
    (λ e l h. rw (spell-bare s e, figures-first s.digits s.number l, length-in_figures s.digits s.number, three-again s g) (ap (λ (x : ℕ). record { letter = x; digits = s.digits; number = s.number }) (sym e)))
    (λ e l h. rw (spell-lettered s e, e, length-in_figures s.digits s.number, three-again s g, suc-sub-suc s.digits 0, sub-zero s.digits))

sequence-spelled : (w : List ℕ) → between 1 3 (length w) ≡ true → good_sequence (sequence_value w) ≡ true → spell_sequence (sequence_value w) ≡ w
sequence-spelled w t g =
    by (letter (get_or w 0 0))
    (λ e. rw e (spell-lettered (lettered w) e ∙ rest (good-small (lettered w) (rw e at g))))
    (λ f. rw f (spell-bare (unlettered w) refl ∙ three_back w (good-small (unlettered w) (rw f at g))))
  where
    rest : three_of (drop 1 w) < 1000 → get_or w 0 0 ∷ in_figures (length w - 1) (three_of (drop 1 w)) ≡ w
    rest h =
        let figures : in_figures (length w - 1) (three_of (drop 1 w)) ≡ drop 1 w = rw (length-drop 1 w) at (three_back (drop 1 w) h) in
        rw figures (sym (drop-cons w 0 0 (between-low 1 3 (length w) t)))

pub sequence-reads : Reads sequence_of spell_sequence good_sequence no_sequence
unfolding sequence_of good_sequence
sequence-reads =
    if-good-reads (λ (w : List ℕ). between 1 3 (length w)) sequence_value spell_sequence good_sequence no_sequence sequence-passes sequence-gives sequence-spelled refl

pub sequence-plain : (s : Sequence) → good_sequence s ≡ true → plain_word (spell_sequence s) ≡ true
sequence-plain s g =
    by_form s (good-characters s g)
    (λ e l h. rw (spell-bare s e) (run-plain (in_figures s.digits s.number) (omega (arith, length-in_figures s.digits s.number)) (in_figures-plain s.digits s.number)))
    (λ e l h. rw (spell-lettered s e) (plain-cons s.letter (in_figures s.digits s.number) (letter-plain s.letter e) (in_figures-plain s.digits s.number)))

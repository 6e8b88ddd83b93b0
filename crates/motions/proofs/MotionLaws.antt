-- Compass points, intensities and speeds: each reader and its spelling undo one another, and each spelling is a word.
use mathlib.Core.Bool.{true, false}
use mathlib.Core.List.{List, [], map}
use mathlib.Core.Path.{◌≡◌, refl, ◌∙◌}
use Prim.Native.Nat.{ℕ, ◌<◌}
use native.Mathlib.Omega.{arith}
use lib.Dec.{leb, ltb, eqb, lit<}
use lib.ListN.{length, length-map, drop, length-append, take-append-drop, drop_of_length-le}
use lib.Seq.{take_at, drop_at}
use borrow.Author.Tests.{leb-true, ltb-true, ltb-false, lt-ltb}
use Rattle.std.specs.Prelude.{Option, Some, None, position}
use Rattle.lists.specs.Base.{worth_after}
use Rattle.lists.specs.Choice.{pick, found}
use Rattle.lists.specs.Lists.{index_of, all_of, part, same}
use Rattle.lists.proofs.Choice.{by, clash, both_left, both_right, both_true, both-false-right}
use Rattle.lists.proofs.Lists.{all-at, all_append, length_part}
use Rattle.lists.proofs.Library.{position-found}
use Rattle.words.specs.Bytes.{between, allowed, plain}
use Rattle.words.specs.Words.{run_of, plain_word}
use Rattle.figures.specs.Figures.{two_of, in_figures}
use Rattle.figures.specs.Codes.{short, code_of}
use Rattle.figures.specs.Tables.{distinct, number_in, numbered, in_numbers}
use Rattle.figures.specs.Reads.{Reads}
use Rattle.figures.proofs.FigureLaws.{length-in_figures, two-forth, two_back}
use Rattle.figures.proofs.TableLaws.{find-word, table-reads, number-coded, numbers-reads, numbered-all}
use Rattle.figures.proofs.PlainLaws.{in_figures-plain}
use Rattle.motions.specs.Motions.{compass_words, compass_of, good_compass, spell_compass, intensity_words, intensity_of, good_intensity, spell_intensity}
use Rattle.motions.specs.Speeds.{unit_words, good_speed, no_speed, speed_of, spell_speed}
use Rattle.motions.specs.declared.Speed.{Speed}
use Rattle.figures.proofs.ReadsLaws.{if-good-reads, reads-spelled}

-- The compass.

compass-short : all_of short compass_words ≡ true
unfolding compass_words all_of
compass-short = refl

compass-distinct : distinct compass_words ≡ true
unfolding compass_words distinct all_of same
compass-distinct = refl

-- what is found in a table of the compass points' codes is the point's number
pub compass-found : {r : Option ℕ} {codes : List ℕ} {x : ℕ} (w : List ℕ) → r ≡ position (eqb x) codes → x ≡ code_of w → codes ≡ map code_of compass_words → r ≡ found good_compass (compass_of w)
compass-found w f q p = f ∙ rw (q, p) (position-found (eqb (code_of w)) (map code_of compass_words) ∙ rw (length-map compass_words code_of, find-word compass_words w compass-short))

pub compass-reads : Reads compass_of spell_compass good_compass 16
unfolding compass_words
compass-reads = table-reads compass_words compass-distinct

pub compass-plain : (n : ℕ) → good_compass n ≡ true → plain_word (spell_compass n) ≡ true
unfolding compass_words all_of allowed
compass-plain n g = all-at (run_of plain) compass_words [] refl n (ltb-true n (length compass_words) g)

-- The intensity.

intensity-distinct : distinct intensity_words ≡ true
unfolding intensity_words distinct all_of same
intensity-distinct = refl

-- a word's code tells its number
pub intensity_codes : (w : List ℕ) → found good_intensity (intensity_of w) ≡ pick (eqb (code_of w) 0x01494e545346) (Some 1) (pick (eqb (code_of w) 0x01574b4e) (Some 2) (pick (eqb (code_of w) 0x014e43) (Some 3) None))
unfolding intensity_words code_of worth_after all_of
intensity_codes w = number-coded 1 intensity_words w (lit< tt) refl

pub intensity-reads : Reads intensity_of spell_intensity good_intensity 0
unfolding intensity_words
intensity-reads = numbers-reads 1 intensity_words (lit< tt) (lit< tt) intensity-distinct

pub intensity-plain : (n : ℕ) → good_intensity n ≡ true → plain_word (spell_intensity n) ≡ true
unfolding intensity_words all_of allowed
intensity-plain n g = numbered-all (run_of plain) 1 intensity_words (lit< tt) refl n g

-- The unit of a speed.

units-distinct : distinct unit_words ≡ true
unfolding unit_words distinct all_of same
units-distinct = refl

-- a word's code tells its number
pub unit_codes : (w : List ℕ) → found (in_numbers 1 unit_words) (number_in 1 unit_words w) ≡ pick (eqb (code_of w) 0x014b54) (Some 1) (pick (eqb (code_of w) 0x014b4d48) (Some 2) None)
unfolding unit_words code_of worth_after all_of
unit_codes w = number-coded 1 unit_words w (lit< tt) refl

unit-reads : Reads (number_in 1 unit_words) (numbered 1 unit_words) (in_numbers 1 unit_words) 0
unfolding unit_words
unit-reads = numbers-reads 1 unit_words (lit< tt) (lit< tt) units-distinct

unit-plain : (n : ℕ) → in_numbers 1 unit_words n ≡ true → all_of plain (numbered 1 unit_words n) ≡ true
unfolding unit_words all_of allowed
unit-plain n g = numbered-all (all_of plain) 1 unit_words (lit< tt) refl n g

-- The speed.

abbrev pub speed_value : List ℕ → Speed
speed_value w = record { value = two_of (part 0 2 w); unit = number_in 1 unit_words (drop 2 w) }

module _ (s : Speed) (t : good_speed s ≡ true) where
  good-value : s.value < 100
  unfolding good_speed
  good-value = omega (arith, leb-true s.value 99 (both_right (leb 1 s.value) (leb s.value 99) (both_left (between 1 99 s.value) (in_numbers 1 unit_words s.unit) t)))

  good-unit : in_numbers 1 unit_words s.unit ≡ true
  unfolding good_speed
  good-unit = both_right (between 1 99 s.value) (in_numbers 1 unit_words s.unit) t

-- a word of fewer than two bytes has no unit
pub short_bad : (w : List ℕ) → length w < 2 → good_speed (speed_value w) ≡ false
unfolding good_speed unit_words index_of same
short_bad w h = rw (drop_of_length-le w {i = 2} (omega arith)) (both-false-right (between 1 99 (two_of (part 0 2 w))) refl)

speed-gives : (s : Speed) → good_speed s ≡ true → speed_value (spell_speed s) ≡ s
unfolding spell_speed
speed-gives s t =
    let n : List ℕ = in_figures 2 s.value in
    let u : List ℕ = numbered 1 unit_words s.unit in
    rw (
      take_at n u 2 (length-in_figures 2 s.value),
      drop_at n u 2 (length-in_figures 2 s.value),
      two-forth s.value (good-value s t),
      unit-reads.forth s.unit (good-unit s t),
    )

speed-spelled : (w : List ℕ) → good_speed (speed_value w) ≡ true → spell_speed (speed_value w) ≡ w
unfolding spell_speed
speed-spelled w t =
    by (ltb (length w) 2)
    (λ e. clash (good_speed (speed_value w)) t (short_bad w (ltb-true (length w) 2 e)))
    (λ f. rw (two_back (part 0 2 w) (length_part 0 2 w (omega arith) (ltb-false (length w) 2 f)) (good-value (speed_value w) t), reads-spelled unit-reads (drop 2 w) (good-unit (speed_value w) t)) (take-append-drop 2 w))

pub speed-reads : Reads speed_of spell_speed good_speed no_speed
unfolding speed_of good_speed
speed-reads = if-good-reads (λ (w : List ℕ). true) speed_value spell_speed good_speed no_speed (λ s t. refl) speed-gives (λ w e t. speed-spelled w t) refl

pub speed-plain : (s : Speed) → good_speed s ≡ true → plain_word (spell_speed s) ≡ true
unfolding spell_speed
speed-plain s t =
    both_true
    (lt-ltb 0 (length (spell_speed s)) (omega (arith, length-append (in_figures 2 s.value) (numbered 1 unit_words s.unit), length-in_figures 2 s.value)))
    (rw (all_append plain (in_figures 2 s.value) (numbered 1 unit_words s.unit), in_figures-plain 2 s.value, unit-plain s.unit (good-unit s t)))

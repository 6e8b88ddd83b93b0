-- Kinds of word: neither the empty word nor the `=` is one. And four letters, which are read as a number that is not 0.
use mathlib.Core.Bool.{Bool, true}
use mathlib.Core.List.{List, []}
use mathlib.Core.Logic.{⊎_elim}
use mathlib.Core.Path.{◌≡◌, refl, ap, sym, ◌∙◌}
use Prim.Native.Nat.{ℕ}
use native.Mathlib.Omega.{arith}
use lib.Dec.{ltb, lit<}
use borrow.Author.Tests.{lt-ltb}
use Rattle.lists.specs.Base.{worth_after, places}
use Rattle.lists.specs.Lists.{all_of, index_of, same}
use Rattle.lists.proofs.Choice.{clash, both-false-left}
use Rattle.words.specs.Words.{equals_sign}
use Rattle.figures.specs.Figures.{figures_of}
use Rattle.figures.specs.Letters.{letters_of, good_letters, in_letters}
use Rattle.figures.proofs.LetterLaws.{letters-reads}
use Rattle.coordinates.specs.Coordinates.{north_south, east_west, coordinate_of, good_coordinate}
use Rattle.groups.specs.declared.Time.{Time}
use Rattle.groups.specs.Groups.{group_of, good_group, period_of, good_period, time_of, good_time}
use Rattle.headings.specs.declared.Sequence.{Sequence}
use Rattle.headings.specs.Headings.{type_words, designator_of, good_designator, correction_of, good_correction, office_of}
use Rattle.headings.specs.Sequences.{sequence_of, good_sequence}
use Rattle.names.specs.Names.{closing_words, closing_of, good_closing}
use Rattle.levels.specs.Levels.{level_of, good_level_word, flight}
use Rattle.motions.specs.Motions.{compass_words, compass_of, good_compass, intensity_words, intensity_of, good_intensity}
use Rattle.motions.specs.Speeds.{unit_words, speed_of, good_speed}
use Rattle.message.specs.declared.FirstLine.{FirstLine}
use Rattle.grammar.specs.Numbers.{number_of}
use Rattle.grammar.specs.States.{State}
use Rattle.grammar.specs.Steps.{goes_if, cancels, step}
use Rattle.reader_sections.specs.declared.parts.Part.{Part}
use Rattle.reader_sections.specs.Endings.{forecast_time}
use Rattle.reader_sections.specs.Parts.{part_number}
use Rattle.reader_sections.specs.Reports.{flight_in}
use Rattle.reader_sections.proofs.OneWord.{Accepts}
use Rattle.reader_sections.proofs.RunsAt.{OnlyWords}

pub letters-only : OnlyWords (λ (w : List ℕ). good_letters 4 (letters_of 4 w))
unfolding good_letters letters_of places all_of
letters-only = record { empty = refl; sign = refl }

-- four letters, and a word of no letters is no number
letters-some : (n : ℕ) → good_letters 4 n ≡ true → n ≡ 0 → ⊥
unfolding good_letters places all_of
letters-some n g z = clash (good_letters 4 n) g (rw z)

letters-test : (w : List ℕ) → good_letters 4 (letters_of 4 w) ≡ ltb 0 (letters_of 4 w)
letters-test w = ⊎_elim none some ((letters-reads 4 (lit< tt) (lit< tt)).back w)
  where
    none : letters_of 4 w ≡ 0 → good_letters 4 (letters_of 4 w) ≡ ltb 0 (letters_of 4 w)
    none e = rw e (letters-reads 4 (lit< tt) (lit< tt)).refuses

    some : (good_letters 4 (letters_of 4 w) ≡ true) × (in_letters 4 (letters_of 4 w) ≡ w) → good_letters 4 (letters_of 4 w) ≡ ltb 0 (letters_of 4 w)
    some p = let n : letters_of 4 w ≡ 0 → ⊥ = letters-some _ p.0 in p.0 ∙ sym (lt-ltb 0 (letters_of 4 w) (omega arith))

pub four-letters : {s : State} {judged : Part} {next : ℕ → State} {w : List ℕ} → step s w ≡ goes_if (good_letters 4 (letters_of 4 w)) (next (letters_of 4 w))
    → number_of s ≡ part_number judged → Accepts s judged (letters_of 4) (ltb 0) next w
four-letters {next = next} {w = w} k n = record {
  does = k ∙ ap (λ (b : Bool). goes_if b (next (letters_of 4 w))) (letters-test w);
  number = n;
  only = record { empty = sym (letters-test []) ∙ letters-only.empty; sign = sym (letters-test equals_sign) ∙ letters-only.sign };
}

pub office-only : OnlyWords (λ (w : List ℕ). good_letters 4 (office_of w))
unfolding good_letters office_of places all_of
office-only = record { empty = refl; sign = refl }

pub designator-only : OnlyWords (λ (w : List ℕ). good_designator (designator_of w))
unfolding good_designator designator_of type_words
designator-only = record { empty = refl; sign = refl }

pub correction-only : OnlyWords (λ (w : List ℕ). good_correction (correction_of w))
unfolding good_correction correction_of
correction-only = record { empty = refl; sign = refl }

pub sequence-only : OnlyWords (λ (w : List ℕ). good_sequence (sequence_of w))
unfolding good_sequence sequence_of figures_of all_of worth_after
sequence-only = record { empty = refl; sign = refl }

pub group-only : OnlyWords (λ (w : List ℕ). good_group (group_of w))
unfolding good_group group_of
group-only = record { empty = refl; sign = refl }

pub period-only : OnlyWords (λ (w : List ℕ). good_period (period_of w))
unfolding good_period good_group period_of
period-only = record { empty = refl; sign = refl }

pub time-only : OnlyWords (λ (w : List ℕ). good_time (time_of w))
unfolding good_time time_of
time-only = record { empty = refl; sign = refl }

pub closing-only : OnlyWords (λ (w : List ℕ). good_closing (closing_of w))
unfolding closing_words index_of same
closing-only = record { empty = refl; sign = refl }

pub latitude-only : OnlyWords (λ (w : List ℕ). good_coordinate north_south (coordinate_of north_south w))
unfolding good_coordinate coordinate_of
latitude-only = record { empty = refl; sign = refl }

pub longitude-only : OnlyWords (λ (w : List ℕ). good_coordinate east_west (coordinate_of east_west w))
unfolding good_coordinate coordinate_of
longitude-only = record { empty = refl; sign = refl }

pub compass-only : OnlyWords (λ (w : List ℕ). good_compass (compass_of w))
unfolding compass_words index_of same
compass-only = record { empty = refl; sign = refl }

pub speed-only : OnlyWords (λ (w : List ℕ). good_speed (speed_of w))
unfolding good_speed speed_of unit_words index_of same figures_of all_of worth_after
speed-only = record { empty = refl; sign = refl }

pub intensity-only : OnlyWords (λ (w : List ℕ). good_intensity (intensity_of w))
unfolding intensity_words index_of same
intensity-only = record { empty = refl; sign = refl }

pub cancelled-only : (l : FirstLine) (s : Sequence) → OnlyWords (λ (w : List ℕ). cancels l s (period_of w))
unfolding cancels
cancelled-only l s = record { empty = both-false-left _ period-only.empty; sign = both-false-left _ period-only.sign }

pub forecast-only : (end : Time) → OnlyWords (λ (w : List ℕ). forecast_time end (time_of w))
forecast-only end = record { empty = both-false-left _ time-only.empty; sign = both-false-left _ time-only.sign }

pub level-only : OnlyWords (λ (w : List ℕ). good_level_word (level_of w))
unfolding level_of good_level_word
level-only = record { empty = refl; sign = refl }

pub flight-only : OnlyWords (λ (w : List ℕ). flight (flight_in w))
unfolding level_of
flight-only = record { empty = refl; sign = refl }

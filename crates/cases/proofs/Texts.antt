-- The records of the cases, given field by field, are good, and the texts that they were read from are their canonical texts. And the writer, on
-- the sample and on the empty record.
use mathlib.Core.Bool.{Bool, true, not}
use mathlib.Core.List.{List, [], ◌∷◌, ◌++◌}
use mathlib.Core.Path.{◌≡◌, refl}
use Prim.Native.Nat.{ℕ}
use lib.ListN.{replicate}
use Rattle.lists.specs.Base.{worth_after, places}
use Rattle.lists.specs.Lists.{index_of, all_of, same}
use Rattle.words.specs.Words.{line}
use Rattle.figures.specs.Letters.{good_letters}
use Rattle.coordinates.specs.Coordinates.{good_coordinate, empty_coordinate, spell_coordinate, signed_of}
use Rattle.coordinates.specs.Points.{same_point, good_point, empty_point}
use Rattle.groups.specs.Groups.{good_group, good_period, good_time, spell_group, spell_period, spell_time}
use Rattle.headings.specs.Headings.{type_words, good_designator, good_correction, spell_designator}
use Rattle.headings.specs.Sequences.{good_sequence, spell_sequence}
use Rattle.levels.specs.Levels.{good_level_word, spell_level_word, good_level, empty_level, level_words}
use Rattle.names.specs.Names.{closing_words, name_word, pieces, name_text}
use Rattle.motions.specs.Motions.{compass_words, intensity_words}
use Rattle.motions.specs.Speeds.{unit_words, good_speed, spell_speed}
use Rattle.message.specs.Locations.{good_side, empty_side, good_bound, no_points, good_outline, good_extent, empty_extent, bound_words, dashed, joined, extent_words}
use Rattle.message.specs.Names.{good_name, empty_name}
use Rattle.message.specs.Records.{good_heading, good_line, good_area, names_itself, good_form, good}
use Rattle.message.specs.Reports.{phenomena, good_volcano, empty_volcano, good_phenomenon, phenomenon_words, good_observation, empty_observation, observation_words, good_ending, empty_ending, ending_words, good_report, empty_report, report_words}
use Rattle.message.specs.Empty.{no_record}
use Rattle.message.specs.Sample.{sample, sample_text}
use Rattle.message.specs.Words.{heading_words, line_words, area_words, test_texts, form_words, body_words, text_of}
use Rattle.message.specs.declared.Record.{Record}
use Rattle.grammar.specs.Writes.{write_of}
use Rattle.cases.specs.Samples.{reporting, east_of, E180, later_saying, located, cancelling}
use Rattle.cases.specs.Cases.{saying, meridian_outline, climb, climb_text, closed_at, longest_outline, longest_twice, foreseen, testing, testing_fifty, eruption_text, eruption_record, corrected_text, corrected_record}

-- the record is good, and that is its text
pub record Shown (r : Record) (text : List ℕ) : Type 0 where
  pub is_good : good r ≡ true
  pub written : text_of r ≡ text

-- a record's goodness and its text with every definition open that they come to
opened : Record → Bool
unfolding
    write_of climb climb_text sample_text good sample good_heading good_line good_area names_itself good_form good_report empty_report good_designator good_correction good_letters good_group good_period good_sequence good_name good_phenomenon good_volcano good_point good_observation empty_observation good_extent good_outline good_level empty_level good_ending empty_ending empty_volcano empty_name empty_point empty_coordinate empty_side good_bound good_side good_coordinate no_points empty_extent good_level_word good_speed unit_words intensity_words closing_words type_words worth_after places all_of name_text pieces name_word index_of same good_time compass_words same_point signed_of
    text_of heading_words line_words body_words area_words test_texts form_words report_words phenomenon_words observation_words extent_words level_words ending_words spell_designator spell_group spell_period spell_sequence spell_time spell_level_word spell_speed spell_coordinate bound_words dashed joined phenomena line
opened r = good r

pub E180-text : Shown (east_of E180) (reporting "E OF E180 SFC/FL100 MOV E 20KT WKN=")
unfolding opened
E180-text = record { is_good = refl; written = refl }

pub eruption-text : Shown eruption_record eruption_text
unfolding opened
eruption-text = record { is_good = refl; written = refl }

pub corrected-text : Shown corrected_record corrected_text
unfolding opened
corrected-text = record { is_good = refl; written = refl }

pub test-one-text : Shown (testing 1) (saying "QBBB NORTH SOUND FIR TEST=")
unfolding opened
test-one-text = record { is_good = refl; written = refl }

pub test-two-text : Shown (testing 2) (saying "QBBB NORTH SOUND FIR TEST SIGMET PLEASE DISREGARD=")
unfolding opened
test-two-text = record { is_good = refl; written = refl }

pub test-three-text : Shown (testing 3) (saying "QBBB NORTH SOUND FIR TEST. THIS IS A TEST SIGMET, PLEASE DISREGARD=")
unfolding opened
test-three-text = record { is_good = refl; written = refl }

pub cancellation-text : Shown cancelling (later_saying "QBBB NORTH SOUND FIR CNL SIGMET 1 180830/181230=")
unfolding opened
cancellation-text = record { is_good = refl; written = refl }

pub fifty-text : Shown testing_fifty (saying "QBBB ABCDEFGHI ABCDEFGHI ABCDEFGHI ABCDEFGHI ABCDEFGHIJ FIR TEST=")
unfolding opened
fifty-text = record { is_good = refl; written = refl }

pub meridian-text : Shown (located meridian_outline) (reporting "WI N10 E180 - N11 E180 - N11 E179 - N10 W18000 SFC/FL100 MOV E 20KT WKN=")
unfolding opened
meridian-text = record { is_good = refl; written = refl }

-- 02, CR 7: "Outlines may have 4 to 20 written points": closed at each of these, …
pub closed-at-each : all_of (λ (n : ℕ). good_outline n (closed_at n)) (4 ∷ 5 ∷ 6 ∷ 7 ∷ 8 ∷ 9 ∷ 10 ∷ 11 ∷ 12 ∷ 13 ∷ 14 ∷ 15 ∷ 16 ∷ 17 ∷ 18 ∷ 19 ∷ 20 ∷ []) ≡ true
unfolding opened
closed-at-each = refl

-- … and at no point before or after
pub closed-elsewhere : all_of (λ (n : ℕ). not (good_outline n (closed_at n))) (2 ∷ 3 ∷ 21 ∷ 22 ∷ []) ≡ true
unfolding opened
closed-elsewhere = refl

pub longest-text : Shown (foreseen longest_outline) longest_twice
unfolding opened
longest-text = record { is_good = refl; written = refl }

-- 01, "Writer: 13 bad record; 24 text over 2,048 bytes; 14 buffer shorter than what would be written. Count 0, buffer untouched. On success
-- … the bytes past the count stay." 24 cannot happen (`never-24`, crate grammar).

-- the empty record is a bad one, and 13 goes before 14
pub empty-13 : write_of no_record (7 ∷ []) ≡ record { number = 13; count = 0; buffer = 7 ∷ [] }
unfolding opened
empty-13 = refl

-- the sample has 130 bytes
pub sample-14 : write_of sample (replicate 129 7) ≡ record { number = 14; count = 0; buffer = replicate 129 7 }
unfolding opened
sample-14 = refl

pub sample-fits : write_of sample (replicate 130 7) ≡ record { number = 0; count = 130; buffer = sample_text }
unfolding opened
sample-fits = refl

pub sample-room : write_of sample (replicate 132 7) ≡ record { number = 0; count = 130; buffer = sample_text ++ (7 ∷ 7 ∷ []) }
unfolding opened
sample-room = refl

-- The sample evaluated: its record is good, and its canonical text is the paper's 130 bytes.
use mathlib.Core.Bool.{true, false}
use mathlib.Core.Path.{◌≡◌, refl}
use lib.ListN.{length}
use Rattle.lists.specs.Base.{worth_after, places}
use Rattle.lists.specs.Lists.{index_of, all_of, same}
use Rattle.words.specs.Words.{line}
use Rattle.coordinates.specs.Coordinates.{good_coordinate, empty_coordinate, spell_coordinate}
use Rattle.coordinates.specs.Points.{empty_point}
use Rattle.figures.specs.Letters.{good_letters}
use Rattle.groups.specs.Groups.{good_group, good_period, good_time, spell_group, spell_period, spell_time}
use Rattle.headings.specs.Headings.{type_words, good_designator, spell_designator}
use Rattle.levels.specs.Levels.{good_level_word, spell_level_word, good_level, level_words}
use Rattle.names.specs.Names.{closing_words, name_word, pieces, name_text}
use Rattle.headings.specs.Sequences.{good_sequence, spell_sequence}
use Rattle.motions.specs.Speeds.{unit_words, good_speed, spell_speed}
use Rattle.motions.specs.Motions.{compass_words, intensity_words}
use Rattle.message.specs.Names.{good_name, empty_name}
use Rattle.message.specs.Locations.{good_side, empty_side, good_bound, no_points, good_extent, empty_extent, bound_words, extent_words}
use Rattle.message.specs.Records.{good_heading, good_line, good_area, good_form, good}
use Rattle.message.specs.Reports.{phenomena, empty_volcano, good_phenomenon, phenomenon_words, good_observation, observation_words, good_ending, ending_words, good_report, report_words}
use Rattle.message.specs.Empty.{no_record}
use Rattle.message.specs.Sample.{sample, sample_text}
use Rattle.message.specs.Words.{heading_words, line_words, area_words, form_words, body_words, text_of}

pub sample-good : good sample ≡ true
unfolding
    good sample good_heading good_line good_area good_form good_report good_designator good_letters good_group good_period good_sequence good_name good_phenomenon good_observation good_extent good_level good_ending empty_volcano empty_name empty_point empty_coordinate empty_side good_bound good_side good_coordinate no_points empty_extent good_level_word good_speed unit_words intensity_words closing_words type_words worth_after places all_of name_text pieces name_word index_of same good_time compass_words
sample-good = refl

pub sample-text : text_of sample ≡ sample_text
unfolding
    text_of sample sample_text heading_words line_words body_words area_words form_words report_words phenomenon_words observation_words extent_words level_words ending_words spell_designator spell_group spell_period spell_sequence spell_time spell_level_word spell_speed spell_coordinate bound_words empty_side empty_coordinate phenomena compass_words intensity_words closing_words type_words unit_words worth_after places pieces line empty_name all_of
sample-text = refl

pub sample-length : length sample_text ≡ 130
unfolding sample_text
sample-length = refl

-- the empty record is a bad one
pub empty-bad : good no_record ≡ false
unfolding good good_heading good_designator type_words
empty-bad = refl

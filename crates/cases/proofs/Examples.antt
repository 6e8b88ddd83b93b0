-- The published examples, evaluated on the definition: those inside the paper are read and written back as they stand, the others are
-- refused. The places were counted in the texts.
use mathlib.Core.List.{List}
use mathlib.Core.Path.{◌≡◌, refl}
use Prim.Native.Nat.{ℕ}
use Rattle.lists.specs.Base.{worth_after, places}
use Rattle.lists.specs.Lists.{index_of, all_of, same}
use Rattle.words.specs.Bytes.{allowed}
use Rattle.words.specs.Check.{check_of}
use Rattle.words.specs.Words.{scan, line, span_of, length_at}
use Rattle.figures.specs.Figures.{figures_of}
use Rattle.figures.specs.Letters.{letters_of, good_letters}
use Rattle.coordinates.specs.Coordinates.{coordinate_of, good_coordinate, empty_coordinate, spell_coordinate, signed_of}
use Rattle.coordinates.specs.Points.{same_point}
use Rattle.groups.specs.Groups.{group_of, good_group, spell_group, period_of, good_period, spell_period, time_of, good_time, spell_time}
use Rattle.headings.specs.Headings.{type_words, designator_of, good_designator, spell_designator, correction_of, good_correction, office_of}
use Rattle.headings.specs.Sequences.{sequence_of, good_sequence, spell_sequence}
use Rattle.names.specs.Names.{closing_words, name_word, pieces}
use Rattle.levels.specs.Levels.{level_of, good_level_word, spell_level_word, level_words}
use Rattle.motions.specs.Motions.{compass_words, intensity_words}
use Rattle.motions.specs.Speeds.{unit_words, speed_of, good_speed, spell_speed}
use Rattle.message.specs.Locations.{empty_side, bound_words, dashed, joined, extent_words}
use Rattle.message.specs.Names.{empty_name}
use Rattle.message.specs.Records.{names_itself}
use Rattle.message.specs.Reports.{phenomena, phenomenon_words, observation_words, ending_words, report_words}
use Rattle.message.specs.Words.{heading_words, line_words, area_words, test_texts, form_words, body_words, text_of}
use Rattle.grammar.specs.Placing.{pointed, locating, place_step}
use Rattle.cases.specs.Published.{ReadsBack, thunderstorms, duststorms, sandstorms, turbulence, mountain_waves, icing, radioactive_cloud, cancelled, ash_cancelled, sakurajima, kelut, kelut_joined}
use Rattle.grammar.specs.Bulletins.{refusal}
use Rattle.grammar.specs.Reads.{read_of}
use Rattle.grammar.specs.Runs.{run, run_at}
use Rattle.grammar.specs.declared.Reply.{Reply}
use Rattle.grammar.specs.Steps.{cancels, storm_words, step_form, step_level, step_ending, step}

-- the reader and the canonical text with every definition open that they come to
opened : List ℕ → Reply
unfolding
    read_of check_of run_at run scan span_of length_at step index_of all_of same worth_after allowed figures_of letters_of good_letters coordinate_of good_coordinate same_point signed_of pointed group_of good_group period_of good_period time_of good_time type_words designator_of good_designator correction_of good_correction office_of sequence_of good_sequence closing_words name_word level_of good_level_word compass_words intensity_words unit_words speed_of good_speed storm_words cancels names_itself step_form step_level step_ending locating place_step places text_of heading_words line_words body_words area_words form_words report_words phenomenon_words observation_words extent_words level_words ending_words spell_designator spell_group spell_period spell_sequence spell_time spell_level_word spell_speed spell_coordinate bound_words joined dashed empty_side empty_coordinate empty_name phenomena test_texts pieces line
opened b = read_of b

pub thunderstorms-read : ReadsBack thunderstorms
unfolding opened
thunderstorms-read = record { number = refl; place = refl; length = refl; text = refl }

pub duststorms-read : ReadsBack duststorms
unfolding opened
duststorms-read = record { number = refl; place = refl; length = refl; text = refl }

pub sandstorms-read : ReadsBack sandstorms
unfolding opened
sandstorms-read = record { number = refl; place = refl; length = refl; text = refl }

pub turbulence-read : ReadsBack turbulence
unfolding opened
turbulence-read = record { number = refl; place = refl; length = refl; text = refl }

pub mountain-waves-read : ReadsBack mountain_waves
unfolding opened
mountain-waves-read = record { number = refl; place = refl; length = refl; text = refl }

pub icing-read : ReadsBack icing
unfolding opened
icing-read = record { number = refl; place = refl; length = refl; text = refl }

pub radioactive-cloud-read : ReadsBack radioactive_cloud
unfolding opened
radioactive-cloud-read = record { number = refl; place = refl; length = refl; text = refl }

pub cancelled-read : ReadsBack cancelled
unfolding opened
cancelled-read = record { number = refl; place = refl; length = refl; text = refl }

pub ash-cancelled-read : ReadsBack ash_cancelled
unfolding opened
ash-cancelled-read = record { number = refl; place = refl; length = refl; text = refl }

-- 7 at `SAKURAJIMA-`: a name word ends with a letter
pub sakurajima-refused : read_of sakurajima ≡ refusal 7 95 11
unfolding opened
sakurajima-refused = refl

-- 9 at the second `S0715`: a `-` is expected
pub kelut-refused : read_of kelut ≡ refusal 9 205 5
unfolding opened
kelut-refused = refl

-- 11 at `NC`: only a WS has a forecast
pub kelut-joined-refused : read_of kelut_joined ≡ refusal 11 230 2
unfolding opened
kelut-joined-refused = refl

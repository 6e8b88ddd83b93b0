-- 01, the cases that speak of reading, evaluated on the definition.
use mathlib.Core.List.{List, []}
use mathlib.Core.Path.{◌≡◌, refl}
use Prim.Native.Char.{code}
use Prim.Native.Nat.{ℕ, ◌+◌, ◌-◌, ◌*◌}
use lib.ListN.{replicate}
use Rattle.lists.specs.Base.{worth_after, places}
use Rattle.lists.specs.Lists.{index_of, all_of, same}
use Rattle.lists.specs.Text.{bytes}
use Rattle.words.specs.Bytes.{allowed}
use Rattle.words.specs.Check.{check_of}
use Rattle.words.specs.Words.{scan, span_of, length_at}
use Rattle.figures.specs.Figures.{figures_of}
use Rattle.figures.specs.Letters.{letters_of, good_letters}
use Rattle.coordinates.specs.Coordinates.{coordinate_of, good_coordinate, signed_of}
use Rattle.coordinates.specs.Points.{same_point}
use Rattle.groups.specs.Groups.{group_of, good_group, period_of, good_period, time_of, good_time}
use Rattle.headings.specs.Headings.{type_words, designator_of, good_designator, correction_of, good_correction, office_of}
use Rattle.headings.specs.Sequences.{sequence_of, good_sequence}
use Rattle.names.specs.Names.{closing_words, name_word}
use Rattle.levels.specs.Levels.{level_of, good_level_word}
use Rattle.motions.specs.Motions.{compass_words, intensity_words}
use Rattle.motions.specs.Speeds.{unit_words, speed_of, good_speed}
use Rattle.message.specs.Limits.{most_points}
use Rattle.message.specs.Records.{names_itself}
use Rattle.message.specs.Sample.{sample, sample_text}
use Rattle.message.specs.Words.{test_texts}
use Rattle.cases.specs.Samples.{reporting, east_of, E180, bulletin, later_saying, located, cancelling}
use Rattle.cases.specs.Cases.{saying, ash_saying, meridian_outline, climb, climb_text, longest_outline, last_point, longest_twice, foreseen, testing, testing_fifty, eruption_text, eruption_record, corrected_text, corrected_record}
use Rattle.grammar.specs.Placing.{pointed, locating, place_step}
use Rattle.grammar.specs.Bulletins.{acceptance, refusal}
use Rattle.grammar.specs.Reads.{read_of}
use Rattle.grammar.specs.Runs.{run, run_at}
use Rattle.grammar.specs.Steps.{storm_words, cancels, step_form, step_level, step_ending, step}
use Rattle.grammar.specs.declared.Reply.{Reply}

-- the reader with every definition open that it comes to: a theorem that unfolds this one computes
opened : List ℕ → Reply
unfolding
    read_of climb climb_text sample_text sample check_of run_at run scan span_of length_at step index_of all_of same worth_after allowed figures_of letters_of good_letters coordinate_of good_coordinate group_of good_group period_of good_period time_of good_time type_words designator_of good_designator correction_of good_correction office_of sequence_of good_sequence closing_words name_word level_of good_level_word compass_words intensity_words unit_words speed_of good_speed names_itself test_texts signed_of same_point storm_words cancels step_form step_level step_ending pointed locating place_step places
opened b = read_of b

-- The paper's cases.

pub sample-read : read_of sample_text ≡ acceptance sample
unfolding opened
sample-read = refl

-- "`E180` for E114: read."
pub sample-E180 : read_of (reporting "E OF E180 SFC/FL100 MOV E 20KT WKN=") ≡ acceptance (east_of E180)
unfolding opened
sample-E180 = refl

-- "`E181`: 9 at 100."
pub sample-E181 : read_of (reporting "E OF E181 SFC/FL100 MOV E 20KT WKN=") ≡ refusal 9 100 4
unfolding opened
sample-E181 = refl

-- "N9001 is refused"
pub sample-N9001 : read_of (reporting "N OF N9001 SFC/FL100 MOV E 20KT WKN=") ≡ refusal 9 100 5
unfolding opened
sample-N9001 = refl

-- "`FCST` for WKN: 11 at 126."
pub sample-FCST : read_of (reporting "E OF E114 SFC/FL100 MOV E 20KT FCST=") ≡ refusal 11 126 4
unfolding opened
sample-FCST = refl

-- "` NC` after WKN: 12 at 130."
pub sample-NC : read_of (reporting "E OF E114 SFC/FL100 MOV E 20KT WKN NC=") ≡ refusal 12 130 2
unfolding opened
sample-NC = refl

-- "No `=`: 3 at 129."
pub sample-open : read_of (reporting "E OF E114 SFC/FL100 MOV E 20KT WKN") ≡ refusal 3 129 0
unfolding opened
sample-open = refl

-- Further texts. The replies are worked out from the paper: the heading has 18 bytes and the first line 39, with CR LF after each, so the body
-- begins at 61; after `QBBB NORTH SOUND ` the closing word stands at 78, after `FIR ` the next word at 82, after `SEV ICE FCST ` the location
-- at 95.

pub eruption-read : read_of eruption_text ≡ acceptance eruption_record
unfolding opened
eruption-read = refl

pub corrected-read : read_of corrected_text ≡ acceptance corrected_record
unfolding opened
corrected-read = refl

pub test-one : read_of (saying "QBBB NORTH SOUND FIR TEST=") ≡ acceptance (testing 1)
unfolding opened
test-one = refl

pub test-two : read_of (saying "QBBB NORTH SOUND FIR TEST SIGMET PLEASE DISREGARD=") ≡ acceptance (testing 2)
unfolding opened
test-two = refl

pub test-three : read_of (saying "QBBB NORTH SOUND FIR TEST. THIS IS A TEST SIGMET, PLEASE DISREGARD=") ≡ acceptance (testing 3)
unfolding opened
test-three = refl

pub cancellation-read : read_of (later_saying "QBBB NORTH SOUND FIR CNL SIGMET 1 180830/181230=") ≡ acceptance cancelling
unfolding opened
cancellation-read = refl

-- "Sequence and both groups are not all those of the message itself": CNL at 82, SIGMET at 86, the sequence at 93, the period at 95
pub cancellation-itself : read_of (saying "QBBB NORTH SOUND FIR CNL SIGMET 1 180830/181230=") ≡ refusal 7 95 13
unfolding opened
cancellation-itself = refl

-- "The second group equals the second group of VALID": the period at 95
pub cancellation-end : read_of (later_saying "QBBB NORTH SOUND FIR CNL SIGMET 1 180830/181231=") ≡ refusal 7 95 13
unfolding opened
cancellation-end = refl

-- "`ENTIRE CTA` exactly when the area is a CTA": ENTIRE at 95, its second word at 102
pub entire-CTA : read_of (saying "QBBB NORTH SOUND CTA SEV ICE FCST ENTIRE FIR SFC/FL100 MOV E 20KT WKN=") ≡ refusal 9 102 3
unfolding opened
entire-CTA = refl

-- "in WS only, the intensity word first": VA at 82, CLD at 85, FCST at 89, E at 94, OF at 96, E114 at 99, the level at 104, WKN at 114
pub ash-forecast : read_of (ash_saying "QBBB NORTH SOUND FIR VA CLD FCST E OF E114 SFC/FL100 WKN FCST AT 1230Z E OF E114=") ≡ refusal 11 114 3
unfolding opened
ash-forecast = refl

-- "digits, not all zero": the first line begins at 20, SIGMET stands at 25, the sequence at 32
pub sequence-zero : read_of (bulletin "WSZZ31 QAAA 180830" "QBBB SIGMET 00 VALID 180830/181230 QAAA-" "QBBB NORTH SOUND FIR TEST=") ≡ refusal 5 32 2
unfolding opened
sequence-zero = refl

-- "It ends at the first later point equal to point 1, and that may not be point 2 or 3": WI at 95, a point every 11 bytes from 98 on, so the
-- third at 120 and its longitude at 124
pub outline-third : read_of (reporting "WI N10 E010 - N11 E010 - N10 E010 - N10 E010 SFC/FL100 STNR NC=") ≡ refusal 9 124 4
unfolding opened
outline-third = refl

-- "It ends at the first later point equal to point 1": the last that there is room for would have to be equal to it
pub last-latitude : read_of (last_point "N09 E010 SFC/FL100 STNR NC=") ≡ refusal 9 (98 + 11 * (most_points - 1)) 3
unfolding opened
last-latitude = refl

-- the outline has ended with the fourth point, at 131 and 135; where the level is to come, at 140, there is a `-`
pub outline-ended : read_of (reporting "WI N10 E010 - N11 E010 - N11 E011 - N10 E010 - N12 E010 SFC/FL100 STNR NC=") ≡ refusal 10 140 1
unfolding opened
outline-ended = refl

-- "length 0 or over 2,048"
pub empty-refused : read_of [] ≡ refusal 1 0 0
unfolding opened
empty-refused = refl

-- "byte not allowed": a lower-case letter where WKN's first is
pub lower-case : read_of (reporting "E OF E114 SFC/FL100 MOV E 20KT wKN=") ≡ refusal 2 126 1
unfolding opened
lower-case = refl

-- "something after it": the `=` at 129, a space, and then a byte at 131
pub something-after : read_of (reporting "E OF E114 SFC/FL100 MOV E 20KT WKN= NNNN") ≡ refusal 3 131 1
unfolding opened
something-after = refl

-- "Where a word stands after something optional and is not that thing, it is judged as the next required part": N54 at 100, then at 104 no
-- AND, so it is judged as a level
pub no-AND : read_of (reporting "N OF N54 E OF E010 SFC/FL100 STNR NC=") ≡ refusal 10 104 1
unfolding opened
no-AND = refl

-- "12 goes before 4 to 11": in a forecast the `=` would be accepted there. WKN at 115, FCST at 119, AT at 124, the time at 127, N at 133, OF at
-- 135, N54 at 138, and the word at 142
pub no-AND-forecast : read_of (reporting "E OF E114 SFC/FL100 WKN FCST AT 1230Z N OF N54 E OF E010=") ≡ refusal 12 142 1
unfolding opened
no-AND-forecast = refl

-- after `SEV ICE`, which `(FZRA)` may follow, a word is judged as the observation: SEV at 82, ICE at 86, the word at 90
pub ice-then : read_of (saying "QBBB NORTH SOUND FIR SEV ICE FZRA FCST E OF E114 SFC/FL100 STNR NC=") ≡ refusal 8 90 4
unfolding opened
ice-then = refl

-- the `=` comes too early, at 81, where a test, a cancellation or a phenomenon is to come
pub early-end : read_of (saying "QBBB NORTH SOUND FIR=") ≡ refusal 7 81 1
unfolding opened
early-end = refl

-- "with single spaces it has at most 50 characters": four words of 9 from 66 on, every 10 bytes; the fifth, at 106, has 11 and makes 51
pub long-name : read_of (saying "QBBB ABCDEFGHI ABCDEFGHI ABCDEFGHI ABCDEFGHI ABCDEFGHIJK FIR TEST=") ≡ refusal 6 106 11
unfolding opened
long-name = refl

-- More of them, section by section.

-- "length 0 or over 2,048"
pub too-long : read_of (replicate 2049 (code "A")) ≡ refusal 1 0 0
unfolding opened
too-long = refl

-- "Words are the longest runs without space, CR or LF"; "Only spaces, CR and LF may follow it": other blanks, the same words
pub other-blanks : read_of (bytes "\nWSZZ31  QAAA 180830 QBBB SIGMET 1\r\nVALID 180830/181230 QAAA- QBBB NORTH  SOUND FIR SEV ICE FCST\nE OF E114 SFC/FL100 MOV E 20KT WKN =\r\n") ≡ acceptance sample
unfolding opened
other-blanks = refl

-- "in this order": a byte that is not allowed, though it stands after the `=`, which is at 129
pub lower-case-after : read_of (reporting "E OF E114 SFC/FL100 MOV E 20KT WKN= n") ≡ refusal 2 131 1
unfolding opened
lower-case-after = refl

pub equals-after : read_of (reporting "E OF E114 SFC/FL100 MOV E 20KT WKN==") ≡ refusal 3 130 1
unfolding opened
equals-after = refl

-- "hour 00-23": the group at 12
pub sent-hour : read_of (bulletin "WSZZ31 QAAA 182400" "QBBB SIGMET 1 VALID 180830/181230 QAAA-" "QBBB NORTH SOUND FIR TEST=") ≡ refusal 4 12 6
unfolding opened
sent-hour = refl

-- "perhaps a correction, `CCA` to `CCX`": the word at 19 is neither one nor a unit
pub correction-Y : read_of (bulletin "WSZZ31 QAAA 180830 CCY" "QBBB SIGMET 1 VALID 180830/181230 QAAA-" "QBBB NORTH SOUND FIR TEST=") ≡ refusal 5 19 3
unfolding opened
correction-Y = refl

-- "the office is followed by a hyphen": SIGMET at 25, the sequence at 32, VALID at 34, the period at 40, the office at 54
pub office-bare : read_of (bulletin "WSZZ31 QAAA 180830" "QBBB SIGMET 1 VALID 180830/181230 QAAA" "QBBB NORTH SOUND FIR TEST=") ≡ refusal 5 54 4
unfolding opened
office-bare = refl

pub fifty-name : read_of (saying "QBBB ABCDEFGHI ABCDEFGHI ABCDEFGHI ABCDEFGHI ABCDEFGHIJ FIR TEST=") ≡ acceptance testing_fifty
unfolding opened
fifty-name = refl

-- after `TEST`, at 82, the `=` would also be accepted; after `TEST SIGMET` it is not, at 93
pub test-then : read_of (saying "QBBB NORTH SOUND FIR TEST ONLY=") ≡ refusal 12 87 4
unfolding opened
test-then = refl

pub test-short : read_of (saying "QBBB NORTH SOUND FIR TEST SIGMET=") ≡ refusal 7 93 1
unfolding opened
test-short = refl

-- "rules as above, 30 characters": VA at 82, ERUPTION at 85, MT at 94, two words of 9 at 97 and 107; the third, at 117, has 11 and makes 31
pub long-mountain : read_of (ash_saying "QBBB NORTH SOUND FIR VA ERUPTION MT ABCDEFGHI ABCDEFGHI ABCDEFGHIJK PSN N00 E010 VA CLD OBS ENTIRE FIR FL100 STNR NC=") ≡ refusal 7 117 11
unfolding opened
long-mountain = refl

-- a WS has no ash, at 82
pub weather-ash : read_of (saying "QBBB NORTH SOUND FIR VA CLD OBS ENTIRE FIR FL100 STNR NC=") ≡ refusal 7 82 2
unfolding opened
weather-ash = refl

-- "`AT GGggZ`": AT at 95, the time at 98; without AT a word is judged as the location, at 95
pub observed-hour : read_of (reporting "AT 2400Z E OF E114 SFC/FL100 STNR NC=") ≡ refusal 8 98 5
unfolding opened
observed-hour = refl

pub observed-then : read_of (reporting "0900Z E OF E114 SFC/FL100 STNR NC=") ≡ refusal 9 95 5
unfolding opened
observed-then = refl

-- "their longitudes differ by 0 or 21,600"
pub meridian-read : read_of (reporting "WI N10 E180 - N11 E180 - N11 E179 - N10 W18000 SFC/FL100 MOV E 20KT WKN=") ≡ acceptance (located meridian_outline)
unfolding opened
meridian-read = refl

-- so the second point is equal to the first: its latitude at 109, its longitude at 115
pub outline-second : read_of (reporting "WI N10 E180 - N1000 W180 - N11 E179 - N10 E180 SFC/FL100 MOV E 20KT WKN=") ≡ refusal 9 115 4
unfolding opened
outline-second = refl

pub longest-read : read_of (last_point "N10 E010 SFC/FL100 MOV E 20KT WKN=") ≡ acceptance (located longest_outline)
unfolding opened
longest-read = refl

pub longest-twice : read_of longest_twice ≡ acceptance (foreseen longest_outline)
unfolding opened
longest-twice = refl

-- the last has the latitude of point 1 and not its longitude, four bytes further
pub last-longitude : read_of (last_point "N10 E011 SFC/FL100 STNR NC=") ≡ refusal 9 (102 + 11 * (most_points - 1)) 4
unfolding opened
last-longitude = refl

-- "(lower below upper)", "(10000 up)", "No number is zero": the level at 105; after TOP only `FLnnn`, at 109
pub band-turned : read_of (reporting "E OF E114 FL260/180 STNR NC=") ≡ refusal 10 105 9
unfolding opened
band-turned = refl

pub feet-padded : read_of (reporting "E OF E114 SFC/09999FT STNR NC=") ≡ refusal 10 105 11
unfolding opened
feet-padded = refl

pub level-zero : read_of (reporting "E OF E114 FL000 STNR NC=") ≡ refusal 10 105 5
unfolding opened
level-zero = refl

pub top-surface : read_of (reporting "E OF E114 TOP SFC/FL100 STNR NC=") ≡ refusal 10 109 9
unfolding opened
top-surface = refl

-- "(01 to 99)": MOV at 115, E at 119, the speed at 121
pub speed-zero : read_of (reporting "E OF E114 SFC/FL100 MOV E 00KT WKN=") ≡ refusal 11 121 4
unfolding opened
speed-zero = refl

-- "the time being that of the end of VALID": WKN at 115, FCST at 119, AT at 124, the time at 127
pub forecast-time : read_of (reporting "E OF E114 SFC/FL100 WKN FCST AT 1231Z E OF E114=") ≡ refusal 11 127 5
unfolding opened
forecast-time = refl

-- "A forecast's location belongs to the ending (11)": E at 133, OF at 135, the longitude at 138
pub forecast-location : read_of (reporting "E OF E114 SFC/FL100 WKN FCST AT 1230Z E OF E181=") ≡ refusal 11 138 4
unfolding opened
forecast-location = refl

-- WI at 133, points from 136 on, the fourth at 169 and 173: at 178 the `=` would be accepted
pub forecast-ended : read_of (reporting "E OF E114 SFC/FL100 WKN FCST AT 1230Z WI N10 E010 - N11 E010 - N11 E011 - N10 E010 - N12 E010=") ≡ refusal 12 178 1
unfolding opened
forecast-ended = refl

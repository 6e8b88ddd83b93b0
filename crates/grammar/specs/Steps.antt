-- 01, the grammar word by word: `step` says what a word does in a state.
-- Tied: `read-replied`, `replied-only` (crates/grammar/proofs/Theorems.antt).
use Rattle.std.specs.Prelude.{Bool, true, false, not, List, [], ◌∷◌, ◌++◌, ℕ, suc, ◌-◌, ◌*◌, eqb, leb, length, get_or}
use Prim.Native.Char.{code}
use Rattle.lists.specs.Choice.{pick, both}
use Rattle.lists.specs.Lists.{same}
use Rattle.lists.specs.Text.{bytes}
use Rattle.figures.specs.Letters.{letters_of, good_letters}
use Rattle.figures.specs.Tables.{number_in, in_numbers}
use Rattle.coordinates.specs.Coordinates.{north_south, east_west, coordinate_of, good_coordinate}
use Rattle.groups.specs.Groups.{group_of, good_group, same_group, period_of, good_period, time_of, good_time}
use Rattle.headings.specs.Headings.{designator_of, good_designator, correction_of, good_correction, office_of}
use Rattle.headings.specs.Sequences.{sequence_of, good_sequence}
use Rattle.names.specs.Names.{closing_of, good_closing, in_name}
use Rattle.levels.specs.Levels.{level_of, good_level_word, flight}
use Rattle.motions.specs.Motions.{compass_of, good_compass, intensity_of, good_intensity}
use Rattle.motions.specs.Speeds.{speed_of, good_speed}
use Rattle.groups.specs.declared.Period.{Period}
use Rattle.groups.specs.declared.Time.{Time}
use Rattle.headings.specs.declared.Sequence.{Sequence}
use Rattle.levels.specs.declared.Level.{Level}
use Rattle.levels.specs.declared.Level.TheVariants.{NoLevel, Flight, SurfaceFlight, SurfaceMetres, SurfaceFeet, Band, TopFlight, AboveFlight, TopAboveFlight}
use Rattle.message.specs.Limits.{name_bytes, mountain_limit, ws, ash_cloud, eruption}
use Rattle.message.specs.Locations.{no_extent}
use Rattle.message.specs.Names.{no_name}
use Rattle.message.specs.Records.{names_itself}
use Rattle.message.specs.Reports.{no_volcano}
use Rattle.message.specs.Words.{test_texts, time_of_day}
use Rattle.message.specs.declared.Ending.TheVariants.{Moving, Stationary, Forecast}
use Rattle.message.specs.declared.Extent.{Extent}
use Rattle.message.specs.declared.FirstLine.{FirstLine}
use Rattle.message.specs.declared.Heading.{Heading}
use Rattle.message.specs.declared.Record.{Record}
use Rattle.grammar.specs.Placing.{is, Placed, place_step}
use Rattle.grammar.specs.Placing.Placed.{on, there, past, nowhere}
use Rattle.grammar.specs.Records.{name_of, untimed, timed_at, test_of, cancellation_of, area_of, report_of}
use Rattle.grammar.specs.States.{ToArea, ToPhenomenon, ToLocation, ToLevel, Site, Placing, State, Move}
use Rattle.grammar.specs.States.Site.{in_report, in_forecast}
use Rattle.grammar.specs.States.Placing.{at_location}
use Rattle.grammar.specs.States.State.{at_designator, at_centre, at_sent, at_correction, at_unit, at_sigmet, at_sequence, at_valid, at_period, at_office, at_indicator, at_name, at_more_name, at_form, at_test, at_test_text, at_cancel_sigmet, at_cancel_sequence, at_cancel_period, at_storm, at_severe, at_ice, at_heavy, at_radioactive, at_ash, at_eruption, at_mountain, at_more_mountain, at_position, at_position_longitude, at_volcano_ash, at_volcano_cloud, at_observation, at_observed, at_observed_time, at_place, at_level, at_top, at_above, at_top_above, at_ending, at_compass, at_speed, at_moving_intensity, at_stationary, at_forecast, at_forecast_at, at_forecast_time, at_end}
use Rattle.grammar.specs.States.Move.{goes, done, dead}

abbrev pub goes_if : Bool → State → Move
goes_if t s = pick t (goes s) dead

abbrev pub step_end : Record → List ℕ → Move
step_end r w = pick (is "=" w) (done r) dead

-- "Heading: …; then perhaps a correction, `CCA` to `CCX`." "First line: four letters (unit), …"
abbrev pub step_unit : Heading → List ℕ → Move
step_unit h w = goes_if (good_letters 4 (letters_of 4 w)) (at_sigmet h (letters_of 4 w))

-- "A sequence has 1 to 3 characters: perhaps a letter, then digits, not all zero."
abbrev pub is_sequence : List ℕ → Bool
is_sequence w = good_sequence (sequence_of w)

-- a name's text with one more word
abbrev pub grown : List ℕ → List ℕ → List ℕ
grown t w = t ++ (code " " ∷ w)

-- "A name is one or more words …; with single spaces it has at most 50 characters": the first word, or one more after that text
abbrev pub begun : Bool → ℕ → List ℕ → Bool
begun mountain limit w = both (in_name mountain w) (leb (length w) limit)

abbrev pub gone_on : Bool → ℕ → List ℕ → List ℕ → Bool
gone_on mountain limit t w = both (in_name mountain w) (leb (length (grown t w)) limit)

-- the words of a test's text, and what follows after so many of them
abbrev pub test_text : ℕ → List (List ℕ)
test_text n = get_or test_texts (n - 1) []

abbrev pub after_test : ToArea → ℕ → ℕ → State
after_test o n read = pick (eqb read (length (test_text n))) (at_end (test_of o n)) (at_test_text o n read)

-- "a cancellation: `CNL SIGMET`, a sequence, `group/group`. The second group equals the second group of VALID. Sequence and both groups
-- are not all those of the message itself"
unfoldable pub cancels : FirstLine → Sequence → Period → Bool
cancels l s p = both (good_period p) (both (same_group p.to l.valid.to) (not (names_itself l s p.from)))

-- "`OBSC`, `EMBD`, `FRQ` or `SQL` with `TS` or `TSGR`": numbered from 1; with `TS` they are the phenomena 1, 3, 5 and 7
unfoldable pub storm_words : List (List ℕ)
storm_words = bytes "OBSC" ∷ bytes "EMBD" ∷ bytes "FRQ" ∷ bytes "SQL" ∷ []

abbrev pub storm_of : List ℕ → ℕ
storm_of w = number_in 1 storm_words w

abbrev pub good_storm : ℕ → Bool
good_storm n = in_numbers 1 storm_words n

-- a phenomenon without a volcano
abbrev pub weather : ToArea → ℕ → ToPhenomenon
weather o n = record { before = o; phenomenon = n; volcano = no_volcano }

-- "Phenomenon, WS: `OBSC`, `EMBD`, `FRQ` or `SQL` with …; `SEV …`; `HVY …`; `RDOACT CLD`."
abbrev pub step_weather : ToArea → List ℕ → Move
step_weather o w =
    pick (good_storm (storm_of w)) (goes (at_storm o (storm_of w)))
    (pick (is "SEV" w) (goes (at_severe o)) (pick (is "HVY" w) (goes (at_heavy o)) (goes_if (is "RDOACT" w) (at_radioactive o))))

abbrev pub kind_of : ToArea → ℕ
kind_of o = o.heading.designator.kind

-- "Then one of: a test: `TEST`, …; a cancellation: `CNL SIGMET`, …; a report: phenomenon, …" "WV: `VA CLD`, or `VA ERUPTION`, …"
unfoldable pub step_form : ToArea → List ℕ → Move
step_form o w =
    pick (is "TEST" w) (goes (at_test o))
    (pick (is "TEST." w) (goes (at_test_text o 3 1))
    (pick (is "CNL" w) (goes (at_cancel_sigmet o)) (pick (eqb (kind_of o) ws) (step_weather o w) (goes_if (is "VA" w) (at_ash o)))))

-- "Observation: `OBS` or `FCST`, perhaps `AT GGggZ`."
abbrev pub step_observation : ToPhenomenon → List ℕ → Move
step_observation p w = pick (is "OBS" w) (goes (at_observed p 1)) (goes_if (is "FCST" w) (at_observed p 2))

-- the number of a level that is `FLnnn`
abbrev pub flight_of : Level → ℕ
flight_of NoLevel = 0
flight_of (Flight n) = n
flight_of (SurfaceFlight n) = 0
flight_of (SurfaceMetres n) = 0
flight_of (SurfaceFeet n) = 0
flight_of (Band low high) = 0
flight_of (TopFlight n) = 0
flight_of (AboveFlight n) = 0
flight_of (TopAboveFlight n) = 0

abbrev pub levelled : ToLocation → Level → State
levelled q level = at_ending (record { before = q; level = level })

-- "`TOP FLnnn`, `ABV FLnnn`, `TOP ABV FLnnn`": the `FLnnn`
abbrev pub step_flight : ToLocation → (ℕ → Level) → List ℕ → Move
step_flight q level w = goes_if (flight (flight_of (level_of w))) (levelled q (level (flight_of (level_of w))))

-- "Level: `FLnnn`, `SFC/FLnnn`, …, `TOP FLnnn`, `ABV FLnnn`, `TOP ABV FLnnn`."
unfoldable pub step_level : ToLocation → List ℕ → Move
step_level q w = pick (is "TOP" w) (goes (at_top q)) (pick (is "ABV" w) (goes (at_above q)) (goes_if (good_level_word (level_of w)) (levelled q (level_of w))))

-- "in WS only, the intensity word first"
abbrev pub forecasts : ToLevel → List ℕ → Bool
forecasts l w = both (eqb (kind_of (area_of l)) ws) (good_intensity (intensity_of w))

-- "Ending: either `MOV`, …, or `STNR`, …; or, in WS only, the intensity word first and then `FCST AT GGggZ` and a location"
unfoldable pub step_ending : ToLevel → List ℕ → Move
step_ending l w =
    pick (is "MOV" w) (goes (at_compass l))
    (pick (is "STNR" w) (goes (at_stationary l))
    (goes_if (forecasts l w) (at_forecast l (intensity_of w))))

-- "the time being that of the end of VALID"
abbrev pub same_time : Time → Time → Bool
same_time t u = both (eqb t.hour u.hour) (eqb t.minute u.minute)

abbrev pub end_time : ToLevel → Time
end_time l = time_of_day (area_of l).line.valid.to

-- the closing word of the area that a location is in
abbrev pub closing_at : Site → ℕ
closing_at (in_report o) = o.before.before.area.closing
closing_at (in_forecast l i) = (area_of l).area.closing

-- what follows a location: in a report the level, in a forecast the end
abbrev pub after : Site → Extent → State
after (in_report o) e = at_level (record { before = o; extent = e })
after (in_forecast l i) e = at_end (report_of l (Forecast i) e)

abbrev pub step_after : Site → Extent → List ℕ → Move
step_after (in_report o) e w = step_level (record { before = o; extent = e }) w
step_after (in_forecast l i) e w = step_end (report_of l (Forecast i) e) w

-- one word of a location; a word that is none of it is judged as what follows
abbrev pub settled : Site → List ℕ → Placed → Move
settled site w (on p) = goes (at_place site p)
settled site w (there e) = goes (after site e)
settled site w (past e) = step_after site e w
settled site w nowhere = dead

abbrev pub step_place : Site → Placing → List ℕ → Move
step_place site p w = settled site w (place_step (closing_at site) p w)

unfoldable pub step : State → List ℕ → Move
step at_designator w = goes_if (good_designator (designator_of w)) (at_centre (designator_of w))
step (at_centre d) w = goes_if (good_letters 4 (letters_of 4 w)) (at_sent d (letters_of 4 w))
step (at_sent d c) w = goes_if (good_group (group_of w)) (at_correction d c (group_of w))
step (at_correction d c g) w =
    pick (good_correction (correction_of w)) (goes (at_unit (record { designator = d; centre = c; sent = g; correction = correction_of w })))
    (step_unit (record { designator = d; centre = c; sent = g; correction = 0 }) w)
step (at_unit h) w = step_unit h w
step (at_sigmet h u) w = goes_if (is "SIGMET" w) (at_sequence h u)
step (at_sequence h u) w = goes_if (is_sequence w) (at_valid h u (sequence_of w))
step (at_valid h u s) w = goes_if (is "VALID" w) (at_period h u s)
step (at_period h u s) w = goes_if (good_period (period_of w)) (at_office h u s (period_of w))
step (at_office h u s p) w =
    goes_if (good_letters 4 (office_of w)) (at_indicator h (record { unit = u; sequence = s; valid = p; office = office_of w }))
step (at_indicator h l) w = goes_if (good_letters 4 (letters_of 4 w)) (at_name h l (letters_of 4 w))
step (at_name h l i) w = goes_if (begun false name_bytes w) (at_more_name h l i w)
step (at_more_name h l i t) w =
    pick (good_closing (closing_of w))
    (goes (at_form (record { heading = h; line = l; area = record { indicator = i; name = name_of t; closing = closing_of w } })))
    (goes_if (gone_on false name_bytes t w) (at_more_name h l i (grown t w)))
step (at_form o) w = step_form o w
step (at_test o) w = pick (is "SIGMET" w) (goes (at_test_text o 2 2)) (step_end (test_of o 1) w)
step (at_test_text o n read) w = goes_if (same w (get_or (test_text n) read [])) (after_test o n (suc read))
step (at_cancel_sigmet o) w = goes_if (is "SIGMET" w) (at_cancel_sequence o)
step (at_cancel_sequence o) w = goes_if (is_sequence w) (at_cancel_period o (sequence_of w))
step (at_cancel_period o s) w = goes_if (cancels o.line s (period_of w)) (at_end (cancellation_of o s (period_of w).from))
step (at_storm o n) w =
    pick (is "TS" w) (goes (at_observation (weather o (2 * n - 1)))) (goes_if (is "TSGR" w) (at_observation (weather o (2 * n))))
step (at_severe o) w =
    pick (is "TURB" w) (goes (at_observation (weather o 9)))
    (pick (is "ICE" w) (goes (at_ice o)) (goes_if (is "MTW" w) (at_observation (weather o 12))))
step (at_ice o) w = pick (is "(FZRA)" w) (goes (at_observation (weather o 11))) (step_observation (weather o 10) w)
step (at_heavy o) w = pick (is "DS" w) (goes (at_observation (weather o 13))) (goes_if (is "SS" w) (at_observation (weather o 14)))
step (at_radioactive o) w = goes_if (is "CLD" w) (at_observation (weather o 15))
step (at_ash o) w = pick (is "CLD" w) (goes (at_observation (weather o ash_cloud))) (goes_if (is "ERUPTION" w) (at_eruption o))
step (at_eruption o) w = pick (is "MT" w) (goes (at_mountain o)) (goes_if (is "PSN" w) (at_position o no_name))
step (at_mountain o) w = goes_if (begun true mountain_limit w) (at_more_mountain o w)
step (at_more_mountain o t) w =
    pick (is "PSN" w) (goes (at_position o (name_of t))) (goes_if (gone_on true mountain_limit t w) (at_more_mountain o (grown t w)))
step (at_position o n) w = goes_if (good_coordinate north_south (coordinate_of north_south w)) (at_position_longitude o n (coordinate_of north_south w))
step (at_position_longitude o n c) w =
    goes_if (good_coordinate east_west (coordinate_of east_west w))
    (at_volcano_ash o (record { name = n; position = record { latitude = c; longitude = coordinate_of east_west w } }))
step (at_volcano_ash o v) w = goes_if (is "VA" w) (at_volcano_cloud o v)
step (at_volcano_cloud o v) w = goes_if (is "CLD" w) (at_observation (record { before = o; phenomenon = eruption; volcano = v }))
step (at_observation p) w = step_observation p w
step (at_observed p n) w = pick (is "AT" w) (goes (at_observed_time p n)) (step_place (in_report (record { before = p; observation = untimed n })) at_location w)
step (at_observed_time p n) w =
    goes_if (good_time (time_of w)) (at_place (in_report (record { before = p; observation = timed_at n (time_of w) })) at_location)
step (at_place site p) w = step_place site p w
step (at_level q) w = step_level q w
step (at_top q) w = pick (is "ABV" w) (goes (at_top_above q)) (step_flight q TopFlight w)
step (at_above q) w = step_flight q AboveFlight w
step (at_top_above q) w = step_flight q TopAboveFlight w
step (at_ending l) w = step_ending l w
step (at_compass l) w = goes_if (good_compass (compass_of w)) (at_speed l (compass_of w))
step (at_speed l d) w = goes_if (good_speed (speed_of w)) (at_moving_intensity l d (speed_of w))
step (at_moving_intensity l d v) w = goes_if (good_intensity (intensity_of w)) (at_end (report_of l (Moving d v (intensity_of w)) no_extent))
step (at_stationary l) w = goes_if (good_intensity (intensity_of w)) (at_end (report_of l (Stationary (intensity_of w)) no_extent))
step (at_forecast l i) w = goes_if (is "FCST" w) (at_forecast_at l i)
step (at_forecast_at l i) w = goes_if (is "AT" w) (at_forecast_time l i)
step (at_forecast_time l i) w = goes_if (both (good_time (time_of w)) (same_time (time_of w) (end_time l))) (at_place (in_forecast l i) at_location)
step (at_end r) w = step_end r w

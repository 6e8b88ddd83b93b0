-- 01, "Refusal numbers", 4 to 12: the number of a word that is refused in a state. 12 where the `=` would also be accepted, else the number
-- of the part that is next required.
-- Tied: `read-replied`, `replied-only` (crates/grammar/proofs/Theorems.antt).
use Rattle.std.specs.Prelude.{ℕ}
use Rattle.grammar.specs.States.{Site, Placing, State}
use Rattle.grammar.specs.States.Site.{in_report, in_forecast}
use Rattle.grammar.specs.States.Placing.{at_location, at_latitude_of, at_latitude_bound, at_and, at_second_bound, at_longitude_of, at_longitude_bound, at_entire, at_latitude, at_longitude, at_dash}
use Rattle.grammar.specs.States.State.{at_designator, at_centre, at_sent, at_correction, at_unit, at_sigmet, at_sequence, at_valid, at_period, at_office, at_indicator, at_name, at_more_name, at_form, at_test, at_test_text, at_cancel_sigmet, at_cancel_sequence, at_cancel_period, at_storm, at_severe, at_ice, at_heavy, at_radioactive, at_ash, at_eruption, at_mountain, at_more_mountain, at_position, at_position_longitude, at_volcano_ash, at_volcano_cloud, at_observation, at_observed, at_observed_time, at_place, at_level, at_top, at_above, at_top_above, at_ending, at_compass, at_speed, at_moving_intensity, at_stationary, at_forecast, at_forecast_at, at_forecast_time, at_end}

-- "A forecast's location belongs to the ending (11)."
abbrev pub location_part : Site → ℕ
location_part (in_report o) = 9
location_part (in_forecast l i) = 11

-- what follows a location: the level, or the `=`
abbrev pub following_part : Site → ℕ
following_part (in_report o) = 10
following_part (in_forecast l i) = 12

-- "Where a word stands after something optional and is not that thing, it is judged as the next required part."
abbrev pub place_number : Site → Placing → ℕ
place_number site at_location = location_part site
place_number site (at_latitude_of side) = location_part site
place_number site (at_latitude_bound side) = location_part site
place_number site (at_and latitude) = following_part site
place_number site (at_second_bound latitude) = location_part site
place_number site (at_longitude_of latitude side) = location_part site
place_number site (at_longitude_bound latitude side) = location_part site
place_number site at_entire = location_part site
place_number site (at_latitude ps) = location_part site
place_number site (at_longitude ps latitude) = location_part site
place_number site (at_dash ps) = location_part site

abbrev pub number_of : State → ℕ
number_of at_designator = 4
number_of (at_centre d) = 4
number_of (at_sent d c) = 4
number_of (at_correction d c g) = 5
number_of (at_unit h) = 5
number_of (at_sigmet h u) = 5
number_of (at_sequence h u) = 5
number_of (at_valid h u s) = 5
number_of (at_period h u s) = 5
number_of (at_office h u s p) = 5
number_of (at_indicator h l) = 6
number_of (at_name h l i) = 6
number_of (at_more_name h l i t) = 6
number_of (at_form o) = 7
number_of (at_test o) = 12
number_of (at_test_text o n read) = 7
number_of (at_cancel_sigmet o) = 7
number_of (at_cancel_sequence o) = 7
number_of (at_cancel_period o s) = 7
number_of (at_storm o n) = 7
number_of (at_severe o) = 7
number_of (at_ice o) = 8
number_of (at_heavy o) = 7
number_of (at_radioactive o) = 7
number_of (at_ash o) = 7
number_of (at_eruption o) = 7
number_of (at_mountain o) = 7
number_of (at_more_mountain o t) = 7
number_of (at_position o n) = 7
number_of (at_position_longitude o n c) = 7
number_of (at_volcano_ash o v) = 7
number_of (at_volcano_cloud o v) = 7
number_of (at_observation p) = 8
number_of (at_observed p n) = 9
number_of (at_observed_time p n) = 8
number_of (at_place site p) = place_number site p
number_of (at_level q) = 10
number_of (at_top q) = 10
number_of (at_above q) = 10
number_of (at_top_above q) = 10
number_of (at_ending l) = 11
number_of (at_compass l) = 11
number_of (at_speed l d) = 11
number_of (at_moving_intensity l d v) = 11
number_of (at_stationary l) = 11
number_of (at_forecast l i) = 11
number_of (at_forecast_at l i) = 11
number_of (at_forecast_time l i) = 11
number_of (at_end r) = 12

-- The sections put together: what every word owes in every state, and that every state which is reached is live.
use mathlib.Core.Bool.{false}
use mathlib.Core.List.{List}
use mathlib.Core.Path.{◌≡◌}
use Prim.Native.Nat.{ℕ}
use Rattle.message.specs.declared.FirstLine.{FirstLine}
use Rattle.message.specs.declared.Heading.{Heading}
use Rattle.grammar.specs.Placing.{is}
use Rattle.grammar.specs.States.{ToPhenomenon, ToObservation, Site, State}
use Rattle.grammar.specs.States.Move.{goes}
use Rattle.grammar.specs.States.Placing.{at_location}
use Rattle.grammar.specs.States.Site.{in_report}
use Rattle.grammar.specs.States.State.{at_designator, at_centre, at_sent, at_correction, at_unit, at_sigmet, at_sequence, at_valid, at_period, at_office, at_indicator, at_name, at_more_name, at_form, at_test, at_test_text, at_cancel_sigmet, at_cancel_sequence, at_cancel_period, at_storm, at_severe, at_ice, at_heavy, at_radioactive, at_ash, at_eruption, at_mountain, at_more_mountain, at_position, at_position_longitude, at_volcano_ash, at_volcano_cloud, at_observation, at_observed, at_observed_time, at_place, at_level, at_top, at_above, at_top_above, at_ending, at_compass, at_speed, at_moving_intensity, at_stationary, at_forecast, at_forecast_at, at_forecast_time, at_end}
use Rattle.grammar.specs.Steps.{step_place, step}
use Rattle.grammar.proofs.Areas.{indicator-sound, indicator-next, name-sound, name-next, more-name-sound, more-name-next}
use Rattle.grammar.proofs.Ashes.{ash-sound, ash-next, eruption-sound, eruption-next, mountain-sound, mountain-next, more-mountain-sound, more-mountain-next, position-sound, position-next, position-longitude-sound, position-longitude-next, volcano-ash-sound, volcano-ash-next, volcano-cloud-sound, volcano-cloud-next}
use Rattle.grammar.proofs.Endings.{level-sound, level-next, top_sound, top-next, above-sound, above-next, top-above-sound, top-above-next, ending-sound, ending-next, compass-sound, compass-next, speed-sound, speed-next, moving-intensity-sound, moving-intensity-next, stationary-sound, stationary-next, forecast-sound, forecast-next, forecast-at-sound, forecast-at-next, forecast-time-sound, forecast-time-next, forecast-end}
use Rattle.grammar.proofs.Forms.{form-sound, form-next, test-sound, test-next, test-text-sound, test-text-next, cancel-sigmet-sound, cancel-sigmet-next, cancel-sequence-sound, cancel-sequence-next, cancel-period-sound, cancel-period-next}
use Rattle.grammar.proofs.Observations.{observation-sound, observation-next, observed-sound, observed-next, observed-time-sound, observed-time-next}
use Rattle.grammar.proofs.Opening.{designator-sound, designator-next, centre-sound, centre-next, sent-sound, sent-next, correction-sound, correction-next, unit-sound, unit-next, sigmet-sound, sigmet-next, sequence-sound, sequence-next, valid-sound, valid-next, period-sound, period-next, office-sound, office-next}
use Rattle.grammar.proofs.Weather.{storm-sound, storm-next, severe-sound, severe-next, ice-sound, ice-next, heavy-sound, heavy-next, radioactive-sound, radioactive-next}
use Rattle.grammar.proofs.Invariant.{Ok, ObservationOk, PhenomenonOk, SiteOk}
use Rattle.grammar.proofs.Moves.{Fine, fine_end, Next, next-end}
use Rattle.grammar.proofs.Locations.{place-sound, place-next, location-starts}

report-place : (o : ToObservation) (w : List ℕ) → ObservationOk o → Fine (at_place (in_report o) at_location) w (step_place (in_report o) at_location w)
report-place o w k = place-sound level-sound forecast-end (in_report o) at_location w k tt

-- Sound: each word leads to a state in which all that was read is good and every word was told.
pub sound : (s : State) (w : List ℕ) → Ok s → Fine s w (step s w)
unfolding step
sound at_designator w k = designator-sound w k
sound (at_centre d) w k = centre-sound d w k
sound (at_sent d c) w k = sent-sound d c w k
sound (at_correction d c g) w k = correction-sound d c g w k
sound (at_unit h) w k = unit-sound h w k
sound (at_sigmet h u) w k = sigmet-sound h u w k
sound (at_sequence h u) w k = sequence-sound h u w k
sound (at_valid h u s) w k = valid-sound h u s w k
sound (at_period h u s) w k = period-sound h u s w k
sound (at_office h u s p) w k = office-sound h u s p w k
sound (at_indicator h l) w k = indicator-sound h l w k
sound (at_name h l i) w k = name-sound h l i w k
sound (at_more_name h l i t) w k = more-name-sound h l i t w k
sound (at_form o) w k = form-sound o w k
sound (at_test o) w k = test-sound o w k
sound (at_test_text o n read) w k = test-text-sound o n read w k
sound (at_cancel_sigmet o) w k = cancel-sigmet-sound o w k
sound (at_cancel_sequence o) w k = cancel-sequence-sound o w k
sound (at_cancel_period o s) w k = cancel-period-sound o s w k
sound (at_storm o n) w k = storm-sound o n w k
sound (at_severe o) w k = severe-sound o w k
sound (at_ice o) w k = ice-sound o w k
sound (at_heavy o) w k = heavy-sound o w k
sound (at_radioactive o) w k = radioactive-sound o w k
sound (at_ash o) w k = ash-sound o w k
sound (at_eruption o) w k = eruption-sound o w k
sound (at_mountain o) w k = mountain-sound o w k
sound (at_more_mountain o t) w k = more-mountain-sound o t w k
sound (at_position o n) w k = position-sound o n w k
sound (at_position_longitude o n c) w k = position-longitude-sound o n c w k
sound (at_volcano_ash o v) w k = volcano-ash-sound o v w k
sound (at_volcano_cloud o v) w k = volcano-cloud-sound o v w k
sound (at_observation p) w k = observation-sound p w k
sound (at_observed p n) w k = observed-sound report-place p n w k
sound (at_observed_time p n) w k = observed-time-sound p n w k
sound (at_place site p) w k = place-sound level-sound forecast-end site p w k.0 k.1
sound (at_level q) w k = level-sound q w k
sound (at_top q) w k = top_sound q w k
sound (at_above q) w k = above-sound q w k
sound (at_top_above q) w k = top-above-sound q w k
sound (at_ending l) w k = ending-sound l w k
sound (at_compass l) w k = compass-sound l w k
sound (at_speed l d) w k = speed-sound l d w k
sound (at_moving_intensity l d v) w k = moving-intensity-sound l d v w k
sound (at_stationary l) w k = stationary-sound l w k
sound (at_forecast l i) w k = forecast-sound l i w k
sound (at_forecast_at l i) w k = forecast-at-sound l i w k
sound (at_forecast_time l i) w k = forecast-time-sound l i w k
sound (at_end r) w k = fine_end r w k

located : (o : ToObservation) → ObservationOk o
    → (w : List ℕ) × (next : State) × (step (at_place (in_report o) at_location) w ≡ goes next) × (is "AT" w ≡ false) × Next next
located o k = location-starts ending-next o k

placed : (site : Site) → SiteOk site → Next (at_place site at_location)
placed site k = place-next ending-next site at_location k tt

observed-on : (p : ToPhenomenon) (n : ℕ) → Ok (at_observed p n) → Next (at_observed p n)
observed-on p n k = observed-next located p n k

observation-on : (p : ToPhenomenon) → PhenomenonOk p → Next (at_observation p)
observation-on p k = observation-next located p k

indicator-on : (h : Heading) (l : FirstLine) → Ok (at_indicator h l) → Next (at_indicator h l)
indicator-on h l k = indicator-next form-next h l k

-- Live: from each such state some word of the part that it requires leads on to the end of a message.
pub next : (s : State) → Ok s → Next s
next at_designator k = designator-next indicator-on k
next (at_centre d) k = centre-next indicator-on d k
next (at_sent d c) k = sent-next indicator-on d c k
next (at_correction d c g) k = correction-next indicator-on d c g k
next (at_unit h) k = unit-next indicator-on h k
next (at_sigmet h u) k = sigmet-next indicator-on h u k
next (at_sequence h u) k = sequence-next indicator-on h u k
next (at_valid h u s) k = valid-next indicator-on h u s k
next (at_period h u s) k = period-next indicator-on h u s k
next (at_office h u s p) k = office-next indicator-on h u s p k
next (at_indicator h l) k = indicator-next form-next h l k
next (at_name h l i) k = name-next form-next h l i k
next (at_more_name h l i t) k = more-name-next form-next h l i t k
next (at_form o) k = form-next o k
next (at_test o) k = test-next o k
next (at_test_text o n read) k = test-text-next o n read k
next (at_cancel_sigmet o) k = cancel-sigmet-next o k
next (at_cancel_sequence o) k = cancel-sequence-next o k
next (at_cancel_period o s) k = cancel-period-next o s k
next (at_storm o n) k = storm-next observation-on o n k
next (at_severe o) k = severe-next observation-on o k
next (at_ice o) k = ice-next observed-on o k
next (at_heavy o) k = heavy-next observation-on o k
next (at_radioactive o) k = radioactive-next observation-on o k
next (at_ash o) k = ash-next observation-on o k
next (at_eruption o) k = eruption-next observation-on o k
next (at_mountain o) k = mountain-next observation-on o k
next (at_more_mountain o t) k = more-mountain-next observation-on o t k
next (at_position o n) k = position-next observation-on o n k
next (at_position_longitude o n c) k = position-longitude-next observation-on o n c k
next (at_volcano_ash o v) k = volcano-ash-next observation-on o v k
next (at_volcano_cloud o v) k = volcano-cloud-next observation-on o v k
next (at_observation p) k = observation-next located p k
next (at_observed p n) k = observed-next located p n k
next (at_observed_time p n) k = observed-time-next located p n k
next (at_place site p) k = place-next ending-next site p k.0 k.1
next (at_level q) k = level-next q k
next (at_top q) k = top-next q k
next (at_above q) k = above-next q k
next (at_top_above q) k = top-above-next q k
next (at_ending l) k = ending-next l k
next (at_compass l) k = compass-next l k
next (at_speed l d) k = speed-next l d k
next (at_moving_intensity l d v) k = moving-intensity-next l d v k
next (at_stationary l) k = stationary-next l k
next (at_forecast l i) k = forecast-next placed l i k
next (at_forecast_at l i) k = forecast-at-next placed l i k
next (at_forecast_time l i) k = forecast-time-next placed l i k
next (at_end r) k = next-end r

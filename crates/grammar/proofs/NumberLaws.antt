-- The numbers of the states: 4 to 12. A word that a state takes belongs to the part of that number, or is something optional of an earlier
-- one. And no state goes on past the `=`.
use mathlib.Core.Bool.{true, false, not}
use mathlib.Core.List.{List, []}
use mathlib.Core.Logic.{◌⊎◌, inl, inr, ⊎_elim}
use mathlib.Core.Path.{◌≡◌, refl}
use Prim.Native.Nat.{ℕ, ◌-◌, ◌≤◌, ◌<◌}
use native.Mathlib.Omega.{arith}
use lib.Dec.{eqb, lit<}
use lib.ListN.{length, get_or}
use borrow.Author.Tests.{not-true}
use Rattle.lists.specs.Base.{worth_after, places}
use Rattle.lists.specs.Lists.{index_of, all_of, same}
use Rattle.lists.proofs.Choice.{by}
use Rattle.lists.proofs.Lists.{all-at}
use Rattle.words.specs.Bytes.{between}
use Rattle.words.proofs.Ranges.{between-low, between-high}
use Rattle.words.specs.Words.{equals_sign}
use Rattle.message.specs.Limits.{ws, cta}
use Rattle.message.specs.Words.{test_texts}
use Rattle.message.specs.declared.Side.{Side}
use Rattle.figures.specs.Figures.{figures_of}
use Rattle.figures.specs.Letters.{letters_of, good_letters}
use Rattle.coordinates.specs.Coordinates.{coordinate_of, good_coordinate}
use Rattle.groups.specs.Groups.{group_of, good_group, period_of, good_period, time_of, good_time}
use Rattle.headings.specs.Headings.{type_words, designator_of, good_designator, correction_of, good_correction, office_of}
use Rattle.headings.specs.Sequences.{sequence_of, good_sequence}
use Rattle.names.specs.Names.{closing_words, name_word}
use Rattle.levels.specs.Levels.{level_of, good_level_word}
use Rattle.motions.specs.Motions.{compass_words, intensity_words}
use Rattle.motions.specs.Speeds.{unit_words, speed_of, good_speed}
use Rattle.grammar.specs.Numbers.{number_of}
use Rattle.grammar.specs.Placing.{is, locating, place_step}
use Rattle.grammar.specs.Records.{area_of}
use Rattle.grammar.specs.States.{ToArea, ToPhenomenon, Site, State, Move}
use Rattle.grammar.specs.States.Move.{goes, done, dead}
use Rattle.grammar.specs.States.Site.{in_report, in_forecast}
use Rattle.grammar.specs.States.Placing.{at_location, at_latitude_of, at_latitude_bound, at_and, at_second_bound, at_longitude_of, at_longitude_bound, at_entire, at_latitude, at_longitude, at_dash}
use Rattle.grammar.specs.States.State.{at_designator, at_centre, at_sent, at_correction, at_unit, at_sigmet, at_sequence, at_valid, at_period, at_office, at_indicator, at_name, at_more_name, at_form, at_test, at_test_text, at_cancel_sigmet, at_cancel_sequence, at_cancel_period, at_storm, at_severe, at_ice, at_heavy, at_radioactive, at_ash, at_eruption, at_mountain, at_more_mountain, at_position, at_position_longitude, at_volcano_ash, at_volcano_cloud, at_observation, at_observed, at_observed_time, at_place, at_level, at_top, at_above, at_top_above, at_ending, at_compass, at_speed, at_moving_intensity, at_stationary, at_forecast, at_forecast_at, at_forecast_time, at_end}
use Rattle.grammar.specs.Steps.{cancels, kind_of, test_text, storm_words, step_form, step_level, step_ending, step}
use Rattle.grammar.proofs.Invariant.{Ok, mark}

pub record Range (n : ℕ) : Type 0 where
  pub low : 4 ≤ n
  pub high : n ≤ 12

pub number-range : (s : State) → Range (number_of s)
number-range at_designator = record { low = lit< tt; high = lit< tt }
number-range (at_centre d) = record { low = lit< tt; high = lit< tt }
number-range (at_sent d c) = record { low = lit< tt; high = lit< tt }
number-range (at_correction d c g) = record { low = lit< tt; high = lit< tt }
number-range (at_unit h) = record { low = lit< tt; high = lit< tt }
number-range (at_sigmet h u) = record { low = lit< tt; high = lit< tt }
number-range (at_sequence h u) = record { low = lit< tt; high = lit< tt }
number-range (at_valid h u s) = record { low = lit< tt; high = lit< tt }
number-range (at_period h u s) = record { low = lit< tt; high = lit< tt }
number-range (at_office h u s p) = record { low = lit< tt; high = lit< tt }
number-range (at_indicator h l) = record { low = lit< tt; high = lit< tt }
number-range (at_name h l i) = record { low = lit< tt; high = lit< tt }
number-range (at_more_name h l i t) = record { low = lit< tt; high = lit< tt }
number-range (at_form o) = record { low = lit< tt; high = lit< tt }
number-range (at_test o) = record { low = lit< tt; high = lit< tt }
number-range (at_test_text o n read) = record { low = lit< tt; high = lit< tt }
number-range (at_cancel_sigmet o) = record { low = lit< tt; high = lit< tt }
number-range (at_cancel_sequence o) = record { low = lit< tt; high = lit< tt }
number-range (at_cancel_period o s) = record { low = lit< tt; high = lit< tt }
number-range (at_storm o n) = record { low = lit< tt; high = lit< tt }
number-range (at_severe o) = record { low = lit< tt; high = lit< tt }
number-range (at_ice o) = record { low = lit< tt; high = lit< tt }
number-range (at_heavy o) = record { low = lit< tt; high = lit< tt }
number-range (at_radioactive o) = record { low = lit< tt; high = lit< tt }
number-range (at_ash o) = record { low = lit< tt; high = lit< tt }
number-range (at_eruption o) = record { low = lit< tt; high = lit< tt }
number-range (at_mountain o) = record { low = lit< tt; high = lit< tt }
number-range (at_more_mountain o t) = record { low = lit< tt; high = lit< tt }
number-range (at_position o n) = record { low = lit< tt; high = lit< tt }
number-range (at_position_longitude o n c) = record { low = lit< tt; high = lit< tt }
number-range (at_volcano_ash o v) = record { low = lit< tt; high = lit< tt }
number-range (at_volcano_cloud o v) = record { low = lit< tt; high = lit< tt }
number-range (at_observation p) = record { low = lit< tt; high = lit< tt }
number-range (at_observed p n) = record { low = lit< tt; high = lit< tt }
number-range (at_observed_time p n) = record { low = lit< tt; high = lit< tt }
number-range (at_place (in_report o) at_location) = record { low = lit< tt; high = lit< tt }
number-range (at_place (in_report o) (at_latitude_of side)) = record { low = lit< tt; high = lit< tt }
number-range (at_place (in_report o) (at_latitude_bound side)) = record { low = lit< tt; high = lit< tt }
number-range (at_place (in_report o) (at_and latitude)) = record { low = lit< tt; high = lit< tt }
number-range (at_place (in_report o) (at_second_bound latitude)) = record { low = lit< tt; high = lit< tt }
number-range (at_place (in_report o) (at_longitude_of latitude side)) = record { low = lit< tt; high = lit< tt }
number-range (at_place (in_report o) (at_longitude_bound latitude side)) = record { low = lit< tt; high = lit< tt }
number-range (at_place (in_report o) at_entire) = record { low = lit< tt; high = lit< tt }
number-range (at_place (in_report o) (at_latitude ps)) = record { low = lit< tt; high = lit< tt }
number-range (at_place (in_report o) (at_longitude ps latitude)) = record { low = lit< tt; high = lit< tt }
number-range (at_place (in_report o) (at_dash ps)) = record { low = lit< tt; high = lit< tt }
number-range (at_place (in_forecast l i) at_location) = record { low = lit< tt; high = lit< tt }
number-range (at_place (in_forecast l i) (at_latitude_of side)) = record { low = lit< tt; high = lit< tt }
number-range (at_place (in_forecast l i) (at_latitude_bound side)) = record { low = lit< tt; high = lit< tt }
number-range (at_place (in_forecast l i) (at_and latitude)) = record { low = lit< tt; high = lit< tt }
number-range (at_place (in_forecast l i) (at_second_bound latitude)) = record { low = lit< tt; high = lit< tt }
number-range (at_place (in_forecast l i) (at_longitude_of latitude side)) = record { low = lit< tt; high = lit< tt }
number-range (at_place (in_forecast l i) (at_longitude_bound latitude side)) = record { low = lit< tt; high = lit< tt }
number-range (at_place (in_forecast l i) at_entire) = record { low = lit< tt; high = lit< tt }
number-range (at_place (in_forecast l i) (at_latitude ps)) = record { low = lit< tt; high = lit< tt }
number-range (at_place (in_forecast l i) (at_longitude ps latitude)) = record { low = lit< tt; high = lit< tt }
number-range (at_place (in_forecast l i) (at_dash ps)) = record { low = lit< tt; high = lit< tt }
number-range (at_level q) = record { low = lit< tt; high = lit< tt }
number-range (at_top q) = record { low = lit< tt; high = lit< tt }
number-range (at_above q) = record { low = lit< tt; high = lit< tt }
number-range (at_top_above q) = record { low = lit< tt; high = lit< tt }
number-range (at_ending l) = record { low = lit< tt; high = lit< tt }
number-range (at_compass l) = record { low = lit< tt; high = lit< tt }
number-range (at_speed l d) = record { low = lit< tt; high = lit< tt }
number-range (at_moving_intensity l d v) = record { low = lit< tt; high = lit< tt }
number-range (at_stationary l) = record { low = lit< tt; high = lit< tt }
number-range (at_forecast l i) = record { low = lit< tt; high = lit< tt }
number-range (at_forecast_at l i) = record { low = lit< tt; high = lit< tt }
number-range (at_forecast_time l i) = record { low = lit< tt; high = lit< tt }
number-range (at_end r) = record { low = lit< tt; high = lit< tt }

-- "something optional": a state takes it although the part that it requires comes later
pub data Optional : State → List ℕ → Type 0 where
  longer-test : {o : ToArea} {w : List ℕ} → is "SIGMET" w ≡ true → Optional (at_test o) w
  freezing-rain : {o : ToArea} {w : List ℕ} → is "(FZRA)" w ≡ true → Optional (at_ice o) w
  timed : {p : ToPhenomenon} {n : ℕ} {w : List ℕ} → is "AT" w ≡ true → Optional (at_observed p n) w
  second-bound : {site : Site} {latitude : Side} {w : List ℕ} → is "AND" w ≡ true → Optional (at_place site (at_and latitude)) w

-- a word belongs to the part that the state requires, or it is optional
pub part-taken : (s : State) (w : List ℕ) → (mark s w ≡ number_of s) ⊎ Optional s w
part-taken at_designator w = inl refl
part-taken (at_centre d) w = inl refl
part-taken (at_sent d c) w = inl refl
part-taken (at_correction d c g) w = inl refl
part-taken (at_unit h) w = inl refl
part-taken (at_sigmet h u) w = inl refl
part-taken (at_sequence h u) w = inl refl
part-taken (at_valid h u s) w = inl refl
part-taken (at_period h u s) w = inl refl
part-taken (at_office h u s p) w = inl refl
part-taken (at_indicator h l) w = inl refl
part-taken (at_name h l i) w = inl refl
part-taken (at_more_name h l i t) w = inl refl
part-taken (at_form o) w = inl refl
part-taken (at_test o) w = by (is "SIGMET" w) (λ e. inr (longer-test e)) (λ e. inl (rw e))
part-taken (at_test_text o n read) w = inl refl
part-taken (at_cancel_sigmet o) w = inl refl
part-taken (at_cancel_sequence o) w = inl refl
part-taken (at_cancel_period o s) w = inl refl
part-taken (at_storm o n) w = inl refl
part-taken (at_severe o) w = inl refl
part-taken (at_ice o) w = by (is "(FZRA)" w) (λ e. inr (freezing-rain e)) (λ e. inl (rw e))
part-taken (at_heavy o) w = inl refl
part-taken (at_radioactive o) w = inl refl
part-taken (at_ash o) w = inl refl
part-taken (at_eruption o) w = inl refl
part-taken (at_mountain o) w = inl refl
part-taken (at_more_mountain o t) w = inl refl
part-taken (at_position o n) w = inl refl
part-taken (at_position_longitude o n c) w = inl refl
part-taken (at_volcano_ash o v) w = inl refl
part-taken (at_volcano_cloud o v) w = inl refl
part-taken (at_observation p) w = inl refl
part-taken (at_observed p n) w = by (is "AT" w) (λ e. inr (timed e)) (λ e. inl (rw e))
part-taken (at_observed_time p n) w = inl refl
part-taken (at_place site at_location) w = inl refl
part-taken (at_place site (at_latitude_of side)) w = inl refl
part-taken (at_place site (at_latitude_bound side)) w = inl refl
part-taken (at_place site (at_and latitude)) w = by (is "AND" w) (λ e. inr (second-bound e)) (λ e. inl (rw e))
part-taken (at_place site (at_second_bound latitude)) w = inl refl
part-taken (at_place site (at_longitude_of latitude side)) w = inl refl
part-taken (at_place site (at_longitude_bound latitude side)) w = inl refl
part-taken (at_place site at_entire) w = inl refl
part-taken (at_place site (at_latitude ps)) w = inl refl
part-taken (at_place site (at_longitude ps latitude)) w = inl refl
part-taken (at_place site (at_dash ps)) w = inl refl
part-taken (at_level q) w = inl refl
part-taken (at_top q) w = inl refl
part-taken (at_above q) w = inl refl
part-taken (at_top_above q) w = inl refl
part-taken (at_ending l) w = inl refl
part-taken (at_compass l) w = inl refl
part-taken (at_speed l d) w = inl refl
part-taken (at_moving_intensity l d v) w = inl refl
part-taken (at_stationary l) w = inl refl
part-taken (at_forecast l i) w = inl refl
part-taken (at_forecast_at l i) w = inl refl
part-taken (at_forecast_time l i) w = inl refl
part-taken (at_end r) w = inl refl

optional-less : {s : State} {w : List ℕ} → Optional s w → mark s w ≤ number_of s
optional-less (longer-test e) = rw e (lit< tt)
optional-less (freezing-rain e) = rw e (lit< tt)
optional-less (timed e) = rw e (lit< tt)
optional-less {s = at_place (in_report o) _} (second-bound e) = rw e (lit< tt)
optional-less {s = at_place (in_forecast l i) _} (second-bound e) = rw e (lit< tt)

pub mark-most : (s : State) (w : List ℕ) → mark s w ≤ number_of s
mark-most s w = ⊎_elim (λ (e : mark s w ≡ number_of s). omega arith) optional-less (part-taken s w)

-- the `=` ends a message or is refused
abbrev pub Stops : Move → Type 0
Stops (goes s) = ⊥
Stops (done r) = Unit {0}
Stops dead = Unit {0}

-- no word of a test's text is the `=`
test_word : (n read : ℕ) → between 1 3 n ≡ true → read < length (test_text n) → same equals_sign (get_or (test_text n) read []) ≡ false
unfolding test_texts all_of same
test_word n read b h =
    let low : 1 ≤ n = between-low 1 3 n b in
    let high : n ≤ 3 = between-high 1 3 n b in
    let some : all_of (all_of (λ (k : List ℕ). not (same equals_sign k))) test_texts ≡ true = refl in
    let text : all_of (λ (k : List ℕ). not (same equals_sign k)) (test_text n) ≡ true = all-at (all_of (λ (k : List ℕ). not (same equals_sign k))) test_texts [] some (n - 1) (omega arith) in
    not-true (same equals_sign (get_or (test_text n) read [])) (all-at (λ (k : List ℕ). not (same equals_sign k)) (test_text n) [] text read h)

pub end-stops : (s : State) → Ok s → Stops (step s equals_sign)
unfolding step locating place_step step_form step_level step_ending index_of all_of same worth_after places figures_of letters_of good_letters coordinate_of good_coordinate group_of good_group period_of good_period time_of good_time type_words designator_of good_designator correction_of good_correction office_of sequence_of good_sequence closing_words name_word level_of good_level_word compass_words intensity_words unit_words speed_of good_speed storm_words cancels
end-stops at_designator ok = tt
end-stops (at_centre d) ok = tt
end-stops (at_sent d c) ok = tt
end-stops (at_correction d c g) ok = tt
end-stops (at_unit h) ok = tt
end-stops (at_sigmet h u) ok = tt
end-stops (at_sequence h u) ok = tt
end-stops (at_valid h u s) ok = tt
end-stops (at_period h u s) ok = tt
end-stops (at_office h u s p) ok = tt
end-stops (at_indicator h l) ok = tt
end-stops (at_name h l i) ok = tt
end-stops (at_more_name h l i t) ok = tt
end-stops (at_form o) ok = by (eqb (kind_of o) ws) (λ e. rw e tt) (λ e. rw e tt)
end-stops (at_test o) ok = tt
end-stops (at_test_text o n read) ok = rw (test_word n read ok.1 ok.2) tt
end-stops (at_cancel_sigmet o) ok = tt
end-stops (at_cancel_sequence o) ok = tt
end-stops (at_cancel_period o s) ok = tt
end-stops (at_storm o n) ok = tt
end-stops (at_severe o) ok = tt
end-stops (at_ice o) ok = tt
end-stops (at_heavy o) ok = tt
end-stops (at_radioactive o) ok = tt
end-stops (at_ash o) ok = tt
end-stops (at_eruption o) ok = tt
end-stops (at_mountain o) ok = tt
end-stops (at_more_mountain o t) ok = tt
end-stops (at_position o n) ok = tt
end-stops (at_position_longitude o n c) ok = tt
end-stops (at_volcano_ash o v) ok = tt
end-stops (at_volcano_cloud o v) ok = tt
end-stops (at_observation p) ok = tt
end-stops (at_observed p n) ok = tt
end-stops (at_observed_time p n) ok = tt
end-stops (at_place (in_report o) at_location) ok = tt
end-stops (at_place (in_report o) (at_latitude_of side)) ok = tt
end-stops (at_place (in_report o) (at_latitude_bound side)) ok = tt
end-stops (at_place (in_report o) (at_and latitude)) ok = tt
end-stops (at_place (in_report o) (at_second_bound latitude)) ok = tt
end-stops (at_place (in_report o) (at_longitude_of latitude side)) ok = tt
end-stops (at_place (in_report o) (at_longitude_bound latitude side)) ok = tt
end-stops (at_place (in_report o) at_entire) ok = by (eqb o.before.before.area.closing cta) (λ e. rw e tt) (λ e. rw e tt)
end-stops (at_place (in_report o) (at_latitude ps)) ok = tt
end-stops (at_place (in_report o) (at_longitude ps latitude)) ok = tt
end-stops (at_place (in_report o) (at_dash ps)) ok = tt
end-stops (at_place (in_forecast l i) at_location) ok = tt
end-stops (at_place (in_forecast l i) (at_latitude_of side)) ok = tt
end-stops (at_place (in_forecast l i) (at_latitude_bound side)) ok = tt
end-stops (at_place (in_forecast l i) (at_and latitude)) ok = tt
end-stops (at_place (in_forecast l i) (at_second_bound latitude)) ok = tt
end-stops (at_place (in_forecast l i) (at_longitude_of latitude side)) ok = tt
end-stops (at_place (in_forecast l i) (at_longitude_bound latitude side)) ok = tt
end-stops (at_place (in_forecast l i) at_entire) ok = by (eqb (area_of l).area.closing cta) (λ e. rw e tt) (λ e. rw e tt)
end-stops (at_place (in_forecast l i) (at_latitude ps)) ok = tt
end-stops (at_place (in_forecast l i) (at_longitude ps latitude)) ok = tt
end-stops (at_place (in_forecast l i) (at_dash ps)) ok = tt
end-stops (at_level q) ok = tt
end-stops (at_top q) ok = tt
end-stops (at_above q) ok = tt
end-stops (at_top_above q) ok = tt
end-stops (at_ending l) ok = by (eqb (kind_of (area_of l)) ws) (λ e. rw e tt) (λ e. rw e tt)
end-stops (at_compass l) ok = tt
end-stops (at_speed l d) ok = tt
end-stops (at_moving_intensity l d v) ok = tt
end-stops (at_stationary l) ok = tt
end-stops (at_forecast l i) ok = tt
end-stops (at_forecast_at l i) ok = tt
end-stops (at_forecast_time l i) ok = tt
end-stops (at_end r) ok = tt

-- What holds in every state that is reached: all that was read is good. And which part a word belongs to that a state takes.
use mathlib.Core.Bool.{Bool, true, false, not}
use mathlib.Core.List.{List, [], ◌∷◌}
use mathlib.Core.Path.{◌≡◌}
use Prim.Native.Nat.{ℕ, ◌<◌, ◌≤◌}
use lib.Dec.{eqb}
use lib.ListN.{length}
use Rattle.lists.specs.Choice.{pick, either}
use Rattle.lists.specs.Lists.{all_of}
use Rattle.words.specs.Bytes.{between}
use Rattle.figures.specs.Letters.{good_letters}
use Rattle.coordinates.specs.Coordinates.{Axis, north_south, east_west, good_coordinate}
use Rattle.coordinates.specs.Points.{same_point, good_point}
use Rattle.coordinates.specs.declared.Point.{Point}
use Rattle.groups.specs.Groups.{good_period}
use Rattle.headings.specs.Headings.{good_designator}
use Rattle.headings.specs.Sequences.{good_sequence}
use Rattle.levels.specs.Levels.{good_level}
use Rattle.motions.specs.Motions.{good_compass, good_intensity}
use Rattle.motions.specs.Speeds.{good_speed}
use Rattle.names.specs.Names.{name_text}
use Rattle.message.specs.Limits.{name_bytes, mountain_limit, most_points, ws, wv}
use Rattle.message.specs.Locations.{empty_side, good_side, good_extent}
use Rattle.message.specs.Names.{good_name, empty_name}
use Rattle.message.specs.Records.{good_heading, good_line, good_area, good}
use Rattle.message.specs.Reports.{good_volcano, good_phenomenon, good_observation}
use Rattle.message.specs.declared.Name.{Name}
use Rattle.message.specs.declared.Side.{Side}
use Rattle.grammar.specs.Numbers.{location_part, following_part}
use Rattle.grammar.specs.Placing.{is, room_after, same_latitude}
use Rattle.grammar.specs.Records.{area_of}
use Rattle.grammar.specs.States.{ToArea, ToPhenomenon, ToObservation, ToLocation, ToLevel, Site, Placing, State}
use Rattle.grammar.specs.States.Site.{in_report, in_forecast}
use Rattle.grammar.specs.States.Placing.{at_location, at_latitude_of, at_latitude_bound, at_and, at_second_bound, at_longitude_of, at_longitude_bound, at_entire, at_latitude, at_longitude, at_dash}
use Rattle.grammar.specs.States.State.{at_designator, at_centre, at_sent, at_correction, at_unit, at_sigmet, at_sequence, at_valid, at_period, at_office, at_indicator, at_name, at_more_name, at_form, at_test, at_test_text, at_cancel_sigmet, at_cancel_sequence, at_cancel_period, at_storm, at_severe, at_ice, at_heavy, at_radioactive, at_ash, at_eruption, at_mountain, at_more_mountain, at_position, at_position_longitude, at_volcano_ash, at_volcano_cloud, at_observation, at_observed, at_observed_time, at_place, at_level, at_top, at_above, at_top_above, at_ending, at_compass, at_speed, at_moving_intensity, at_stationary, at_forecast, at_forecast_at, at_forecast_time, at_end}
use Rattle.grammar.specs.Steps.{test_text, kind_of, good_storm}

pub record OpeningOk (o : ToArea) : Type 0 where
  pub heading : good_heading o.heading ≡ true
  pub line : good_line o.line ≡ true
  pub area : good_area o.area ≡ true

pub record WeatherOk (o : ToArea) : Type 0 where
  pub opening : OpeningOk o
  pub kind : kind_of o ≡ ws

pub record AshOk (o : ToArea) : Type 0 where
  pub opening : OpeningOk o
  pub kind : kind_of o ≡ wv

-- a name's text so far, by whether it is a mountain's and by its greatest length
pub record NameOk (mountain : Bool) (limit : ℕ) (t : List ℕ) : Type 0 where
  pub text : name_text mountain t ≡ true
  pub fits : length t ≤ limit

abbrev pub MountainOk : Name → Type 0
MountainOk n = either (empty_name n) (good_name true mountain_limit n) ≡ true

pub record PhenomenonOk (p : ToPhenomenon) : Type 0 where
  pub before : OpeningOk p.before
  pub phenomenon : good_phenomenon (kind_of p.before) p.phenomenon p.volcano ≡ true

pub record ObservationOk (q : ToObservation) : Type 0 where
  pub before : PhenomenonOk q.before
  pub observation : good_observation q.observation ≡ true

pub record LocationOk (q : ToLocation) : Type 0 where
  pub before : ObservationOk q.before
  pub extent : good_extent q.extent ≡ true

pub record LevelOk (l : ToLevel) : Type 0 where
  pub before : LocationOk l.before
  pub level : good_level l.level ≡ true

pub record ForecastOk (l : ToLevel) (i : ℕ) : Type 0 where
  pub level : LevelOk l
  pub kind : eqb (kind_of (area_of l)) ws ≡ true
  pub intensity : good_intensity i ≡ true

abbrev pub SiteOk : Site → Type 0
SiteOk (in_report o) = ObservationOk o
SiteOk (in_forecast l i) = ForecastOk l i

-- the letter is one of the axis
abbrev pub letter_on : Axis → ℕ → Bool
letter_on a side = either (eqb side a.plus) (eqb side a.minus)

-- no later point is equal to the first
abbrev pub unclosed : List Point → Bool
unclosed [] = true
unclosed (first ∷ ps) = all_of (λ (p : Point). not (same_point first p)) ps

pub record OutlineOk (ps : List Point) : Type 0 where
  pub points : all_of good_point ps ≡ true
  pub room : length ps < most_points
  pub is_open : unclosed ps ≡ true

-- the latitude bound in front of a longitude bound, where there is one
abbrev pub first_side_good : Side → Bool
first_side_good latitude = pick (empty_side latitude) true (good_side north_south latitude)

abbrev pub PlacingOk : Placing → Type 0
PlacingOk at_location = Unit {0}
PlacingOk (at_latitude_of side) = letter_on north_south side ≡ true
PlacingOk (at_latitude_bound side) = letter_on north_south side ≡ true
PlacingOk (at_and latitude) = good_side north_south latitude ≡ true
PlacingOk (at_second_bound latitude) = good_side north_south latitude ≡ true
PlacingOk (at_longitude_of latitude side) = (first_side_good latitude ≡ true) × (letter_on east_west side ≡ true)
PlacingOk (at_longitude_bound latitude side) = (first_side_good latitude ≡ true) × (letter_on east_west side ≡ true)
PlacingOk at_entire = Unit {0}
PlacingOk (at_latitude ps) = OutlineOk ps
PlacingOk (at_longitude ps latitude) =
    OutlineOk ps × (good_coordinate north_south latitude ≡ true) × (either (room_after ps) (same_latitude ps latitude) ≡ true)
PlacingOk (at_dash ps) = OutlineOk ps × (0 < length ps)

abbrev pub Ok : State → Type 0
Ok at_designator = Unit {0}
Ok (at_centre d) = good_designator d ≡ true
Ok (at_sent d c) = (good_designator d ≡ true) × (good_letters 4 c ≡ true)
Ok (at_correction d c g) = good_heading (record { designator = d; centre = c; sent = g; correction = 0 }) ≡ true
Ok (at_unit h) = good_heading h ≡ true
Ok (at_sigmet h u) = (good_heading h ≡ true) × (good_letters 4 u ≡ true)
Ok (at_sequence h u) = (good_heading h ≡ true) × (good_letters 4 u ≡ true)
Ok (at_valid h u s) = (good_heading h ≡ true) × (good_letters 4 u ≡ true) × (good_sequence s ≡ true)
Ok (at_period h u s) = (good_heading h ≡ true) × (good_letters 4 u ≡ true) × (good_sequence s ≡ true)
Ok (at_office h u s p) = (good_heading h ≡ true) × (good_letters 4 u ≡ true) × (good_sequence s ≡ true) × (good_period p ≡ true)
Ok (at_indicator h l) = (good_heading h ≡ true) × (good_line l ≡ true)
Ok (at_name h l i) = (good_heading h ≡ true) × (good_line l ≡ true) × (good_letters 4 i ≡ true)
Ok (at_more_name h l i t) = (good_heading h ≡ true) × (good_line l ≡ true) × (good_letters 4 i ≡ true) × NameOk false name_bytes t
Ok (at_form o) = OpeningOk o
Ok (at_test o) = OpeningOk o
Ok (at_test_text o n read) = OpeningOk o × (between 1 3 n ≡ true) × (read < length (test_text n))
Ok (at_cancel_sigmet o) = OpeningOk o
Ok (at_cancel_sequence o) = OpeningOk o
Ok (at_cancel_period o s) = OpeningOk o × (good_sequence s ≡ true)
Ok (at_storm o n) = WeatherOk o × (good_storm n ≡ true)
Ok (at_severe o) = WeatherOk o
Ok (at_ice o) = WeatherOk o
Ok (at_heavy o) = WeatherOk o
Ok (at_radioactive o) = WeatherOk o
Ok (at_ash o) = AshOk o
Ok (at_eruption o) = AshOk o
Ok (at_mountain o) = AshOk o
Ok (at_more_mountain o t) = AshOk o × NameOk true mountain_limit t
Ok (at_position o n) = AshOk o × MountainOk n
Ok (at_position_longitude o n c) = AshOk o × MountainOk n × (good_coordinate north_south c ≡ true)
Ok (at_volcano_ash o v) = AshOk o × (good_volcano v ≡ true)
Ok (at_volcano_cloud o v) = AshOk o × (good_volcano v ≡ true)
Ok (at_observation p) = PhenomenonOk p
Ok (at_observed p n) = PhenomenonOk p × (between 1 2 n ≡ true)
Ok (at_observed_time p n) = PhenomenonOk p × (between 1 2 n ≡ true)
Ok (at_place site p) = SiteOk site × PlacingOk p
Ok (at_level q) = LocationOk q
Ok (at_top q) = LocationOk q
Ok (at_above q) = LocationOk q
Ok (at_top_above q) = LocationOk q
Ok (at_ending l) = LevelOk l
Ok (at_compass l) = LevelOk l
Ok (at_speed l d) = LevelOk l × (good_compass d ≡ true)
Ok (at_moving_intensity l d v) = LevelOk l × (good_compass d ≡ true) × (good_speed v ≡ true)
Ok (at_stationary l) = LevelOk l
Ok (at_forecast l i) = ForecastOk l i
Ok (at_forecast_at l i) = ForecastOk l i
Ok (at_forecast_time l i) = ForecastOk l i
Ok (at_end r) = good r ≡ true

-- the part that a word taken in this state belongs to: what is optional belongs to the part under way
abbrev pub place_mark : Site → Placing → List ℕ → ℕ
place_mark site at_location w = location_part site
place_mark site (at_latitude_of side) w = location_part site
place_mark site (at_latitude_bound side) w = location_part site
place_mark site (at_and latitude) w = pick (is "AND" w) (location_part site) (following_part site)
place_mark site (at_second_bound latitude) w = location_part site
place_mark site (at_longitude_of latitude side) w = location_part site
place_mark site (at_longitude_bound latitude side) w = location_part site
place_mark site at_entire w = location_part site
place_mark site (at_latitude ps) w = location_part site
place_mark site (at_longitude ps latitude) w = location_part site
place_mark site (at_dash ps) w = location_part site

abbrev pub mark : State → List ℕ → ℕ
mark at_designator w = 4
mark (at_centre d) w = 4
mark (at_sent d c) w = 4
mark (at_correction d c g) w = 5
mark (at_unit h) w = 5
mark (at_sigmet h u) w = 5
mark (at_sequence h u) w = 5
mark (at_valid h u s) w = 5
mark (at_period h u s) w = 5
mark (at_office h u s p) w = 5
mark (at_indicator h l) w = 6
mark (at_name h l i) w = 6
mark (at_more_name h l i t) w = 6
mark (at_form o) w = 7
mark (at_test o) w = pick (is "SIGMET" w) 7 12
mark (at_test_text o n read) w = 7
mark (at_cancel_sigmet o) w = 7
mark (at_cancel_sequence o) w = 7
mark (at_cancel_period o s) w = 7
mark (at_storm o n) w = 7
mark (at_severe o) w = 7
mark (at_ice o) w = pick (is "(FZRA)" w) 7 8
mark (at_heavy o) w = 7
mark (at_radioactive o) w = 7
mark (at_ash o) w = 7
mark (at_eruption o) w = 7
mark (at_mountain o) w = 7
mark (at_more_mountain o t) w = 7
mark (at_position o n) w = 7
mark (at_position_longitude o n c) w = 7
mark (at_volcano_ash o v) w = 7
mark (at_volcano_cloud o v) w = 7
mark (at_observation p) w = 8
mark (at_observed p n) w = pick (is "AT" w) 8 9
mark (at_observed_time p n) w = 8
mark (at_place site p) w = place_mark site p w
mark (at_level q) w = 10
mark (at_top q) w = 10
mark (at_above q) w = 10
mark (at_top_above q) w = 10
mark (at_ending l) w = 11
mark (at_compass l) w = 11
mark (at_speed l d) w = 11
mark (at_moving_intensity l d v) w = 11
mark (at_stationary l) w = 11
mark (at_forecast l i) w = 11
mark (at_forecast_at l i) w = 11
mark (at_forecast_time l i) w = 11
mark (at_end r) w = 12

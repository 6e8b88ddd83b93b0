-- The grammar of 01 as a machine over words: its states. A state says which word is expected, and carries what was read.
-- Tied: `read-replied`, `replied-only` (crates/grammar/proofs/Theorems.antt).
use Rattle.std.specs.Prelude.{List, ℕ}
use Rattle.coordinates.specs.declared.Coordinate.{Coordinate}
use Rattle.coordinates.specs.declared.Point.{Point}
use Rattle.groups.specs.declared.Group.{Group}
use Rattle.groups.specs.declared.Period.{Period}
use Rattle.headings.specs.declared.Designator.{Designator}
use Rattle.headings.specs.declared.Sequence.{Sequence}
use Rattle.levels.specs.declared.Level.{Level}
use Rattle.motions.specs.declared.Speed.{Speed}
use Rattle.message.specs.declared.Area.{Area}
use Rattle.message.specs.declared.Extent.{Extent}
use Rattle.message.specs.declared.FirstLine.{FirstLine}
use Rattle.message.specs.declared.Heading.{Heading}
use Rattle.message.specs.declared.Name.{Name}
use Rattle.message.specs.declared.Observation.{Observation}
use Rattle.message.specs.declared.Record.{Record}
use Rattle.message.specs.declared.Side.{Side}
use Rattle.message.specs.declared.Volcano.{Volcano}

-- what a message has up to its area, …
pub record ToArea : Type 0 where
  pub heading : Heading
  pub line : FirstLine
  pub area : Area

-- … up to its phenomenon, …
pub record ToPhenomenon : Type 0 where
  pub before : ToArea
  pub phenomenon : ℕ
  pub volcano : Volcano

-- … its observation, …
pub record ToObservation : Type 0 where
  pub before : ToPhenomenon
  pub observation : Observation

-- … its location, …
pub record ToLocation : Type 0 where
  pub before : ToObservation
  pub extent : Extent

-- … and its level
pub record ToLevel : Type 0 where
  pub before : ToLocation
  pub level : Level

-- a location stands in the report, or in the forecast of that intensity: "A forecast's location belongs to the ending"
pub data Site : Type 0 where
  in_report : ToObservation → Site
  in_forecast : ToLevel → ℕ → Site

-- inside a location
pub data Placing : Type 0 where
  at_location : Placing
  -- a bound: `N` or `S` read, `OF` read, the latitude bound read, `AND` read, `E` or `W` read, `OF` read
  at_latitude_of : ℕ → Placing
  at_latitude_bound : ℕ → Placing
  at_and : Side → Placing
  at_second_bound : Side → Placing
  at_longitude_of : Side → ℕ → Placing
  at_longitude_bound : Side → ℕ → Placing
  -- `ENTIRE` read
  at_entire : Placing
  -- an outline with the points so far: a latitude, a longitude, or `-` comes next
  at_latitude : List Point → Placing
  at_longitude : List Point → Coordinate → Placing
  at_dash : List Point → Placing

pub data State : Type 0 where
  -- heading
  at_designator : State
  at_centre : Designator → State
  at_sent : Designator → ℕ → State
  at_correction : Designator → ℕ → Group → State
  -- first line
  at_unit : Heading → State
  at_sigmet : Heading → ℕ → State
  at_sequence : Heading → ℕ → State
  at_valid : Heading → ℕ → Sequence → State
  at_period : Heading → ℕ → Sequence → State
  at_office : Heading → ℕ → Sequence → Period → State
  -- area: its letters, the first word of its name, another one or the closing word after that text
  at_indicator : Heading → FirstLine → State
  at_name : Heading → FirstLine → ℕ → State
  at_more_name : Heading → FirstLine → ℕ → List ℕ → State
  -- a test, a cancellation or a report
  at_form : ToArea → State
  -- `TEST` read; so many words read of the text of that test
  at_test : ToArea → State
  at_test_text : ToArea → ℕ → ℕ → State
  at_cancel_sigmet : ToArea → State
  at_cancel_sequence : ToArea → State
  at_cancel_period : ToArea → Sequence → State
  -- phenomenon, WS: the storm's first word read, `SEV`, `SEV ICE`, `HVY`, `RDOACT`
  at_storm : ToArea → ℕ → State
  at_severe : ToArea → State
  at_ice : ToArea → State
  at_heavy : ToArea → State
  at_radioactive : ToArea → State
  -- phenomenon, WV: `VA` read, `VA ERUPTION`, `MT`, a text of the mountain's name, `PSN`, the latitude, the point, `VA`
  at_ash : ToArea → State
  at_eruption : ToArea → State
  at_mountain : ToArea → State
  at_more_mountain : ToArea → List ℕ → State
  at_position : ToArea → Name → State
  at_position_longitude : ToArea → Name → Coordinate → State
  at_volcano_ash : ToArea → Volcano → State
  at_volcano_cloud : ToArea → Volcano → State
  -- observation: nothing read, the word read, `AT` read
  at_observation : ToPhenomenon → State
  at_observed : ToPhenomenon → ℕ → State
  at_observed_time : ToPhenomenon → ℕ → State
  -- location
  at_place : Site → Placing → State
  -- level: nothing read, `TOP`, `ABV`, `TOP ABV`
  at_level : ToLocation → State
  at_top : ToLocation → State
  at_above : ToLocation → State
  at_top_above : ToLocation → State
  -- ending: nothing read, `MOV`, the compass point, the speed, `STNR`, the intensity, `FCST`, `AT`
  at_ending : ToLevel → State
  at_compass : ToLevel → State
  at_speed : ToLevel → ℕ → State
  at_moving_intensity : ToLevel → ℕ → Speed → State
  at_stationary : ToLevel → State
  at_forecast : ToLevel → ℕ → State
  at_forecast_at : ToLevel → ℕ → State
  at_forecast_time : ToLevel → ℕ → State
  -- the `=` of that record
  at_end : Record → State

-- what a word does: the message goes on, it is done with this `=`, or the words so far begin no message
pub data Move : Type 0 where
  goes : State → Move
  done : Record → Move
  dead : Move

-- The outline: one more point. The code keeps the first point and how many there are.
-- Internal contract.
use Rattle.std.specs.Prelude.{Bool, Option, None, Some, Result, Ok, Err, List, [], ◌∷◌, ◌++◌, ◌≡◌, ℕ, ◌+◌, ◌<◌, length, get_or}
use Rattle.lists.specs.Choice.{both, found}
use Rattle.coordinates.specs.declared.Coordinate.{Coordinate}
use Rattle.coordinates.specs.declared.Point.{Point}
use Rattle.coordinates.specs.Coordinates.{north_south, east_west, coordinate_of, good_coordinate}
use Rattle.coordinates.specs.Points.{no_point}
use Rattle.message.specs.Limits.{most_points}
use Rattle.grammar.specs.Numbers.{location_part}
use Rattle.grammar.specs.Placing.Placed.{on, there, nowhere}
use Rattle.grammar.specs.Placing.{Placed, closes, may_follow, place_step}
use Rattle.grammar.specs.Records.{outlined}
use Rattle.grammar.specs.States.Placing.{at_latitude, at_longitude, at_dash}
use Rattle.grammar.specs.States.State.{at_place}
use Rattle.grammar.specs.States.{Site, State}
use Rattle.grammar.specs.Steps.{after}
use Rattle.reader_sections.specs.declared.outline.Corner.{Corner}
use Rattle.reader_sections.specs.declared.outline.Corner.TheVariants.{Further, Closing}
use Rattle.reader_sections.specs.declared.parts.Part.{Part}
use Rattle.reader_sections.specs.declared.step.Refused.{Refused}
use Rattle.reader_sections.specs.declared.step.Step.{Step}
use Rattle.reader_sections.specs.Parts.{part_number}
use Rattle.reader_sections.specs.Steps.{Leads}

-- the points so far: that many, the first of them at hand
pub record Points (first : Point) (count : ℕ) (ps : List Point) : Type 0 where
  pub counted : length ps ≡ count
  pub leads : 0 < count → get_or ps 0 no_point ≡ first

pub record FollowsSays (first : Point) (count : ℕ) (c : Coordinate) (r : Bool) : Type 0 where
  pub says : (ps : List Point) → Points first count ps → r ≡ may_follow ps c

pub record ClosesSays (first : Point) (count : ℕ) (p : Point) (r : Bool) : Type 0 where
  pub says : (ps : List Point) → Points first count ps → r ≡ closes ps p

-- the latitude of one more point
abbrev pub follows : List Point → Coordinate → Bool
follows ps d = both (good_coordinate north_south d) (may_follow ps d)

pub record LatitudeSays (first : Point) (count : ℕ) (w : List ℕ) (r : Option Coordinate) : Type 0 where
  pub says : (ps : List Point) → Points first count ps → r ≡ found (follows ps) (coordinate_of north_south w)

-- its longitude: what the location does with a word of that longitude. The `-` comes next where the outline is not closed, and there is room.
abbrev pub more : List Point → Point → List Point
more ps p = ps ++ (p ∷ [])

abbrev pub placed : List Point → Option Corner → Placed
placed ps (Some (Closing p)) = there (outlined (more ps p))
placed ps (Some (Further p)) = on (at_dash (more ps p))
placed ps None = nowhere

abbrev pub roomy : ℕ → Option Corner → Type 0
roomy count (Some (Further p)) = count + 1 < most_points
roomy count (Some (Closing p)) = Unit
roomy count None = Unit

pub record CornerSays (first : Point) (count : ℕ) (north : Coordinate) (w : List ℕ) (r : Option Corner) : Type 0 where
  pub says : (closing : ℕ) (ps : List Point) (v : List ℕ) → Points first count ps → coordinate_of east_west v ≡ coordinate_of east_west w
      → place_step closing (at_longitude ps north) v ≡ placed ps r
  pub room : roomy count r

-- a whole point, with the `-` after it where the outline is not closed: one more point comes next
abbrev pub cornered : Site → List Point → Corner → State
cornered site ps (Closing p) = after site (outlined (more ps p))
cornered site ps (Further p) = at_place site (at_latitude (more ps p))

abbrev pub spacious : ℕ → Result (Corner × Step) Refused → Type 0
spacious count (Ok v) = roomy count (Some v.0)
spacious count (Err e) = Unit

pub record PointSays (first : Point) (count : ℕ) (judged : Part) (from : Step) (r : Result (Corner × Step) Refused) : Type 0 where
  pub says : (site : Site) (ps : List Point) → location_part site ≡ part_number judged → Points first count ps → Leads (at_place site (at_latitude ps)) from r (cornered site ps)
  pub room : spacious count r

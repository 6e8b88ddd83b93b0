-- 01, "A record's location is exactly one of three things: a bound, an outline or the entire area." One word of a location.
-- Tied: `read-replied`, `replied-only` (crates/grammar/proofs/Theorems.antt).
use Rattle.std.specs.Prelude.{Bool, false, List, [], ◌∷◌, ◌++◌, ℕ, ◌+◌, ltb, leb, length, get_or}
use Prim.Native.String.{String}
use Rattle.lists.specs.Choice.{pick, both, either}
use Rattle.lists.specs.Lists.{same}
use Rattle.lists.specs.Text.{bytes}
use Rattle.coordinates.specs.Coordinates.{Axis, north_south, east_west, coordinate_of, good_coordinate}
use Rattle.coordinates.specs.Points.{same_value, same_point}
use Rattle.coordinates.specs.declared.Coordinate.{Coordinate}
use Rattle.coordinates.specs.declared.Point.{Point}
use Rattle.message.specs.Limits.{least_points, most_points}
use Rattle.message.specs.Locations.{no_side, entire_word}
use Rattle.message.specs.declared.Extent.{Extent}
use Rattle.grammar.specs.Records.{bounded, outlined, entirely}
use Rattle.grammar.specs.States.{Placing}
use Rattle.grammar.specs.States.Placing.{at_location, at_latitude_of, at_latitude_bound, at_and, at_second_bound, at_longitude_of, at_longitude_bound, at_entire, at_latitude, at_longitude, at_dash}

-- the word is this fixed word
abbrev pub is : String → List ℕ → Bool
is fixed w = same w (bytes fixed)

-- what a word does to a location: it goes on, it ends with this word, it had ended before this word, or the word is none of it
pub data Placed : Type 0 where
  on : Placing → Placed
  there : Extent → Placed
  past : Extent → Placed
  nowhere : Placed

abbrev pub on_if : Bool → Placing → Placed
on_if t p = pick t (on p) nowhere

abbrev pub there_if : Bool → Extent → Placed
there_if t e = pick t (there e) nowhere

-- `N` or `S`, `E` or `W`, in front of `OF`
abbrev pub side_word : Axis → List ℕ → Bool
side_word a w = either (same w (a.plus ∷ [])) (same w (a.minus ∷ []))

-- the point is equal to point 1
abbrev pub closes : List Point → Point → Bool
closes [] p = false
closes (first ∷ ps) p = same_point first p

-- the latitude is that of point 1
abbrev pub same_latitude : List Point → Coordinate → Bool
same_latitude [] c = false
same_latitude (first ∷ ps) c = same_value first.latitude c

-- one more point still leaves room for another: 02, CR 7, "4 to 20 written points"
abbrev pub room_after : List Point → Bool
room_after ps = ltb (length ps + 1) most_points

-- "that may not be point 2 or 3": with one more point there are 4
abbrev pub enough : List Point → Bool
enough ps = leb least_points (length ps + 1)

-- 02, CR 7: "an outline not closed at point 20 is refused at the word that shows it": the last point that there is room for has to be equal to
-- point 1, so its latitude has to be that of point 1
abbrev pub may_follow : List Point → Coordinate → Bool
may_follow ps c = either (room_after ps) (same_latitude ps c)

-- "It ends at the first later point equal to point 1, and that may not be point 2 or 3": one more point
unfoldable pub pointed : List Point → Point → Placed
pointed ps p =
    pick (closes ps p) (there_if (enough ps) (outlined (ps ++ (p ∷ [])))) (on_if (room_after ps) (at_dash (ps ++ (p ∷ []))))

-- "Bounds: `N OF` or `S OF` a latitude; `E OF` or `W OF` a longitude; or a latitude bound, `AND`, a longitude bound." Then `ENTIRE` and `WI`.
unfoldable pub locating : List ℕ → Placed
locating w =
    pick (side_word north_south w) (on (at_latitude_of (get_or w 0 0)))
    (pick (side_word east_west w) (on (at_longitude_of no_side (get_or w 0 0))) (pick (is "ENTIRE" w) (on at_entire) (on_if (is "WI" w) (at_latitude []))))

-- one word of a location, in an area with that closing word
unfoldable pub place_step : ℕ → Placing → List ℕ → Placed
place_step closing at_location w = locating w
place_step closing (at_latitude_of side) w = on_if (is "OF" w) (at_latitude_bound side)
place_step closing (at_latitude_bound side) w =
    on_if (good_coordinate north_south (coordinate_of north_south w)) (at_and (record { of = side; at = coordinate_of north_south w }))
place_step closing (at_and latitude) w = pick (is "AND" w) (on (at_second_bound latitude)) (past (bounded latitude no_side))
place_step closing (at_second_bound latitude) w = on_if (side_word east_west w) (at_longitude_of latitude (get_or w 0 0))
place_step closing (at_longitude_of latitude side) w = on_if (is "OF" w) (at_longitude_bound latitude side)
place_step closing (at_longitude_bound latitude side) w =
    there_if (good_coordinate east_west (coordinate_of east_west w)) (bounded latitude (record { of = side; at = coordinate_of east_west w }))
place_step closing at_entire w = there_if (same w (entire_word closing)) entirely
place_step closing (at_latitude ps) w =
    on_if (both (good_coordinate north_south (coordinate_of north_south w)) (may_follow ps (coordinate_of north_south w)))
    (at_longitude ps (coordinate_of north_south w))
place_step closing (at_longitude ps latitude) w =
    pick (good_coordinate east_west (coordinate_of east_west w)) (pointed ps (record { latitude = latitude; longitude = coordinate_of east_west w })) nowhere
place_step closing (at_dash ps) w = on_if (is "-" w) (at_latitude ps)

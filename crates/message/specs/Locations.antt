-- 01, "A record's location is exactly one of three things: a bound, an outline or the entire area."
-- Believed.
use Rattle.std.specs.Prelude.{Bool, true, false, List, [], ◌∷◌, ◌++◌, ℕ, ◌-◌, eqb, length, take, drop, get_or, replicate}
use Rattle.lists.specs.Choice.{pick, both, either}
use Rattle.lists.specs.Lists.{all_of, index_from}
use Rattle.lists.specs.Text.{bytes}
use Rattle.words.specs.Bytes.{between}
use Rattle.coordinates.specs.Coordinates.{Axis, north_south, east_west, good_coordinate, empty_coordinate, no_coordinate, spell_coordinate}
use Rattle.coordinates.specs.Points.{good_point, empty_point, same_point, no_point, point_words}
use Rattle.coordinates.specs.declared.Point.{Point}
use Rattle.message.specs.Limits.{least_points, most_points, cta}
use Rattle.message.specs.declared.Side.{Side}
use Rattle.message.specs.declared.Bound.{Bound}
use Rattle.message.specs.declared.Location.{Location}
use Rattle.message.specs.declared.Location.TheVariants.{Nowhere, Bounded, Outline, Entire}
use Rattle.message.specs.declared.Extent.{Extent}

-- "`N OF` or `S OF` a latitude; `E OF` or `W OF` a longitude": a side on an axis
unfoldable pub good_side : Axis → Side → Bool
good_side a s = both (either (eqb s.of a.plus) (eqb s.of a.minus)) (good_coordinate a s.at)

unfoldable pub empty_side : Side → Bool
empty_side s = both (eqb s.of 0) (empty_coordinate s.at)

abbrev pub no_side : Side
no_side = record { of = 0; at = no_coordinate }

-- a latitude bound, a longitude bound, "or a latitude bound, `AND`, a longitude bound"
unfoldable pub good_bound : Bound → Bool
good_bound b =
    pick (empty_side b.latitude) (good_side east_west b.longitude)
    (both (good_side north_south b.latitude) (either (empty_side b.longitude) (good_side east_west b.longitude)))

-- no outline: "Places of a record that its form does not use are zero"
unfoldable pub no_points : List Point → Bool
no_points ps = both (eqb (length ps) most_points) (all_of empty_point ps)

-- "It ends at the first later point equal to point 1": the place of that point, counted from 0
abbrev pub closing_point : List Point → ℕ
closing_point ps = index_from (same_point (get_or ps 0 no_point)) 1 ps

-- "`WI` and … points joined by the word `-`. It ends at the first later point equal to point 1, and that may not be point 2 or 3."
unfoldable pub good_outline : ℕ → List Point → Bool
good_outline n ps =
    both (between least_points most_points n)
    (both (eqb (length ps) most_points)
    (both (all_of good_point (take n ps)) (both (eqb (closing_point ps) (n - 1)) (all_of empty_point (drop n ps)))))

-- a location with its points
abbrev pub located_by : Location → List Point → Bool
located_by Nowhere ps = false
located_by (Bounded b) ps = both (good_bound b) (no_points ps)
located_by (Outline n) ps = good_outline n ps
located_by Entire ps = no_points ps

unfoldable pub good_extent : Extent → Bool
good_extent p = located_by p.location p.points

abbrev pub is_nowhere : Location → Bool
is_nowhere Nowhere = true
is_nowhere (Bounded b) = false
is_nowhere (Outline n) = false
is_nowhere Entire = false

unfoldable pub empty_extent : Extent → Bool
empty_extent p = both (is_nowhere p.location) (no_points p.points)

abbrev pub no_extent : Extent
no_extent = record { location = Nowhere; points = replicate most_points no_point }

-- `N`, `OF`, the coordinate
abbrev pub side_words : Axis → Side → List (List ℕ)
side_words a s = (s.of ∷ []) ∷ bytes "OF" ∷ spell_coordinate a s.at ∷ []

unfoldable pub bound_words : Bound → List (List ℕ)
bound_words b =
    pick (empty_side b.latitude) (side_words east_west b.longitude)
    (side_words north_south b.latitude ++ pick (empty_side b.longitude) [] (bytes "AND" ∷ side_words east_west b.longitude))

-- "points joined by the word `-`"
unfoldable pub dashed : List Point → List (List ℕ)
dashed [] = []
dashed (p ∷ ps) = bytes "-" ∷ (point_words p ++ dashed ps)

unfoldable pub joined : List Point → List (List ℕ)
joined [] = []
joined (p ∷ ps) = point_words p ++ dashed ps

-- "`ENTIRE FIR`, or `ENTIRE CTA` exactly when the area is a CTA"
abbrev pub entire_word : ℕ → List ℕ
entire_word closing = pick (eqb closing cta) (bytes "CTA") (bytes "FIR")

abbrev pub entire_words : ℕ → List (List ℕ)
entire_words closing = bytes "ENTIRE" ∷ entire_word closing ∷ []

-- the words of a location, in an area with that closing word
abbrev pub location_words : ℕ → Location → List Point → List (List ℕ)
location_words closing Nowhere ps = []
location_words closing (Bounded b) ps = bound_words b
location_words closing (Outline n) ps = bytes "WI" ∷ joined (take n ps)
location_words closing Entire ps = entire_words closing

unfoldable pub extent_words : ℕ → Extent → List (List ℕ)
extent_words closing p = location_words closing p.location p.points

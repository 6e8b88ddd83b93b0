-- 01, "A point is a latitude word and a longitude word." "Points are equal when their latitudes are equal and their longitudes differ
-- by 0 or 21,600."
-- Believed.
use Rattle.std.specs.Prelude.{Bool, List, [], ◌∷◌, ℕ, eqb, ℤ, nat_abs, ◌-ℤ◌}
use Rattle.lists.specs.Choice.{both, either}
use Rattle.coordinates.specs.Coordinates.{north_south, east_west, good_coordinate, empty_coordinate, no_coordinate, spell_coordinate, signed_of}
use Rattle.coordinates.specs.declared.Coordinate.{Coordinate}
use Rattle.coordinates.specs.declared.Point.{Point}

-- how far apart two signed values are
abbrev pub apart : ℤ → ℤ → ℕ
apart a b = nat_abs (a -ℤ b)

-- two latitudes are equal
abbrev pub same_value : Coordinate → Coordinate → Bool
same_value c d = eqb (apart (signed_of c) (signed_of d)) 0

unfoldable pub same_point : Point → Point → Bool
same_point p q =
    both (same_value p.latitude q.latitude)
    (either (eqb (apart (signed_of p.longitude) (signed_of q.longitude)) 0) (eqb (apart (signed_of p.longitude) (signed_of q.longitude)) 21600))

unfoldable pub good_point : Point → Bool
good_point p = both (good_coordinate north_south p.latitude) (good_coordinate east_west p.longitude)

unfoldable pub empty_point : Point → Bool
empty_point p = both (empty_coordinate p.latitude) (empty_coordinate p.longitude)

abbrev pub point : Coordinate → Coordinate → Point
point latitude longitude = record { latitude = latitude; longitude = longitude }

abbrev pub no_point : Point
no_point = point no_coordinate no_coordinate

-- the two words of a point
abbrev pub point_words : Point → List (List ℕ)
point_words p = spell_coordinate north_south p.latitude ∷ spell_coordinate east_west p.longitude ∷ []

-- The paper's cases of coordinates, about the definitions.
use mathlib.Core.Bool.{true}
use mathlib.Core.Logic.{inl, inr}
use mathlib.Core.Path.{◌≡◌, refl, sym, ◌∙◌}
use Prim.Native.Char.{code}
use Prim.Native.String.{String}
use lib.IntN.{pos, neg_ℤ}
use Rattle.lists.specs.Lists.{all_of}
use Rattle.lists.specs.Base.{worth_after}
use Rattle.lists.specs.Text.{bytes}
use Rattle.figures.specs.Figures.{figures_of}
use Rattle.coordinates.specs.Coordinates.{Axis, north_south, east_west, coordinate_of, good_coordinate, no_coordinate, signed_of, Valued}
use Rattle.coordinates.specs.Points.{same_point}
use Rattle.coordinates.specs.declared.Coordinate.{Coordinate}
use Rattle.coordinates.proofs.Globe.{one-place-same}

-- the word is refused
abbrev pub Refused : Axis → String → Type 0
Refused a s = coordinate_of a (bytes s) ≡ no_coordinate

pub n00 : Valued north_south "N00" (pos 0)
unfolding coordinate_of good_coordinate signed_of figures_of all_of worth_after
n00 = record { good = refl; value = refl }

pub s0000 : Valued north_south "S0000" (pos 0)
unfolding coordinate_of good_coordinate signed_of figures_of all_of worth_after
s0000 = record { good = refl; value = refl }

pub n90 : Valued north_south "N90" (pos 5400)
unfolding coordinate_of good_coordinate signed_of figures_of all_of worth_after
n90 = record { good = refl; value = refl }

pub s90 : Valued north_south "S90" (neg_ℤ (pos 5400))
unfolding coordinate_of good_coordinate signed_of figures_of all_of worth_after
s90 = record { good = refl; value = refl }

pub n9001 : Refused north_south "N9001"
unfolding coordinate_of good_coordinate figures_of all_of worth_after
n9001 = refl

pub e180 : Valued east_west "E180" (pos 10800)
unfolding coordinate_of good_coordinate signed_of figures_of all_of worth_after
e180 = record { good = refl; value = refl }

pub w18000 : Valued east_west "W18000" (neg_ℤ (pos 10800))
unfolding coordinate_of good_coordinate signed_of figures_of all_of worth_after
w18000 = record { good = refl; value = refl }

pub e181 : Refused east_west "E181"
unfolding coordinate_of good_coordinate figures_of all_of worth_after
e181 = refl

pub e18001 : Refused east_west "E18001"
unfolding coordinate_of good_coordinate figures_of all_of worth_after
e18001 = refl

-- letter and digits are kept as written, so that these are two coordinates of one value
pub n00-kept : coordinate_of north_south (bytes "N00") ≡ record { letter = code "N"; digits = 2; degrees = 0; minutes = 0 }
unfolding coordinate_of good_coordinate figures_of all_of worth_after
n00-kept = refl

pub s0000-kept : coordinate_of north_south (bytes "S0000") ≡ record { letter = code "S"; digits = 4; degrees = 0; minutes = 0 }
unfolding coordinate_of good_coordinate figures_of all_of worth_after
s0000-kept = refl

-- "So N00 equals S0000, and E180 equals W18000": points that differ in these words alone are the same
pub n00-is-s0000 : (e : Coordinate)
    → same_point (record { latitude = coordinate_of north_south (bytes "N00"); longitude = e }) (record { latitude = coordinate_of north_south (bytes "S0000"); longitude = e }) ≡ true
n00-is-s0000 e = one-place-same _ _ (n00.value ∙ sym s0000.value, inl refl)

pub e180-is-w18000 : (n : Coordinate)
    → same_point (record { latitude = n; longitude = coordinate_of east_west (bytes "E180") }) (record { latitude = n; longitude = coordinate_of east_west (bytes "W18000") }) ≡ true
e180-is-w18000 n = one-place-same _ _ (refl, inr (inl (e180.value, w18000.value)))

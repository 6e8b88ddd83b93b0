-- 01, "Latitude: N or S and two or four digits, at most 90 degrees. Longitude: E or W and three or five digits, at most 180 degrees."
-- Both are one definition over an axis. The record keeps letter and digits as written; the signed minutes are a function of them.
-- Believed.
use Rattle.std.specs.Prelude.{Bool, true, List, [], ◌∷◌, ◌++◌, ◌≡◌, ℕ, ◌+◌, ◌*◌, leb, ltb, eqb, ℤ, pos, neg_ℤ, length, get_or}
use Prim.Native.Char.{code}
use Prim.Native.String.{String}
use Rattle.lists.specs.Choice.{pick, both, either}
use Rattle.lists.specs.Lists.{part}
use Rattle.lists.specs.Text.{bytes}
use Rattle.figures.specs.Figures.{two_of, three_of, in_figures}
use Rattle.figures.specs.Reads.{if_good}
use Rattle.coordinates.specs.declared.Coordinate.{Coordinate}

-- how many digits the degrees have, the greatest degree, and the letters of the positive and of the negative side
pub record Axis : Type 0 where
  pub width : ℕ
  pub greatest : ℕ
  pub plus : ℕ
  pub minus : ℕ

-- "N or S and two or four digits, at most 90 degrees"
abbrev pub north_south : Axis
north_south = record { width = 2; greatest = 90; plus = code "N"; minus = code "S" }

-- "E or W and three or five digits, at most 180 degrees"
abbrev pub east_west : Axis
east_west = record { width = 3; greatest = 180; plus = code "E"; minus = code "W" }

-- the letter is one of the axis's two, and the digits are those of the degrees alone or two more
abbrev pub written : Axis → Coordinate → Bool
written a c =
    both (either (eqb c.letter a.plus) (eqb c.letter a.minus))
    (either (both (eqb c.digits a.width) (eqb c.minutes 0)) (eqb c.digits (a.width + 2)))

-- "at most 90 degrees", "at most 180 degrees"; "Minutes 00-59; at the greatest degree only 00"
abbrev pub counted : Axis → Coordinate → Bool
counted a c = both (leb c.degrees a.greatest) (both (leb c.minutes 59) (either (ltb c.degrees a.greatest) (eqb c.minutes 0)))

unfoldable pub good_coordinate : Axis → Coordinate → Bool
good_coordinate a c = both (written a c) (counted a c)

-- no coordinate: all zero
abbrev pub no_coordinate : Coordinate
no_coordinate = record { letter = 0; digits = 0; degrees = 0; minutes = 0 }

unfoldable pub empty_coordinate : Coordinate → Bool
empty_coordinate c = both (eqb c.letter 0) (both (eqb c.digits 0) (both (eqb c.degrees 0) (eqb c.minutes 0)))

-- a word read as a letter and degrees, or as a letter, degrees and minutes
abbrev pub in_degrees : Axis → List ℕ → Coordinate
in_degrees a w = record { letter = get_or w 0 0; digits = a.width; degrees = three_of (part 1 (a.width + 1) w); minutes = 0 }

abbrev pub in_minutes : Axis → List ℕ → Coordinate
in_minutes a w =
    record { letter = get_or w 0 0; digits = a.width + 2; degrees = three_of (part 1 (a.width + 1) w); minutes = two_of (part (a.width + 1) (a.width + 3) w) }

-- the coordinate that a word is, or none
unfoldable pub coordinate_of : Axis → List ℕ → Coordinate
coordinate_of a w =
    pick (eqb (length w) (a.width + 1)) (if_good (good_coordinate a) no_coordinate (in_degrees a w))
    (pick (eqb (length w) (a.width + 3)) (if_good (good_coordinate a) no_coordinate (in_minutes a w)) no_coordinate)

-- the word of a coordinate
unfoldable pub spell_coordinate : Axis → Coordinate → List ℕ
spell_coordinate a c =
    c.letter ∷ (in_figures a.width c.degrees ++ pick (eqb c.digits a.width) [] (in_figures 2 c.minutes))

-- "Each coordinate also has a signed value in minutes, north and east positive": S and W are negative
unfoldable pub signed_of : Coordinate → ℤ
signed_of c =
    pick (either (eqb c.letter (code "S")) (eqb c.letter (code "W"))) (neg_ℤ (pos (c.degrees * 60 + c.minutes))) (pos (c.degrees * 60 + c.minutes))

-- the word is a coordinate, and has this signed value
pub record Valued (a : Axis) (word : String) (minutes : ℤ) : Type 0 where
  pub good : good_coordinate a (coordinate_of a (bytes word)) ≡ true
  pub value : signed_of (coordinate_of a (bytes word)) ≡ minutes

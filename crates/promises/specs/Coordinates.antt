-- 01, "Each coordinate also has a signed value in minutes, north and east positive: -5,400 to 5,400 and -10,800 to 10,800. Points are equal when
-- their latitudes are equal and their longitudes differ by 0 or 21,600. So N00 equals S0000, and E180 equals W18000. The record keeps letter
-- and digits as written."
-- Believed.
use Rattle.std.specs.Prelude.{Bool, true, false, List, ◌↔◌, ◌≡◌, ℕ, ◌+◌, ◌*◌, ℤ, pos, neg_ℤ, ◌≤ℤ◌}
use Prim.Native.Char.{code}
use Prim.Native.String.{String}
use contract.Lifetimes.{Lfts}
use Rattle.lists.specs.Text.{bytes}
use Rattle.coordinates.specs.Coordinates.{Axis, north_south, east_west, coordinate_of, good_coordinate, spell_coordinate, signed_of}
use Rattle.coordinates.specs.Points.{point, good_point, same_point}
use Rattle.coordinates.specs.declared.Coordinate.{Coordinate}
use Rattle.coordinates.specs.declared.Point.{Point}
use Rattle.coordinates.proofs.signed.Reads as signed-Reads
use Rattle.coordinates.proofs.same_point.Reads as same-point-reads

-- a good coordinate of the axis has this signed value
pub record IsValue (a : Axis) (value : ℤ) : Type 0 where
  pub coordinate : Coordinate
  pub good : good_coordinate a coordinate ≡ true
  pub valued : signed_of coordinate ≡ value

-- from -most to most
abbrev pub Within : ℕ → ℤ → Type 0
Within most value = (neg_ℤ (pos most) ≤ℤ value) × (value ≤ℤ pos most)

-- two signed longitudes of one meridian: equal, or 21,600 apart, which only the two ends are
pub data OneMeridian (x y : ℤ) : Type 0 where
  equal : x ≡ y → OneMeridian x y
  east-west : x ≡ pos 10800 → y ≡ neg_ℤ (pos 10800) → OneMeridian x y
  west-east : x ≡ neg_ℤ (pos 10800) → y ≡ pos 10800 → OneMeridian x y

-- the coordinates of words
abbrev pub latitude : String → Coordinate
latitude word = coordinate_of north_south (bytes word)

abbrev pub longitude : String → Coordinate
longitude word = coordinate_of east_west (bytes word)

-- both points are good, and whether they are equal
pub record Compared (p q : Point) (answer : Bool) : Type 0 where
  pub first : good_point p ≡ true
  pub second : good_point q ≡ true
  pub same : same_point p q ≡ answer

-- `signed(c)` may answer this value, and `same_point(p, q)` this
pub record MayValue (c : Coordinate) (value : ℤ) : Type 0 where
  pub lent : Lfts 0
  pub allowed : signed-Reads.Learnt lent (c, tt) value (c, tt)

pub record MayCompare (p q : Point) (answer : Bool) : Type 0 where
  pub lent : Lfts 0
  pub allowed : same-point-reads.Learnt lent (p, (q, tt)) answer (p, (q, tt))

pub record Coordinates : Type 0 where
  -- the code's values and the code's equality are those that the rest speaks of
  pub values : (c : Coordinate) (value : ℤ) → MayValue c value ↔ (value ≡ signed_of c)
  pub compares : (p q : Point) (answer : Bool) → MayCompare p q answer ↔ (answer ≡ same_point p q)
  -- "a signed value in minutes, north and east positive"
  pub north : (c : Coordinate) → c.letter ≡ code "N" → signed_of c ≡ pos (c.degrees * 60 + c.minutes)
  pub south : (c : Coordinate) → c.letter ≡ code "S" → signed_of c ≡ neg_ℤ (pos (c.degrees * 60 + c.minutes))
  pub east : (c : Coordinate) → c.letter ≡ code "E" → signed_of c ≡ pos (c.degrees * 60 + c.minutes)
  pub west : (c : Coordinate) → c.letter ≡ code "W" → signed_of c ≡ neg_ℤ (pos (c.degrees * 60 + c.minutes))
  -- "-5,400 to 5,400 and -10,800 to 10,800": no other value, and each of these
  pub latitudes : (value : ℤ) → IsValue north_south value ↔ Within 5400 value
  pub longitudes : (value : ℤ) → IsValue east_west value ↔ Within 10800 value
  -- "Points are equal when their latitudes are equal and their longitudes differ by 0 or 21,600."
  pub equal-exactly : (p q : Point) → good_point p ≡ true → good_point q ≡ true
      → (same_point p q ≡ true) ↔ ((signed_of p.latitude ≡ signed_of q.latitude) × OneMeridian (signed_of p.longitude) (signed_of q.longitude))
  -- so that equality is an equivalence of good points
  pub reflexive : (p : Point) → same_point p p ≡ true
  pub symmetric : (p q : Point) → same_point p q ≡ true → same_point q p ≡ true
  pub transitive : (p q r : Point) → good_point p ≡ true → good_point q ≡ true → good_point r ≡ true
      → same_point p q ≡ true → same_point q r ≡ true → same_point p r ≡ true
  -- "So N00 equals S0000, and E180 equals W18000."; the poles are two, and E179 is another meridian than E180
  pub one-equator : (e : Coordinate) → good_coordinate east_west e ≡ true → Compared (point (latitude "N00") e) (point (latitude "S0000") e) true
  pub one-meridian : (n : Coordinate) → good_coordinate north_south n ≡ true → Compared (point n (longitude "E180")) (point n (longitude "W18000")) true
  pub two-poles : (e : Coordinate) → good_coordinate east_west e ≡ true → Compared (point (latitude "N90") e) (point (latitude "S90") e) false
  pub two-meridians : (n : Coordinate) → good_coordinate north_south n ≡ true → Compared (point n (longitude "E180")) (point n (longitude "E179")) false
  -- "The record keeps letter and digits as written.": what was read is spelled as it was
  pub latitude-kept : (w : List ℕ) → good_coordinate north_south (coordinate_of north_south w) ≡ true → spell_coordinate north_south (coordinate_of north_south w) ≡ w
  pub longitude-kept : (w : List ℕ) → good_coordinate east_west (coordinate_of east_west w) ≡ true → spell_coordinate east_west (coordinate_of east_west w) ≡ w

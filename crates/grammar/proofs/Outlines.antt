-- The points of an outline, word by word: which words go on, which one closes it, and that an open outline can always be closed.
use mathlib.Core.Bool.{Bool, true, false, not}
use mathlib.Core.List.{List, [], ◌∷◌, ◌++◌, append-nil, append_assoc}
use mathlib.Core.Path.{◌≡◌, refl, ap, sym, ◌∙◌}
use Prim.Native.Char.{code}
use Prim.Native.Nat.{ℕ, zero, suc, ◌+◌, ◌-◌, ◌≤◌, ◌<◌}
use native.Mathlib.Omega.{arith}
use lib.Dec.{eqb}
use lib.IntN.{ℤ, pos, nat_abs, ◌-ℤ◌, +ℤ_idr}
use lib.ListN.{length, take, drop, get_or, replicate, length-append, length-drop, take-append-drop}
use lib.Seq.{length-take-le, take-suc}
use borrow.Author.Tests.{le-leb, lt-ltb, eq-eqb, ne_eqb, eqb-true, not-true}
use Rattle.lists.specs.Choice.{both, either}
use Rattle.lists.specs.Lists.{index_of, all_of, same}
use Rattle.lists.specs.Text.{bytes}
use Rattle.lists.proofs.Choice.{by, both_left, both_right, both_true, both-false-left, both-false-right, either_left, either-right, either-false}
use Rattle.lists.proofs.Lists.{all_append, index-clear, index-found}
use Rattle.coordinates.specs.Coordinates.{north_south, east_west, good_coordinate, spell_coordinate, signed_of}
use Rattle.coordinates.specs.Points.{apart, same_point, good_point, no_point, point_words}
use Rattle.coordinates.specs.declared.Coordinate.{Coordinate}
use Rattle.coordinates.specs.declared.Point.{Point}
use Rattle.coordinates.proofs.Axes.{latitude-reads, longitude-reads}
use Rattle.coordinates.proofs.Globe.{apart-self, apart_none}
use Rattle.coordinates.proofs.Range.{signed_range}
use Rattle.message.specs.Limits.{least_points, most_points}
use Rattle.message.specs.Locations.{joined}
use Rattle.message.specs.declared.Extent.{Extent}
use Rattle.message.specs.declared.Location.TheVariants.{Outline}
use Rattle.message.proofs.Empties.{empty-points}
use Rattle.message.proofs.Goodness.{GoodPoint, point-parts, GoodOutline}
use Rattle.grammar.specs.Placing.{closes, same_latitude, room_after, pointed, place_step}
use Rattle.grammar.specs.Placing.Placed.{on, there}
use Rattle.grammar.specs.Records.{outlined}
use Rattle.grammar.specs.Runs.{walk}
use Rattle.grammar.specs.States.{Site, Placing}
use Rattle.grammar.specs.States.Placing.{at_latitude, at_longitude, at_dash}
use Rattle.grammar.specs.States.State.{at_place}
use Rattle.grammar.specs.States.Move.{goes}
use Rattle.grammar.specs.Steps.{closing_at, after, settled, step}
use Rattle.grammar.proofs.Invariant.{unclosed}
use Rattle.grammar.proofs.Moves.{walk_step}
use Rattle.grammar.proofs.LocationLaws.{joined-last}
use Rattle.grammar.proofs.Told.{trailed}

abbrev pub point_at : Coordinate → Coordinate → Point
point_at latitude longitude = record { latitude = latitude; longitude = longitude }

-- One word.

module _ (closing : ℕ) (ps : List Point) where
  pub latitude-on : (c : Coordinate) → good_coordinate north_south c ≡ true → either (room_after ps) (same_latitude ps c) ≡ true
      → place_step closing (at_latitude ps) (spell_coordinate north_south c) ≡ on (at_longitude ps c)
  unfolding place_step
  latitude-on c g r = rw (latitude-reads.forth c g, g, r)

  pub dash-on : place_step closing (at_dash ps) (bytes "-") ≡ on (at_latitude ps)
  unfolding place_step same
  dash-on = refl

  module _ (latitude c : Coordinate) (g : good_coordinate east_west c ≡ true) where
    pub longitude-on : closes ps (point_at latitude c) ≡ false → room_after ps ≡ true
        → place_step closing (at_longitude ps latitude) (spell_coordinate east_west c) ≡ on (at_dash (ps ++ (point_at latitude c ∷ [])))
    unfolding place_step pointed
    longitude-on n r = rw (longitude-reads.forth c g, g, n, r)

    pub longitude-there : closes ps (point_at latitude c) ≡ true → least_points ≤ length ps + 1
        → place_step closing (at_longitude ps latitude) (spell_coordinate east_west c) ≡ there (outlined (ps ++ (point_at latitude c ∷ [])))
    unfolding place_step pointed
    longitude-there n l = rw (longitude-reads.forth c g, g, n, le-leb least_points (length ps + 1) l)

pub first_good : (first : Point) (ps : List Point) → all_of good_point (first ∷ ps) ≡ true → GoodPoint first
unfolding all_of
first_good first ps g = point-parts first (both_left _ _ g)

-- Which points close an outline, and which do not.

pub closes-latitude : (ps : List Point) (p : Point) → closes ps p ≡ true → same_latitude ps p.latitude ≡ true
unfolding same_point
closes-latitude [] p c = c
closes-latitude (first ∷ ps) p c = both_left _ _ c

pub other-latitude : (first : Point) (ps : List Point) (p : Point) → same_latitude (first ∷ ps) p.latitude ≡ false → closes (first ∷ ps) p ≡ false
unfolding same_point
other-latitude first ps p e = both-false-left _ e

-- point 1's own latitude, and its own longitude after a latitude of the same value
pub first-latitude : (first : Point) (ps : List Point) → same_latitude (first ∷ ps) first.latitude ≡ true
first-latitude first ps = eq-eqb (apart (signed_of first.latitude) (signed_of first.latitude)) 0 (apart-self (signed_of first.latitude))

pub first-longitude : (first : Point) (ps : List Point) (latitude : Coordinate) → same_latitude (first ∷ ps) latitude ≡ true
    → closes (first ∷ ps) (point_at latitude first.longitude) ≡ true
unfolding same_point
first-longitude first ps latitude e =
    both_true e (either_left _ (eq-eqb (apart (signed_of first.longitude) (signed_of first.longitude)) 0 (apart-self (signed_of first.longitude))))

-- `E000`, `E001` and `N00`
abbrev pub east : ℕ → Coordinate
east d = record { letter = code "E"; digits = 3; degrees = d; minutes = 0 }

pub east-zero : good_coordinate east_west (east 0) ≡ true
unfolding good_coordinate
east-zero = refl

pub east-one : good_coordinate east_west (east 1) ≡ true
unfolding good_coordinate
east-one = refl

abbrev pub north : ℕ → Coordinate
north d = record { letter = code "N"; digits = 2; degrees = d; minutes = 0 }

pub north-zero : good_coordinate north_south (north 0) ≡ true
unfolding good_coordinate
north-zero = refl

-- of `E000` and `E001` one is on another meridian than point 1
pub record Elsewhere (ps : List Point) (latitude : Coordinate) : Type 0 where
  pub longitude : Coordinate
  pub is_good : good_coordinate east_west longitude ≡ true
  pub is_open : closes ps (point_at latitude longitude) ≡ false

pub elsewhere : (ps : List Point) (latitude : Coordinate) → all_of good_point ps ≡ true → Elsewhere ps latitude
unfolding same_point signed_of
elsewhere [] latitude g = record { longitude = east 0; is_good = east-zero; is_open = refl }
elsewhere (first ∷ ps) latitude g =
    by (eqb (nat_abs z) 0)
    (λ e. record {
      longitude = east 1;
      is_good = east-one;
      is_open = both-false-right (same_latitude (first ∷ ps) latitude) (rw (apart_none z (pos 0) (rw here (eqb-true (nat_abs z) 0 e))));
    })
    (λ e. record {
      longitude = east 0;
      is_good = east-zero;
      is_open = both-false-right (same_latitude (first ∷ ps) latitude) (rw here (either-false e (ne_eqb (nat_abs z) 21600 (λ n. absurd (omega (arith, small))))));
    })
  where
    z : ℤ
    z = signed_of first.longitude

    here : z -ℤ pos 0 ≡ z
    here = +ℤ_idr z

    small : nat_abs z ≤ 10800
    small = signed_range east_west first.longitude (first_good first ps g).longitude

-- a point in the middle of an open outline does not close it
pub middle-open : (ps : List Point) (x : Point) (mid : List Point) → unclosed (ps ++ (x ∷ mid)) ≡ true → closes ps x ≡ false
unfolding all_of
middle-open [] x mid u = refl
middle-open (first ∷ ps) x mid u =
    let f : Point → Bool = λ (q : Point). not (same_point first q) in
    not-true (same_point first x) (both_left (f x) (all_of f mid) (both_right (all_of f ps) (all_of f (x ∷ mid)) (sym (all_append f ps (x ∷ mid)) ∙ u)))

pub middle-good : (ps : List Point) (x : Point) (mid : List Point) → all_of good_point (ps ++ (x ∷ mid)) ≡ true → GoodPoint x
middle-good ps x mid g = first_good x mid (both_right (all_of good_point ps) (all_of good_point (x ∷ mid)) (sym (all_append good_point ps (x ∷ mid)) ∙ g))

-- The words of an outline lead through it.

module _ (site : Site) (p : Placing) (w : List ℕ) (ws : List (List ℕ)) where
  pub walk-on : (next : Placing) → place_step (closing_at site) p w ≡ on next → walk (goes (at_place site p)) (w ∷ ws) ≡ walk (goes (at_place site next)) ws
  unfolding step
  walk-on next e = walk_step (at_place site p) (at_place site next) w ws (ap (settled site w) e)

  pub walk-there : (x : Extent) → place_step (closing_at site) p w ≡ there x → walk (goes (at_place site p)) (w ∷ ws) ≡ walk (goes (after site x)) ws
  unfolding step
  walk-there x e = walk_step (at_place site p) (after site x) w ws (ap (settled site w) e)

module _ (site : Site) (qs : List Point) (p : Point) (ws : List (List ℕ)) (good : all_of good_point qs ≡ true) (end : good_point p ≡ true)
    (room : length qs < most_points) (least : least_points ≤ length qs + 1) (is_open : unclosed qs ≡ true) (shut : closes qs p ≡ true) where
  last-point : walk (goes (at_place site (at_latitude qs))) (point_words p ++ ws) ≡ walk (goes (after site (outlined (qs ++ (p ∷ []))))) ws
  last-point =
      walk-on site (at_latitude qs) (spell_coordinate north_south p.latitude) (spell_coordinate east_west p.longitude ∷ ws) (at_longitude qs p.latitude)
      (latitude-on (closing_at site) qs p.latitude (point-parts p end).latitude (either-right (room_after qs) (closes-latitude qs p shut)))
      ∙ walk-there site (at_longitude qs p.latitude) (spell_coordinate east_west p.longitude) ws (outlined (qs ++ (p ∷ [])))
      (longitude-there (closing_at site) qs p.latitude p.longitude (point-parts p end).longitude shut least)

  points_on : (ps mid : List Point) → ps ++ mid ≡ qs
      → walk (goes (at_place site (at_latitude ps))) (trailed mid ++ point_words p ++ ws) ≡ walk (goes (after site (outlined (qs ++ (p ∷ []))))) ws
  points_on ps [] e = let i : ps ≡ qs = sym (append-nil ps) ∙ e in rw i last-point
  points_on ps (x ∷ mid) e =
      let g : GoodPoint x = middle-good ps x mid (rw e good) in
      let r : room_after ps ≡ true = lt-ltb (length ps + 1) most_points (omega (arith, length-append ps (x ∷ mid), ap length e)) in
      let vs : List (List ℕ) = trailed mid ++ point_words p ++ ws in
      walk-on site (at_latitude ps) (spell_coordinate north_south x.latitude) (spell_coordinate east_west x.longitude ∷ bytes "-" ∷ vs) (at_longitude ps x.latitude)
      (latitude-on (closing_at site) ps x.latitude g.latitude (either_left _ r))
      ∙ (walk-on site (at_longitude ps x.latitude) (spell_coordinate east_west x.longitude) (bytes "-" ∷ vs) (at_dash (ps ++ (x ∷ [])))
      (longitude-on (closing_at site) ps x.latitude x.longitude g.longitude (middle-open ps x mid (rw e is_open)) r)
      ∙ (walk-on site (at_dash (ps ++ (x ∷ []))) (bytes "-") vs (at_latitude (ps ++ (x ∷ []))) (dash-on (closing_at site) (ps ++ (x ∷ [])))
      ∙ points_on (ps ++ (x ∷ [])) mid (append_assoc ps (x ∷ []) mid ∙ e)))

  -- from the first point to the one that closes it
  pub outline-on : walk (goes (at_place site (at_latitude []))) (joined (qs ++ (p ∷ [])) ++ ws) ≡ walk (goes (after site (outlined (qs ++ (p ∷ []))))) ws
  outline-on = rw (joined-last qs p) (points_on [] qs refl)

-- What a good outline is: points that do not close it, and one that does.

pub record Outlined (n : ℕ) (ps : List Point) : Type 0 where
  pub before : List Point
  pub last : Point
  pub points : all_of good_point before ≡ true
  pub end : good_point last ≡ true
  pub room : length before < most_points
  pub least : least_points ≤ length before + 1
  pub is_open : unclosed before ≡ true
  pub shut : closes before last ≡ true
  pub taken : take n ps ≡ before ++ (last ∷ [])
  pub whole : record { location = Outline n; points = ps } ≡ outlined (before ++ (last ∷ []))

-- the points read, and the empty places after them
outlined-is : (n : ℕ) (ps qs : List Point) → GoodOutline n ps → take n ps ≡ qs → record { location = Outline n; points = ps } ≡ outlined qs
outlined-is n ps qs o e = λ i. record { location = Outline (count i); points = all i }
  where
    count : n ≡ length qs
    count = rw (← e) (sym (length-take-le n ps (omega arith)))

    rest : length (drop n ps) ≡ most_points - length qs
    rest = omega (arith, length-drop n ps, count)

    all : ps ≡ qs ++ replicate (most_points - length qs) no_point
    all = sym (take-append-drop n ps) ∙ (rw (e, ← rest) (ap (λ (r : List Point). qs ++ r) (empty-points (drop n ps) o.unused)))

pub outline-told : (n : ℕ) (ps : List Point) → GoodOutline n ps → Outlined n ps
unfolding all_of
outline-told zero ps o = absurd (omega arith)
outline-told (suc zero) ps o = absurd (omega arith)
outline-told (suc (suc m)) [] o = absurd (omega arith)
outline-told (suc (suc m)) (first ∷ ps) o = record {
  before = first ∷ take m ps;
  last = last;
  points = both_left _ _ good;
  end = both_left _ _ (both_right (all_of good_point (first ∷ take m ps)) (all_of good_point (last ∷ [])) good);
  room = omega (arith, size);
  least = omega (arith, size);
  is_open = rw at-m at (index-clear (same_point first) ps);
  shut = rw at-m at (index-found (same_point first) ps no_point (omega (arith, at-m)));
  taken = taken;
  whole = outlined-is (suc (suc m)) (first ∷ ps) (first ∷ take m ps ++ (last ∷ [])) o taken;
}
  where
    last : Point
    last = get_or ps m no_point

    at-m : index_of (same_point first) ps ≡ m
    at-m = omega arith

    size : length (take m ps) ≡ m
    size = length-take-le m ps (omega arith)

    taken : first ∷ take (suc m) ps ≡ (first ∷ take m ps) ++ (last ∷ [])
    taken = ap (λ (r : List Point). first ∷ r) (take-suc ps m no_point (omega arith))

    good : both (all_of good_point (first ∷ take m ps)) (all_of good_point (last ∷ [])) ≡ true
    good = sym (all_append good_point (first ∷ take m ps) (last ∷ [])) ∙ (sym (ap (all_of good_point) taken) ∙ o.points)

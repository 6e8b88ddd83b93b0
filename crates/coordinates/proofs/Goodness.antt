-- What a good coordinate is, as the paper's sentences; and that an empty one is all zero and never good.
use mathlib.Core.Bool.{true, false}
use mathlib.Core.Logic.{◌⊎◌, inl, inr}
use mathlib.Core.Path.{◌≡◌, refl}
use Prim.Native.Nat.{◌+◌, ◌*◌, ◌≤◌, ◌<◌}
use native.Mathlib.Omega.{arith}
use lib.Dec.{eqb, leb, ltb}
use borrow.Author.Tests.{eqb-true, leb-true, ltb-true, eq-eqb, ne_eqb, le-leb, lt-ltb}
use Rattle.lists.specs.Choice.{both, either}
use Rattle.lists.proofs.Choice.{by, clash, both_left, both_right, both_true, both-false-left, either_left, either-right, either-cases, either-false}
use Rattle.coordinates.specs.Coordinates.{Axis, written, counted, good_coordinate, empty_coordinate, no_coordinate}
use Rattle.coordinates.specs.Points.{empty_point, no_point}
use Rattle.coordinates.specs.declared.Coordinate.{Coordinate}
use Rattle.coordinates.specs.declared.Point.{Point}

pub record Good (a : Axis) (c : Coordinate) : Type 0 where
  pub side : (c.letter ≡ a.plus) ⊎ (c.letter ≡ a.minus)
  pub form : ((c.digits ≡ a.width) × (c.minutes ≡ 0)) ⊎ (c.digits ≡ a.width + 2)
  pub degrees : c.degrees ≤ a.greatest
  pub minutes : c.minutes ≤ 59
  pub end : (c.degrees < a.greatest) ⊎ (c.minutes ≡ 0)

module _ (a : Axis) (c : Coordinate) where
  pub good-parts : good_coordinate a c ≡ true → Good a c
  unfolding good_coordinate
  good-parts g = record {
    side = either-cases (eqb c.letter a.plus) _ (both_left _ _ said) (λ e. inl (eqb-true c.letter a.plus e)) (λ e. inr (eqb-true c.letter a.minus e));
    form =
        either-cases (both (eqb c.digits a.width) (eqb c.minutes 0)) _ (both_right (either (eqb c.letter a.plus) (eqb c.letter a.minus)) _ said)
        (λ e. inl (eqb-true c.digits a.width (both_left _ _ e), eqb-true c.minutes 0 (both_right (eqb c.digits a.width) _ e)))
        (λ e. inr (eqb-true c.digits (a.width + 2) e));
    degrees = leb-true c.degrees a.greatest (both_left _ _ sum);
    minutes = leb-true c.minutes 59 (both_left _ _ rest);
    end =
        either-cases (ltb c.degrees a.greatest) _ (both_right (leb c.minutes 59) _ rest)
        (λ e. inl (ltb-true c.degrees a.greatest e))
        (λ e. inr (eqb-true c.minutes 0 e));
  }
    where
      said : written a c ≡ true
      said = both_left (written a c) (counted a c) g

      sum : counted a c ≡ true
      sum = both_right (written a c) (counted a c) g

      rest : both (leb c.minutes 59) (either (ltb c.degrees a.greatest) (eqb c.minutes 0)) ≡ true
      rest = both_right (leb c.degrees a.greatest) _ sum

  pub good-is : Good a c → good_coordinate a c ≡ true
  unfolding good_coordinate
  good-is g =
      both_true (both_true (sides g.side) (forms g.form))
      (both_true (le-leb c.degrees a.greatest g.degrees) (both_true (le-leb c.minutes 59 g.minutes) (ends g.end)))
    where
      sides : (c.letter ≡ a.plus) ⊎ (c.letter ≡ a.minus) → either (eqb c.letter a.plus) (eqb c.letter a.minus) ≡ true
      sides (inl e) = either_left _ (eq-eqb c.letter a.plus e)
      sides (inr e) = either-right (eqb c.letter a.plus) (eq-eqb c.letter a.minus e)

      forms : ((c.digits ≡ a.width) × (c.minutes ≡ 0)) ⊎ (c.digits ≡ a.width + 2)
          → either (both (eqb c.digits a.width) (eqb c.minutes 0)) (eqb c.digits (a.width + 2)) ≡ true
      forms (inl (e, m)) = either_left _ (both_true (eq-eqb c.digits a.width e) (eq-eqb c.minutes 0 m))
      forms (inr e) = either-right (both (eqb c.digits a.width) (eqb c.minutes 0)) (eq-eqb c.digits (a.width + 2) e)

      ends : (c.degrees < a.greatest) ⊎ (c.minutes ≡ 0) → either (ltb c.degrees a.greatest) (eqb c.minutes 0) ≡ true
      ends (inl h) = either_left _ (lt-ltb c.degrees a.greatest h)
      ends (inr e) = either-right (ltb c.degrees a.greatest) (eq-eqb c.minutes 0 e)

  -- in minutes, it lies within the greatest degree
  pub good-size : good_coordinate a c ≡ true → c.degrees * 60 + c.minutes ≤ a.greatest * 60
  good-size g = within (good-parts g) (good-parts g).end
    where
      within : Good a c → (c.degrees < a.greatest) ⊎ (c.minutes ≡ 0) → c.degrees * 60 + c.minutes ≤ a.greatest * 60
      within t (inl h) = omega (arith, t.minutes)
      within t (inr e) = omega (arith, t.degrees)

-- Empty ones.

pub empty-is : (c : Coordinate) → empty_coordinate c ≡ true → c ≡ no_coordinate
unfolding empty_coordinate
empty-is c e = λ i. record {
  letter = eqb-true c.letter 0 (both_left _ _ e) i;
  digits = eqb-true c.digits 0 (both_left _ _ rest) i;
  degrees = eqb-true c.degrees 0 (both_left _ _ last) i;
  minutes = eqb-true c.minutes 0 (both_right (eqb c.degrees 0) _ last) i;
}
  where
    rest : both (eqb c.digits 0) (both (eqb c.degrees 0) (eqb c.minutes 0)) ≡ true
    rest = both_right (eqb c.letter 0) _ e

    last : both (eqb c.degrees 0) (eqb c.minutes 0) ≡ true
    last = both_right (eqb c.digits 0) _ rest

pub empty-point-is : (p : Point) → empty_point p ≡ true → p ≡ no_point
unfolding empty_point
empty-point-is p e = λ i. record {
  latitude = empty-is p.latitude (both_left _ _ e) i;
  longitude = empty-is p.longitude (both_right (empty_coordinate p.latitude) _ e) i;
}

-- none is empty: with the law before it, the empty one is that one alone
pub none-empty : empty_coordinate no_coordinate ≡ true
unfolding empty_coordinate
none-empty = refl

pub no-point-empty : empty_point no_point ≡ true
unfolding empty_point
no-point-empty = both_true none-empty none-empty

-- on an axis whose letters are not 0, none is good; so no coordinate is both good and empty
module _ (a : Axis) (p : 0 < a.plus) (m : 0 < a.minus) where
  pub none-bad : good_coordinate a no_coordinate ≡ false
  unfolding good_coordinate
  none-bad = both-false-left _ (both-false-left _ (either-false (ne_eqb 0 a.plus (λ e. absurd (omega arith))) (ne_eqb 0 a.minus (λ e. absurd (omega arith)))))

  pub empty-not-good : (c : Coordinate) → empty_coordinate c ≡ true → good_coordinate a c ≡ false
  empty-not-good c e = rw (empty-is c e) none-bad

  pub good-not-empty : (c : Coordinate) → good_coordinate a c ≡ true → empty_coordinate c ≡ false
  good-not-empty c g = by (empty_coordinate c) (λ e. clash (good_coordinate a c) g (empty-not-good c e)) (λ e. e)

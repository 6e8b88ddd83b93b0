-- What is promised of coordinates holds, by the laws of crate coordinates.
use mathlib.Core.Bool.{true, false}
use mathlib.Core.Logic.{◌↔◌, inl, inr}
use mathlib.Core.Path.{◌≡◌, refl, sym, subst, ◌∙◌}
use Prim.Native.Char.{code}
use Prim.Native.Nat.{ℕ, ◌+◌, ◌*◌, ◌≤◌}
use lib.Dec.{eqb}
use lib.IntN.{ℤ, pos, neg_ℤ, nat_abs}
use Rattle.lists.specs.Choice.{either}
use Rattle.lists.specs.Lists.{all_of}
use Rattle.lists.specs.Base.{worth_after}
use Rattle.lists.proofs.Choice.{both_true, both-false-right}
use Rattle.figures.specs.Figures.{figures_of}
use Rattle.figures.proofs.ReadsLaws.{reads-spelled}
use Rattle.coordinates.specs.Coordinates.{Axis, north_south, east_west, coordinate_of, good_coordinate, signed_of}
use Rattle.coordinates.specs.Points.{apart, point, good_point, same_point}
use Rattle.coordinates.specs.declared.Coordinate.{Coordinate}
use Rattle.coordinates.proofs.Axes.{latitude-reads, longitude-reads}
use Rattle.coordinates.proofs.Range.{signed_range, abs-between, between-abs, latitude-every, longitude-every}
use Rattle.coordinates.proofs.Globe.{Meridian, same-point-is, same-point-refl, same-point-sym, same-point-trans}
use Rattle.coordinates.proofs.Cases.{n00, s0000, n90, s90, e180, w18000, n00-is-s0000, e180-is-w18000}
use Rattle.promises.specs.Coordinates.{IsValue, Within, OneMeridian, latitude, longitude, Coordinates}
use Rattle.promises.specs.Coordinates.OneMeridian.{equal, east-west, west-east}

-- Signed values.

module _ (c : Coordinate) where
  positive : (x : ℕ) → either (eqb x (code "S")) (eqb x (code "W")) ≡ false → c.letter ≡ x → signed_of c ≡ pos (c.degrees * 60 + c.minutes)
  unfolding signed_of
  positive x s e = rw (e, s)

  negative : (x : ℕ) → either (eqb x (code "S")) (eqb x (code "W")) ≡ true → c.letter ≡ x → signed_of c ≡ neg_ℤ (pos (c.degrees * 60 + c.minutes))
  unfolding signed_of
  negative x s e = rw (e, s)

-- the range of an axis, where every value that is no greater is some coordinate's
exactly : (a : Axis) → ((z : ℤ) → nat_abs z ≤ a.greatest * 60 → (c : Coordinate) × ((good_coordinate a c ≡ true) × (signed_of c ≡ z)))
    → (z : ℤ) → IsValue a z ↔ Within (a.greatest * 60) z
exactly a every z = (
  λ v. subst (Within (a.greatest * 60)) v.valued (abs-between (a.greatest * 60) (signed_of v.coordinate) (signed_range a v.coordinate v.good)),
  λ w. let c = every z (between-abs (a.greatest * 60) z w) in record { coordinate = c.0; good = c.1.0; valued = c.1.1 },
)

-- Points.

one-meridian : {x y : ℤ} → Meridian x y ↔ OneMeridian x y
one-meridian {x} {y} = (forth, back)
  where
    forth : Meridian x y → OneMeridian x y
    forth (inl e) = equal e
    forth (inr (inl (e, f))) = east-west e f
    forth (inr (inr (e, f))) = west-east e f

    back : OneMeridian x y → Meridian x y
    back (equal e) = inl e
    back (east-west e f) = inr (inl (e, f))
    back (west-east e f) = inr (inr (e, f))

point-good : (n e : Coordinate) → good_coordinate north_south n ≡ true → good_coordinate east_west e ≡ true → good_point (point n e) ≡ true
unfolding good_point
point-good n e g h = both_true g h

e179-good : good_coordinate east_west (longitude "E179") ≡ true
unfolding coordinate_of good_coordinate figures_of all_of worth_after
e179-good = refl

two-poles : (e : Coordinate) → same_point (point (latitude "N90") e) (point (latitude "S90") e) ≡ false
unfolding same_point coordinate_of good_coordinate signed_of figures_of all_of worth_after
two-poles e = refl

two-meridians : (n : Coordinate) → same_point (point n (longitude "E180")) (point n (longitude "E179")) ≡ false
unfolding same_point coordinate_of good_coordinate signed_of figures_of all_of worth_after
two-meridians n = both-false-right (eqb (apart (signed_of n) (signed_of n)) 0) refl

pub coordinates : Coordinates
coordinates =
    record {
      values = λ c value. (λ m. m.allowed, λ e. record { lent = tt; allowed = e });
      compares = λ p q answer. (λ m. m.allowed, λ e. record { lent = tt; allowed = e });
      north = λ c. positive c (code "N") refl;
      south = λ c. negative c (code "S") refl;
      east = λ c. positive c (code "E") refl;
      west = λ c. negative c (code "W") refl;
      latitudes = exactly north_south latitude-every;
      longitudes = exactly east_west longitude-every;
      equal-exactly =
          λ p q g h.
          let same = same-point-is p q g h in
          (λ s. let o = same.0 s in (o.0, one-meridian.0 o.1), λ o. same.1 (o.0, one-meridian.1 o.1));
      reflexive = same-point-refl;
      symmetric = λ p q s. sym (same-point-sym p q) ∙ s;
      transitive = same-point-trans;
      one-equator = λ e g. record { first = point-good _ e n00.good g; second = point-good _ e s0000.good g; same = n00-is-s0000 e };
      one-meridian = λ n g. record { first = point-good n _ g e180.good; second = point-good n _ g w18000.good; same = e180-is-w18000 n };
      two-poles = λ e g. record { first = point-good _ e n90.good g; second = point-good _ e s90.good g; same = two-poles e };
      two-meridians = λ n g. record { first = point-good n _ g e180.good; second = point-good n _ g e179-good; same = two-meridians n };
      latitude-kept = reads-spelled latitude-reads;
      longitude-kept = reads-spelled longitude-reads;
    }

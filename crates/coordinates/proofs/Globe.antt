-- 01, "Points are equal when their latitudes are equal and their longitudes differ by 0 or 21,600": of good points, when the signed
-- latitudes are one and the signed longitudes are one, or the two ends. It is an equivalence of good points.
use mathlib.Core.Bool.{true}
use mathlib.Core.Logic.{◌⊎◌, inl, inr, ◌↔◌}
use mathlib.Core.Path.{◌≡◌, refl, sym, ap, ◌∙◌}
use Prim.Native.Nat.{ℕ, zero, suc, ◌+◌, ◌≤◌, ◌<◌}
use native.Mathlib.Omega.{arith}
use lib.Dec.{eqb, ltb, lit<}
use lib.IntN.{ℤ, pos, negsuc, neg_ℤ, nat_abs, sub_ℕ, ◌-ℤ◌, +ℤ_idl, +ℤ_comm, +ℤ_invr, -ℤ-+ℤ_cancel, neg_ℤ-+ℤ, neg_ℤ-neg_ℤ, pos-ne-negsuc}
use borrow.Author.Tests.{ltb-true, eqb-true, eq-eqb}
use Rattle.lists.specs.Choice.{either}
use Rattle.lists.proofs.Choice.{by, both_left, both_right, both_true, either_left, either-cases}
use Rattle.coordinates.specs.Coordinates.{north_south, east_west, good_coordinate, signed_of}
use Rattle.coordinates.specs.Points.{apart, same_point, good_point}
use Rattle.coordinates.specs.declared.Point.{Point}
use Rattle.coordinates.proofs.Minutes.{abs_neg}
use Rattle.coordinates.proofs.Range.{signed_range}

-- How far apart two signed values are.

pub apart-self : (z : ℤ) → apart z z ≡ 0
apart-self z = ap nat_abs (+ℤ_invr z)

pub apart-sym : (x y : ℤ) → apart x y ≡ apart y x
apart-sym x y =
    let e : neg_ℤ (y -ℤ x) ≡ x -ℤ y = neg_ℤ-+ℤ y (neg_ℤ x) ∙ (rw (neg_ℤ-neg_ℤ x) (+ℤ_comm (neg_ℤ y) x)) in
    rw e at (abs_neg (y -ℤ x))

abs-zero : (z : ℤ) → nat_abs z ≡ 0 → z ≡ pos 0
abs-zero (pos n) e = ap pos e
abs-zero (negsuc n) e = absurd (omega arith)

pub apart_none : (x y : ℤ) → apart x y ≡ 0 → x ≡ y
apart_none x y e = sym (-ℤ-+ℤ_cancel x y) ∙ (rw (abs-zero (x -ℤ y) e) (+ℤ_idl y))

-- two values of size n at most that are 2 n apart are the two ends

abs-subℕ : (a b n : ℕ) → a ≤ n → b ≤ n → nat_abs (sub_ℕ a b) ≤ n
abs-subℕ a b n h k = by (ltb a b) (λ e. rw e (omega (arith, ltb-true a b e))) (λ e. rw e (omega arith))

pub apart-ends : (n : ℕ) → 0 < n → (x y : ℤ) → nat_abs x ≤ n → nat_abs y ≤ n → apart x y ≡ n + n
    → ((x ≡ pos n) × (y ≡ neg_ℤ (pos n))) ⊎ ((x ≡ neg_ℤ (pos n)) × (y ≡ pos n))
apart-ends n l (pos a) (pos zero) h k e = absurd (omega arith)
apart-ends n l (pos a) (pos (suc b)) h k e = absurd (omega (arith, abs-subℕ a (suc b) n h k))
apart-ends n l (pos a) (negsuc b) h k e =
    let p : a ≡ n = omega arith in
    let q : n ≡ suc b = omega arith in
    inl (ap pos p, rw q)
apart-ends n l (negsuc a) (pos zero) h k e = absurd (omega (arith, abs-subℕ 0 (suc a) n k h))
apart-ends n l (negsuc a) (pos (suc b)) h k e =
    let p : n ≡ suc a = omega arith in
    let q : suc b ≡ n = omega arith in
    inr (rw p, ap pos q)
apart-ends n l (negsuc a) (negsuc b) h k e = absurd (omega (arith, abs-subℕ (suc b) (suc a) n k h))

-- One meridian: one signed value, or the two ends.

abbrev pub Meridian : ℤ → ℤ → Type 0
Meridian x y = (x ≡ y) ⊎ (((x ≡ pos 10800) × (y ≡ neg_ℤ (pos 10800))) ⊎ ((x ≡ neg_ℤ (pos 10800)) × (y ≡ pos 10800)))

meridian-apart : (x y : ℤ) → Meridian x y → either (eqb (apart x y) 0) (eqb (apart x y) 21600) ≡ true
meridian-apart x y (inl e) = either_left _ (eq-eqb (apart x y) 0 (rw e (apart-self y)))
meridian-apart x y (inr (inl (e, f))) = rw (e, f)
meridian-apart x y (inr (inr (e, f))) = rw (e, f)

apart-meridian : (x y : ℤ) → nat_abs x ≤ 10800 → nat_abs y ≤ 10800 → either (eqb (apart x y) 0) (eqb (apart x y) 21600) ≡ true → Meridian x y
apart-meridian x y h k t = either-cases (eqb (apart x y) 0) (eqb (apart x y) 21600) t
    (λ e. inl (apart_none x y (eqb-true (apart x y) 0 e)))
    (λ e. inr (apart-ends 10800 (lit< tt) x y h k (eqb-true (apart x y) 21600 e)))

meridian-trans : (x y z : ℤ) → Meridian x y → Meridian y z → Meridian x z
meridian-trans x y z (inl e) m = rw e m
meridian-trans x y z (inr m) (inl e) = rw (← e) (inr m)
meridian-trans x y z (inr (inl (e, f))) (inr (inl (g, h))) = absurd (pos-ne-negsuc 10800 10799 (sym g ∙ f))
meridian-trans x y z (inr (inl (e, f))) (inr (inr (g, h))) = inl (e ∙ sym h)
meridian-trans x y z (inr (inr (e, f))) (inr (inl (g, h))) = inl (e ∙ sym h)
meridian-trans x y z (inr (inr (e, f))) (inr (inr (g, h))) = absurd (pos-ne-negsuc 10800 10799 (sym f ∙ g))

-- Points.

abbrev pub OnePlace : Point → Point → Type 0
OnePlace p q = (signed_of p.latitude ≡ signed_of q.latitude) × Meridian (signed_of p.longitude) (signed_of q.longitude)

eastern : (p : Point) → good_point p ≡ true → nat_abs (signed_of p.longitude) ≤ 10800
unfolding good_point
eastern p g = signed_range east_west p.longitude (both_right (good_coordinate north_south p.latitude) (good_coordinate east_west p.longitude) g)

pub one-place-same : (p q : Point) → OnePlace p q → same_point p q ≡ true
unfolding same_point
one-place-same p q (e, m) =
    both_true (eq-eqb (apart (signed_of p.latitude) (signed_of q.latitude)) 0 (rw e (apart-self (signed_of q.latitude))))
    (meridian-apart (signed_of p.longitude) (signed_of q.longitude) m)

pub same-point-is : (p q : Point) → good_point p ≡ true → good_point q ≡ true → (same_point p q ≡ true) ↔ OnePlace p q
unfolding same_point
same-point-is p q g h = (forth, one-place-same p q)
  where
    x : ℤ
    x = signed_of p.latitude

    y : ℤ
    y = signed_of q.latitude

    forth : same_point p q ≡ true → OnePlace p q
    forth s = (
      apart_none x y (eqb-true (apart x y) 0 (both_left _ _ s)),
      apart-meridian (signed_of p.longitude) (signed_of q.longitude) (eastern p g) (eastern q h) (both_right (eqb (apart x y) 0) _ s),
    )

pub same-point-refl : (p : Point) → same_point p p ≡ true
same-point-refl p = one-place-same p p (refl, inl refl)

pub same-point-sym : (p q : Point) → same_point p q ≡ same_point q p
unfolding same_point
same-point-sym p q = rw (apart-sym (signed_of p.latitude) (signed_of q.latitude), apart-sym (signed_of p.longitude) (signed_of q.longitude))

pub same-point-trans : (p q r : Point) → good_point p ≡ true → good_point q ≡ true → good_point r ≡ true → same_point p q ≡ true → same_point q r ≡ true → same_point p r ≡ true
same-point-trans p q r g h k s t = joined ((same-point-is p q g h).0 s) ((same-point-is q r h k).0 t)
  where
    joined : OnePlace p q → OnePlace q r → same_point p r ≡ true
    joined (e, m) (f, n) = one-place-same p r (e ∙ f, meridian-trans (signed_of p.longitude) (signed_of q.longitude) (signed_of r.longitude) m n)

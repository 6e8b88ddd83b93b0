-- 01, "Each coordinate also has a signed value in minutes, north and east positive: -5,400 to 5,400 and -10,800 to 10,800":
-- a good coordinate's value lies there, and every such value is a good coordinate's.
use mathlib.Core.Bool.{true, false}
use mathlib.Core.Logic.{◌⊎◌, inl, inr}
use mathlib.Core.Path.{◌≡◌, refl, ap}
use Prim.Native.Char.{code}
use Prim.Native.Nat.{ℕ, zero, suc, ◌+◌, ◌*◌, ◌/◌, ◌%◌, ◌≤◌, ◌<◌, zero-le, suc-le-suc}
use native.Mathlib.Omega.{arith}
use lib.Dec.{eqb, ltb, le→leb, leb→le}
use lib.IntN.{ℤ, pos, negsuc, neg_ℤ, nat_abs}
use lib.Signed.{◌≤ℤ◌}
use borrow.Author.Tests.{ltb-true, ltb-false}
use Rattle.lists.specs.Choice.{either}
use Rattle.lists.proofs.Choice.{by}
use Rattle.coordinates.specs.Coordinates.{Axis, north_south, east_west, good_coordinate, signed_of}
use Rattle.coordinates.specs.declared.Coordinate.{Coordinate}
use Rattle.coordinates.proofs.Goodness.{good-is, good-size}
use Rattle.coordinates.proofs.Minutes.{signed-size}

pub signed_range : (a : Axis) (c : Coordinate) → good_coordinate a c ≡ true → nat_abs (signed_of c) ≤ a.greatest * 60
signed_range a c g = rw (signed-size c) (good-size a c g)

-- a value of size n at most is one from -n to n
pub abs-between : (n : ℕ) (z : ℤ) → nat_abs z ≤ n → (neg_ℤ (pos n) ≤ℤ z) × (z ≤ℤ pos n)
abs-between zero (pos k) h = (record { le = le→leb zero k zero-le }, record { le = le→leb k zero h })
abs-between (suc n) (pos k) h = (record { le = tt }, record { le = le→leb k (suc n) h })
abs-between zero (negsuc k) h = absurd (omega arith)
abs-between (suc n) (negsuc k) h = (record { le = le→leb k n (omega arith) }, record { le = tt })

pub between-abs : (n : ℕ) (z : ℤ) → (neg_ℤ (pos n) ≤ℤ z) × (z ≤ℤ pos n) → nat_abs z ≤ n
between-abs n (pos k) h = leb→le k n h.1.le
between-abs zero (negsuc k) h = absurd h.0.le
between-abs (suc n) (negsuc k) h = suc-le-suc (leb→le k n h.0.le)

-- Every value in the range. The coordinate of n minutes on one side of an axis, written with degrees and minutes.
abbrev at_minute : Axis → ℕ → ℕ → Coordinate
at_minute a x n = record { letter = x; digits = a.width + 2; degrees = n / 60; minutes = n % 60 }

at-minute-good : (a : Axis) (x n : ℕ) → (x ≡ a.plus) ⊎ (x ≡ a.minus) → n ≤ a.greatest * 60 → good_coordinate a (at_minute a x n) ≡ true
at-minute-good a x n s h = good-is a (at_minute a x n) (record { side = s; form = inr refl; degrees = omega arith; minutes = omega arith; end = end })
  where
    end : (n / 60 < a.greatest) ⊎ (n % 60 ≡ 0)
    end = by (ltb (n / 60) a.greatest) (λ e. inl (ltb-true (n / 60) a.greatest e)) (λ e. inr (omega (arith, ltb-false (n / 60) a.greatest e)))

-- the side of the negative values is that of S or of W
every : (a : Axis) → either (eqb a.plus (code "S")) (eqb a.plus (code "W")) ≡ false → either (eqb a.minus (code "S")) (eqb a.minus (code "W")) ≡ true
    → (z : ℤ) → nat_abs z ≤ a.greatest * 60 → (c : Coordinate) × ((good_coordinate a c ≡ true) × (signed_of c ≡ z))
unfolding signed_of
every a p m (pos n) h = (at_minute a a.plus n, (at-minute-good a a.plus n (inl refl) h, rw p (ap pos (omega arith))))
every a p m (negsuc n) h = (at_minute a a.minus (suc n), (at-minute-good a a.minus (suc n) (inr refl) h, rw m (ap (λ (k : ℕ). neg_ℤ (pos k)) same)))
  where
    same : suc n / 60 * 60 + suc n % 60 ≡ suc n
    same = omega arith

pub latitude-every : (z : ℤ) → nat_abs z ≤ 5400 → (c : Coordinate) × ((good_coordinate north_south c ≡ true) × (signed_of c ≡ z))
latitude-every = every north_south refl refl

pub longitude-every : (z : ℤ) → nat_abs z ≤ 10800 → (c : Coordinate) × ((good_coordinate east_west c ≡ true) × (signed_of c ≡ z))
longitude-every = every east_west refl refl

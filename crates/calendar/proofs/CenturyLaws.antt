-- The hundred years: their 1,200 months end with day 36,524, and each day up to it falls in one of them.
use mathlib.Core.Bool.{true, false}
use mathlib.Core.Path.{◌≡◌, refl}
use Prim.Native.Nat.{ℕ, zero, suc, ◌≤◌, ◌<◌}
use native.Mathlib.Omega.{arith}
use lib.Dec.{ltb}
use borrow.Author.Tests.{ltb-true, ltb-false}
use Rattle.lists.proofs.Choice.{by}
use Rattle.calendar.specs.Gregorian.{month_length, first_day, months, days, Falls}

-- "to the end of 2099"
pub first-last : first_day months ≡ days
unfolding month_length first_day
first-last = refl

month-below : (day n : ℕ) → day < first_day n → (m : ℕ) × (m < n) × (first_day m ≤ day) × (day < first_day (suc m))
unfolding first_day
month-below day zero h = absurd (omega arith)
month-below day (suc n) h =
    by (ltb day (first_day n))
    (λ (t : ltb day (first_day n) ≡ true).
    let r = month-below day n (ltb-true day (first_day n) t) in
    (r.0, omega (arith, r.1), r.2, r.3))
    (λ (t : ltb day (first_day n) ≡ false). (n, omega arith, ltb-false day (first_day n) t, h))

pub falls-some : (day : ℕ) → day < days → (m : ℕ) × Falls day m
falls-some day h =
    let r = month-below day months (omega (arith, first-last)) in
    (r.0, record { within = r.1; from = r.2; until = r.3 })

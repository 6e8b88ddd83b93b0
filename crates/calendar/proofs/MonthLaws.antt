-- The months of the Gregorian rule: how long they are, where they begin, and that a day falls in no more than one.
use mathlib.Core.Bool.{Bool, true, false}
use mathlib.Core.Path.{◌≡◌, refl, ap, ◌∙◌}
use Prim.Native.Nat.{ℕ, zero, suc, ◌+◌, ◌-◌, ◌/◌, ◌%◌, ◌≤◌, ◌<◌}
use native.Mathlib.Omega.{arith}
use lib.Dec.{leb, ltb, eqb}
use lib.ListN.{get_or}
use borrow.Author.Tests.{leb-true, ltb-true, ltb-false}
use Rattle.lists.specs.Choice.{pick, both}
use Rattle.lists.specs.Lists.{all_of}
use Rattle.lists.proofs.Choice.{by, both_left, pick_true, pick-false}
use Rattle.lists.proofs.Lists.{all-at}
use Rattle.calendar.specs.Gregorian.{lengths, leap, month_length, first_day, months, Falls}
use Rattle.calendar.specs.Instants.{day_from, day_of_month}

-- How long a month is.

abbrev usual : ℕ → Bool
usual n = both (leb 28 n) (leb n 31)

all-usual : all_of usual lengths ≡ true
unfolding all_of
all-usual = refl

length-usual : (b : Bool) (n k : ℕ) → usual n ≡ true → k < 12 → usual (pick b n (get_or lengths k 0)) ≡ true
length-usual true n k e h = e
length-usual false n k e h = all-at usual lengths 0 all-usual k h

month-usual : (m : ℕ) → usual (month_length m) ≡ true
unfolding month_length
month-usual m = length-usual (both (eqb (m % 12) 1) (leap (2000 + m / 12))) _ (m % 12) refl (omega arith)

pub month-least : (m : ℕ) → 28 ≤ month_length m
month-least m = leb-true 28 (month_length m) (both_left (leb 28 (month_length m)) (leb (month_length m) 31) (month-usual m))

-- Where it begins.

pub first_next : (m : ℕ) → first_day (suc m) ≡ first_day m + month_length m
unfolding first_day
first_next m = refl

pub first-zero : first_day 0 ≡ 0
unfolding first_day
first-zero = refl

pub first-gap : (m n : ℕ) → m < n → first_day m + 28 ≤ first_day n
first-gap m zero h = absurd (omega arith)
first-gap m (suc n) h =
    by (ltb m n)
    (λ (t : ltb m n ≡ true). omega (arith, first-gap m n (ltb-true m n t), first_next n))
    (λ (t : ltb m n ≡ false).
    let here : m ≡ n = omega (arith, ltb-false m n t) in
    omega (arith, ap first_day here, first_next n, month-least n))

pub first-order : (m n : ℕ) → m ≤ n → first_day m ≤ first_day n
first-order m n h =
    by (ltb m n)
    (λ (t : ltb m n ≡ true). omega (arith, first-gap m n (ltb-true m n t)))
    (λ (t : ltb m n ≡ false).
    let here : m ≡ n = omega (arith, ltb-false m n t) in
    omega (arith, ap first_day here))

-- The month of a day.

not-later : {day m n : ℕ} → Falls day m → Falls day n → m < n → ⊥
not-later {day} {m} {n} p q h = omega (arith, first-order (suc m) n h)

pub falls-only : {day m n : ℕ} → Falls day m → Falls day n → m ≡ n
falls-only {day} {m} {n} p q =
    by (ltb m n)
    (λ (t : ltb m n ≡ true). absurd (not-later p q (ltb-true m n t)))
    (λ (t : ltb m n ≡ false).
    by (ltb n m)
    (λ (u : ltb n m ≡ true). absurd (not-later q p (ltb-true n m u)))
    (λ (u : ltb n m ≡ false). omega (arith, ltb-false m n t, ltb-false n m u)))

-- What day of its month it is: the months up to p are passed.

module _ (day m : ℕ) (f : Falls day m) where
  -- a month that is not passed has the day
  here : (p : ℕ) → p ≤ m → day - first_day p < month_length p → p ≡ m
  here p h l =
      by (ltb p m)
      (λ (t : ltb p m ≡ true). absurd (omega (arith, first-order (suc p) m (ltb-true p m t), first_next p)))
      (λ (t : ltb p m ≡ false). omega (arith, ltb-false p m t))

  -- a month that is passed is an earlier one
  past : (p : ℕ) → p ≤ m → month_length p ≤ day - first_day p → p < m
  past p h l =
      by (ltb p m)
      (λ (t : ltb p m ≡ true). ltb-true p m t)
      (λ (t : ltb p m ≡ false).
      let same : p ≡ m = omega (arith, ltb-false p m t) in
      absurd (omega (arith, ap first_day same, ap month_length same, first_next m, month-least m)))

  day-from : (k p : ℕ) → p ≤ m → m < p + k → day_from k p (day - first_day p) ≡ day - first_day m + 1
  unfolding day_from
  day-from zero p h l = absurd (omega arith)
  day-from (suc k) p h l =
      by (ltb (day - first_day p) (month_length p))
      (λ (t : ltb (day - first_day p) (month_length p) ≡ true).
      pick_true (day - first_day p + 1) (day_from k (suc p) (day - first_day p - month_length p)) t
      ∙ ap (λ (n : ℕ). day - first_day n + 1) (here p h (ltb-true (day - first_day p) (month_length p) t)))
      (λ (t : ltb (day - first_day p) (month_length p) ≡ false).
      let rest : day - first_day p - month_length p ≡ day - first_day (suc p) = omega (arith, first_next p) in
      pick-false (day - first_day p + 1) (day_from k (suc p) (day - first_day p - month_length p)) t
      ∙ ap (day_from k (suc p)) rest
      ∙ day-from k (suc p) (past p h (ltb-false (day - first_day p) (month_length p) t)) (omega arith))

pub day-of-month : {day m : ℕ} → Falls day m → day_of_month day ≡ day - first_day m + 1
unfolding day_of_month
day-of-month {day} {m} f =
    let whole : day ≡ day - first_day 0 = omega (arith, first-zero) in
    ap (day_from months 0) whole ∙ day-from day m f months 0 (omega arith) (omega arith)

-- 01, "Time is whole minutes from 2000-01-01 0000Z, by the Gregorian calendar to the end of 2099; there is no instant before or after."
-- Days are counted from 2000-01-01 and months from January 2000, both from 0.
-- Believed.
use Rattle.std.specs.Prelude.{Bool, not, List, [], ◌∷◌, ℕ, zero, suc, ◌+◌, ◌/◌, ◌%◌, ◌≤◌, ◌<◌, ltb, eqb, get_or}
use Rattle.lists.specs.Choice.{pick, both, either}

-- the Gregorian leap years
abbrev pub leap : ℕ → Bool
leap year = both (eqb (year % 4) 0) (either (not (eqb (year % 100) 0)) (eqb (year % 400) 0))

-- January to December of a common year
abbrev pub lengths : List ℕ
lengths = 31 ∷ 28 ∷ 31 ∷ 30 ∷ 31 ∷ 30 ∷ 31 ∷ 31 ∷ 30 ∷ 31 ∷ 30 ∷ 31 ∷ []

-- the days of a month: February of a leap year has 29
unfoldable pub month_length : ℕ → ℕ
month_length m = pick (both (eqb (m % 12) 1) (leap (2000 + m / 12))) 29 (get_or lengths (m % 12) 0)

-- "the day number of the first of each of the 1,200 months"
unfoldable pub first_day : ℕ → ℕ
first_day zero = 0
first_day (suc m) = first_day m + month_length m

-- "the 1,200 months": the end of 2099
abbrev pub months : ℕ
months = 1200

-- the days of the hundred years: day 36,525 would be 2100-01-01
abbrev pub days : ℕ
days = 36525

-- the minute after the last of 2099, which is no instant: it stands for none
abbrev pub never : ℕ
never = 52596000

abbrev pub is_instant : ℕ → Bool
is_instant t = ltb t never

-- a day falls in a month
pub record Falls (day month : ℕ) : Type 0 where
  pub within : month < months
  pub from : first_day month ≤ day
  pub until : day < first_day (suc month)

-- 01, "A start group means the one instant …. The end is the first such instant after the start, …. A cancellation's target …; its start is
-- the latest matching instant before that, under the same limit." How each is found: the instant that has the group, if there is one,
-- lies on one of three days. specs/Meanings.antt says what each is; proofs/CalendarLaws.antt that the two agree.
-- Tied: `start-found`, `start-complete`, `end-found`, `end-complete`, `target_found`, `target-complete` (crates/calendar/proofs/CalendarLaws.antt).
use Rattle.std.specs.Prelude.{Bool, ℕ, zero, suc, ◌+◌, ◌-◌, ◌*◌, ◌/◌, ◌%◌, leb, ltb, eqb}
use Rattle.lists.specs.Choice.{pick, both}
use Rattle.groups.specs.declared.Group.{Group}
use Rattle.calendar.specs.Gregorian.{month_length, months, never}
use Rattle.calendar.specs.Meanings.{limit_of}

-- what day of its month a day is, months being passed one by one from month m on: 1 for the first
unfoldable pub day_from : ℕ → ℕ → ℕ → ℕ
day_from zero m day = 0
day_from (suc k) m day = pick (ltb day (month_length m)) (day + 1) (day_from k (suc m) (day - month_length m))

-- what day of its month a day of the hundred years is
unfoldable pub day_of_month : ℕ → ℕ
day_of_month day = day_from months 0 day

-- an instant "that has that day, hour and minute"
unfoldable pub matches : Group → ℕ → Bool
matches g t =
    both (ltb t never)
    (both (eqb (day_of_month (t / 1440)) g.day) (both (eqb (t / 60 % 24) g.hour) (eqb (t % 60) g.minute)))

-- the minute of a day at a group's hour and minute
abbrev pub minute_on : Group → ℕ → ℕ
minute_on g day = day * 1440 + (g.hour * 60 + g.minute)

-- the instant of a day that has the group and is from low on and before high, or never
unfoldable pub on_day : Group → ℕ → ℕ → ℕ → ℕ
on_day g low high day =
    pick (both (both (leb low (minute_on g day)) (ltb (minute_on g day) high)) (matches g (minute_on g day))) (minute_on g day) never

-- the first of two that is an instant
abbrev pub or_else : ℕ → ℕ → ℕ
or_else a b = pick (ltb a never) a b

-- the instant from low on and before high that has the group, or never; no more than 2,881 minutes lie between
unfoldable pub instant_in : Group → ℕ → ℕ → ℕ
instant_in g low high =
    or_else (on_day g low high (low / 1440)) (or_else (on_day g low high (low / 1440 + 1)) (on_day g low high (low / 1440 + 2)))

-- "the one instant within 1,440 minutes of the clock, either side, both ends counted"
unfoldable pub start_of : ℕ → Group → ℕ
start_of clock g = instant_in g (clock - 1440) (clock + 1441)

-- "the first such instant after the start, at most …"
unfoldable pub end_of : ℕ → ℕ → Group → ℕ
end_of kind start g = instant_in g (start + 1) (start + limit_of kind + 1)

-- "the latest matching instant before that, under the same limit"
unfoldable pub target_of : ℕ → ℕ → Group → ℕ
target_of kind end g = instant_in g (end - limit_of kind) end

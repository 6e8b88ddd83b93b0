-- `on_day` meets its contract: each way out is a reason why the day has no such instant, or the instant.
use native.Mathlib.Omega.{arith}
use Rattle.calendar.proofs.DayLaws.{none-beyond, none-hour, none-minute, none_before, none_after, none-date, one-there}
use Rattle.calendar.proofs.on_day.Goals as goal
use Rattle.calendar.proofs.on_day.Goals.{then-day-ge-DAYS-via-then-day-ge-DAYS, then-day-ge-DAYS-via-else-day-ge-DAYS+then-g-gt23, then-day-ge-DAYS-via-else-day-ge-DAYS+else-g-gt23+then-g-gt59}
use Rattle.calendar.proofs.on_day.Goals.{then-date-from-via-then-date-from, then-date-from-via-else-date-from+then-t-low, then-date-from-via-else-date-from+else-t-low+then-high-t}

pub returns-then-day-ge-DAYS : goal.returns-then-day-ge-DAYS
returns-then-day-ge-DAYS c =
    elim c.then-day-ge-DAYS.branch [
      | then-day-ge-DAYS-via-then-day-ge-DAYS w ↦ none-beyond _ _ _ _ w.if-day-ge-DAYS.true
      | then-day-ge-DAYS-via-else-day-ge-DAYS+then-g-gt23 w ↦ none-hour _ _ _ _ w.if-g-gt23.true
      | then-day-ge-DAYS-via-else-day-ge-DAYS+else-g-gt23+then-g-gt59 w ↦ none-minute _ _ _ _ w.if-g-gt59.true
    ]

pub returns-then-date-from : goal.returns-then-date-from
returns-then-date-from c =
    elim c.then-date-from.branch [
      | then-date-from-via-then-date-from w ↦ none-date _ _ _ _ (omega arith) (omega arith) _ _ c.month_of-month.ensures c.first_day.ensures (omega arith)
      | then-date-from-via-else-date-from+then-t-low w ↦ none_before _ _ _ _ (omega arith)
      | then-date-from-via-else-date-from+else-t-low+then-high-t w ↦ none_after _ _ _ _ (omega arith)
    ]

pub returns : goal.returns
returns c = rw (c.from.ensures, c.from-2.ensures)
    (one-there _ _ _ _ (omega arith) (omega arith) _ _ c.month_of-month.ensures c.first_day.ensures (omega arith) (omega arith) (omega arith) (omega arith))

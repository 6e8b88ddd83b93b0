-- `first_day` meets its contract: the rule is computed down the whole table, and holds at the month asked for.
use Rattle.calendar.specs.Gregorian.{month_length}
use Rattle.calendar.proofs.TableLaws.{first_of}
use Rattle.calendar.proofs.table.first_day.Goals as goal

pub returns : goal.returns
unfolding month_length
returns c = search first_of

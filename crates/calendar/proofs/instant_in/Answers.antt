-- `instant_in` meets its contract: the first of three days that has one, in the definition's order.
use Rattle.calendar.proofs.DayLaws.{in-days}
use borrow.Author.Rules.{rules}
use Rattle.calendar.proofs.instant_in.Goals as goal

pub returns : goal.returns
returns c = in-days _ _ _ _ _ _ c.on_day.ensures c.or_else.ensures (λ p. search rules) c.or_else-2.ensures (λ p. search rules)

-- `read_name` meets its contract: each turn the words so far are the name, and the next one goes behind them or ends it.
use Prim.Native.Nat.{◌-◌}
use Rattle.reader_sections.proofs.NameText.{NamedOn}
use Rattle.reader_sections.proofs.name.read_name.Given as goal

abbrev pub invariant-loop-step : goal.invariant-loop-step
invariant-loop-step l = NamedOn l.mountain l.limit l.initial.step l.initial.name l.step l.name

abbrev pub decreases-loop-step : goal.decreases-loop-step
decreases-loop-step l = l.limit - l.name.count

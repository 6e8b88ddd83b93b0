-- `Line::number` stays on the line: the pen does.
use Rattle.pens.proofs.Pages.{inside}
use Rattle.replay.proofs.line.Line.number.Goals as goal

pub invariant_of-self : goal.invariant_of-self
invariant_of-self c = record { within = inside c.put_all-self.ensures c.put.new.self.within }

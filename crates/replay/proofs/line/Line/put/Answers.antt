-- `Line::put` stays on the line: the pen does.
use Rattle.pens.proofs.Pages.{inside}
use Rattle.replay.proofs.line.Line.put.Goals as goal

pub invariant_of-self : goal.invariant_of-self
invariant_of-self c = record { within = inside c.put-self.ensures c.args.self.now.within }

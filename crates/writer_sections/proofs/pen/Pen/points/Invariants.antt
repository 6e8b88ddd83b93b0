-- `points` meets its contract: behind the first point come the others, a `-` before each.
use lib.ListN.{take}
use Rattle.pens.specs.Pens.{Words}
use Rattle.message.specs.Locations.{dashed}
use Rattle.writer_sections.specs.Moves.{Moved}
use Rattle.writer_sections.proofs.pen.Pen.points.Given as goal

abbrev pub invariant-loop-p : goal.invariant-loop-p
invariant-loop-p l = Moved (Words (dashed (take l.p-index l.others))) l.initial.self l.self

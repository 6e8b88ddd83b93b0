-- `read_outline` meets its contract: the points read stand at the head of the array, and as many are left as there is room.
use borrow.Author.Rules.{rules}
use Rattle.reader_sections.proofs.OutlineLaws.{gone-refused, gone-on, gone-over}
use Rattle.reader_sections.proofs.outline.read_outline.Goals as goal

pub returns-in_err-corner : goal.returns-in_err-corner
returns-in_err-corner c = gone-refused c.loop-corner.invariant c.in_err-corner.ensures (search rules)

pub loop-corner-preserved : goal.loop-corner-preserved
loop-corner-preserved c = gone-on c.loop-corner.invariant _ (rw c.in-Further.is at c.in_ok-corner.ensures)

pub returns-in-Closing : goal.returns-in-Closing
returns-in-Closing c = gone-over c.loop-corner.invariant _ (rw c.in-Closing.is at c.in_ok-corner.ensures)

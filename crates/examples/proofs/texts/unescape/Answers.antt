-- `texts::unescape` stays within the buffer: the pen does.
use Rattle.pens.proofs.Pages.{inside}
use Rattle.examples.proofs.texts.unescape.Goals as goal

pub loop-at-preserved-in-92 : goal.loop-at-preserved-in-92
loop-at-preserved-in-92 c = inside c.put_all-at.ensures c.loop-at.invariant

pub loop-at-preserved-in-92-2 : goal.loop-at-preserved-in-92-2
loop-at-preserved-in-92-2 c = inside c.put-at.ensures c.loop-at.invariant

pub loop-at-preserved-in-92-3 : goal.loop-at-preserved-in-92-3
loop-at-preserved-in-92-3 c = inside c.put-at-in-92-3.ensures c.loop-at.invariant

pub loop-at-preserved : goal.loop-at-preserved
loop-at-preserved c = inside c.put-at-in-len1-up.ensures c.loop-at.invariant

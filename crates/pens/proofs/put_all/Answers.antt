-- `put_all` meets its contract: behind the bytes that were put so far comes the next.
use Rattle.pens.proofs.PenLaws.{nothing, one_more}
use Rattle.pens.proofs.put_all.Goals as goal

pub loop-x-init : goal.loop-x-init
loop-x-init c = nothing

pub loop-x-preserved : goal.loop-x-preserved
loop-x-preserved c = search one_more

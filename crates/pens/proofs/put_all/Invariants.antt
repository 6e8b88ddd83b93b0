-- `put_all` meets its contract: behind the bytes that were put so far comes the next.
use lib.ListN.{take}
use Rattle.pens.specs.Pens.{Puts}
use Rattle.pens.proofs.put_all.Given as goal

abbrev pub invariant-loop-x : goal.invariant-loop-x
invariant-loop-x l = Puts (take l.x-index l.text) l.at l.initial.out l.next l.out

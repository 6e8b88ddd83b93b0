-- `are_distinct` meets its contract.
use mathlib.Core.Path.{◌≡◌}
use lib.ListN.{length, drop}
use Rattle.board.specs.Boards.{distinct}
use Rattle.board.proofs.goodness.are_distinct.Given as goal

abbrev pub invariant-loop-i : goal.invariant-loop-i
invariant-loop-i l = (length l.p-items ≡ 64) × (distinct l.fn.places ≡ distinct (drop l.i l.p-items))

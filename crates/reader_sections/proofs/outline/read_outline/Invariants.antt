-- `read_outline` meets its contract: the points read stand at the head of the array, and as many are left as there is room.
use Prim.Native.Nat.{◌-◌}
use Rattle.message.specs.Limits.{most_points}
use Rattle.reader_sections.proofs.OutlineLaws.{Gone}
use Rattle.reader_sections.proofs.outline.read_outline.Given as goal

abbrev pub invariant-loop-corner : goal.invariant-loop-corner
invariant-loop-corner l = Gone l.initial.step l.part l.points l.count l.step

abbrev pub decreases-loop-corner : goal.decreases-loop-corner
decreases-loop-corner l = most_points - l.count

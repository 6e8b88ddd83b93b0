-- `print_text` prints no more than the buffer holds: the writer's count lies within it.
use Rattle.io.proofs.Counting.{length-take_of_le}
use Rattle.writer.proofs.Within.{within}
use Rattle.sigmet.proofs.print_text.Goals as goal

pub slice_bounds-text-end : goal.slice_bounds-text-end
slice_bounds-text-end c = within _ _ _ c.write-written.ensures

pub slice_bounds-write_all-end : goal.slice_bounds-write_all-end
slice_bounds-write_all-end c = length-take_of_le _ _ (within _ _ _ c.write-written.ensures)

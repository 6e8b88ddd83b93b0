-- `Row::is_written` compares and prints no more than the buffer holds: the writer's count lies within it.
use Rattle.io.proofs.Counting.{length-take_of_le}
use Rattle.writer.proofs.Within.{within}
use Rattle.examples.proofs.rows.Row.is_written.Goals as goal

pub slice_bounds-text-end : goal.slice_bounds-text-end
slice_bounds-text-end c = within _ _ _ c.write-written.ensures

pub slice_bounds-text-end-2 : goal.slice_bounds-text-end-2
slice_bounds-text-end-2 c = length-take_of_le _ _ (within _ _ _ c.write-written.ensures)

-- `calls::list_into` tells no more than the buffer holds: the count lies within it.
use Rattle.std.proofs.Common.{ap, arith, length, ◌≤◌}
use Rattle.io.proofs.Counting.{length-take_of_le}
use Rattle.pens.specs.Outcomes.{Wrote}
use Rattle.listing.proofs.ListLaws.{within}
use Rattle.replay.proofs.calls.list_into.Goals as goal
use Rattle.replay.proofs.calls.list_into.Goals.{After-list-listed}

counted : (c : After-list-listed) → c.list-listed.result.count ≤ length c.list-listed.new.out
counted c = omega (arith, ap (λ (t : Wrote). t.count) c.list-listed.ensures, within c.args.board c.args.time c.args.out.now)

pub slice_bounds-bytes-end : goal.slice_bounds-bytes-end
slice_bounds-bytes-end c = counted (goal.at.slice_bounds-bytes-end c).After-list-listed

pub slice_bounds-bytes-end-2 : goal.slice_bounds-bytes-end-2
slice_bounds-bytes-end-2 c = length-take_of_le _ _ (counted (goal.at.slice_bounds-bytes-end-2 c).After-list-listed)

-- `list` meets its contract: one law for each reply, on the rows that were found.
use mathlib.Core.Path.{◌∙◌}
use Rattle.places.proofs.RefusalLaws.{number_some}
use Rattle.listing.proofs.ListLaws.{board-refused, no_room, all_listed}
use Rattle.listing.proofs.list.Goals as goal

pub returns-in-Err : goal.returns-in-Err
returns-in-Err c =
    let w = rw c.number.ensures at c.refused.ensures in
    board-refused _ _ _ _ _ c.in-Err.ensures (number_some c.in-Err.refusal) w

pub returns-then-out-rows : goal.returns-then-out-rows
returns-then-out-rows c = no_room _ _ _ _ c.in_default.ensures (c.as_slice-rows.ensures ∙ c.rows_at-found.ensures.says) c.if-out-rows.true c.refused-then-out-rows.ensures

pub returns : goal.returns
returns c = all_listed _ _ _ c.in_default.ensures (c.as_slice-rows.ensures ∙ c.rows_at-found.ensures.says) c.if-out-rows.false c.put_listing-count.ensures

-- `next_point` meets its contract: a latitude and a longitude, and the `-` where the outline is not closed.
use borrow.Author.Rules.{rules}
use Rattle.reader_sections.proofs.OutlineLaws.{north-missed, east-missed, point-closed, dash-missed, point-dashed}
use Rattle.reader_sections.proofs.outline.next_point.Goals as goal

pub returns-in_err-north : goal.returns-in_err-north
returns-in_err-north c = north-missed c.word.ensures c.latitude_word.ensures c.in_err-north.ensures (search rules)

pub returns-in_err-corner : goal.returns-in_err-corner
returns-in_err-corner c =
    east-missed c.word.ensures c.latitude_word.ensures c.in_ok-north.ensures c.word-2.ensures c.corner_word-corner.ensures c.in_err-corner.ensures (search rules)

pub returns-in-Closing : goal.returns-in-Closing
returns-in-Closing c =
    point-closed c.word.ensures c.latitude_word.ensures c.in_ok-north.ensures c.word-2.ensures c.corner_word-corner.ensures c.in-Closing.is c.in_ok-corner.ensures

pub returns-in_err-step : goal.returns-in_err-step
returns-in_err-step c =
    dash-missed c.word.ensures c.latitude_word.ensures c.in_ok-north.ensures c.word-2.ensures c.corner_word-corner.ensures c.in_default.is c.in_ok-corner.ensures c.in_err-step.ensures
    (search rules)

pub returns : goal.returns
returns c =
    point-dashed c.word.ensures c.latitude_word.ensures c.in_ok-north.ensures c.word-2.ensures c.corner_word-corner.ensures c.in_default.is c.in_ok-corner.ensures c.in_ok-step.ensures

-- `concluded` meets its contract: the `=` after what was read, or the refusal of what comes in its place.
use borrow.Author.Rules.{rules}
use Rattle.reader_sections.proofs.Leads.{then-ends, then-concludes, concludes-err, led}
use Rattle.reader_sections.proofs.OneWord.{end-yes, end-no}
use Rattle.reader_sections.proofs.replies.concluded.Goals as goal

pub returns-in_err-ended : goal.returns-in_err-ended
returns-in_err-ended o c = λ s from whole l. concludes-err (then-ends (led c.in_ok-value.was l) (end-no _ c.in_err-ended.ensures)) (search rules)

pub returns : goal.returns
returns o c = λ s from whole l. then-concludes (led c.in_ok-value.was l) (end-yes _ c.in_ok-ended.ensures)

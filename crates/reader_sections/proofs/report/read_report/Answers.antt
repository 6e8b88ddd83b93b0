-- `read_report` meets its contract: the ending after all that stands before it.
use Rattle.reader_sections.proofs.Leads.{then-replies, replies-err}
use Rattle.reader_sections.proofs.report.read_report.Goals as goal

pub returns-in-Ok : goal.returns-in-Ok
returns-in-Ok c = λ r. then-replies (c.in-Ok.ensures r).says c.read_ending.ensures

pub returns : goal.returns
returns c = λ r. replies-err (c.in-Err.ensures r).says c.reply.ensures

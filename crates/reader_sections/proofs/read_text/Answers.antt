-- `read_text` meets its contract: opening and body are one run.
use Rattle.reader_sections.proofs.Leads.{from-start, then-replies, replies-err}
use Rattle.reader_sections.proofs.read_text.Goals as goal

pub returns-in-Ok : goal.returns-in-Ok
returns-in-Ok c = from-start c.at.ensures (then-replies c.in-Ok.ensures.says c.read_body.ensures)

pub returns : goal.returns
returns c = from-start c.at.ensures (replies-err c.in-Err.ensures.says c.reply.ensures)

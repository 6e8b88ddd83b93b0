-- `name` meets its contract: its text is its words with their spaces, and the space before the first.
use Rattle.writer_sections.proofs.SectionLaws.{name-put}
use Rattle.writer_sections.proofs.pen.Pen.name.Goals as goal

pub returns : goal.returns
returns c = search name-put

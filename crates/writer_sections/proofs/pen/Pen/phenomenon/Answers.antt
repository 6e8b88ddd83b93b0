-- `phenomenon` meets its contract: its number is one of the table, and an eruption has a good volcano.
use Rattle.writer_sections.proofs.SectionLaws.{phenomenon-number, has-volcano}
use Rattle.writer_sections.proofs.pen.Pen.phenomenon.Goals as goal

pub named-requires : goal.named-requires
named-requires c = search phenomenon-number

pub volcano-requires : goal.volcano-requires
volcano-requires c = search has-volcano

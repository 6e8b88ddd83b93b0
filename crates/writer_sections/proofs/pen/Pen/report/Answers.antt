-- `report` meets its contract: the parts of a good report are good.
use Rattle.writer_sections.proofs.RecordLaws.{report-phenomenon, report-extent, report-ending}
use Rattle.writer_sections.proofs.pen.Pen.report.Goals as goal

pub phenomenon-requires : goal.phenomenon-requires
phenomenon-requires c = search report-phenomenon

pub extent-requires : goal.extent-requires
extent-requires c = search report-extent

pub ending-requires : goal.ending-requires
ending-requires c = search report-ending

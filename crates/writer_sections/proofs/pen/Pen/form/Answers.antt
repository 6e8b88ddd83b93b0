-- `form` meets its contract: where a test or a report was found, it is good.
use Rattle.writer_sections.proofs.RecordLaws.{test-least, test-most, reported}
use Rattle.writer_sections.proofs.pen.Pen.form.Goals as goal

pub test-requires : goal.test-requires
test-requires c = search (test-least, test-most)

pub report-requires : goal.report-requires
report-requires c = search reported

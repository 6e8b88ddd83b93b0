-- `volcano` meets its contract: a good volcano has a good mountain, or none.
use Rattle.writer_sections.proofs.RecordLaws.{volcano-mount}
use Rattle.writer_sections.proofs.pen.Pen.volcano.Goals as goal

pub mount-requires : goal.mount-requires
mount-requires c = search volcano-mount

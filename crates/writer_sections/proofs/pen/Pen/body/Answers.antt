-- `body` meets its contract: the area of a good record has a name that fits.
use Rattle.writer_sections.proofs.RecordLaws.{area-fits}
use Rattle.writer_sections.proofs.pen.Pen.body.Goals as goal

pub area-requires : goal.area-requires
area-requires c = search area-fits

-- `ending` meets its contract: where a forecast was found, its place is good.
use Rattle.writer_sections.proofs.RecordLaws.{forecast-good}
use Rattle.writer_sections.proofs.pen.Pen.ending.Goals as goal

pub forecast-requires : goal.forecast-requires
forecast-requires c = search forecast-good

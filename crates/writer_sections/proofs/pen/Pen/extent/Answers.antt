-- `extent` meets its contract: where a bound or an outline was found, it is good.
use Rattle.writer_sections.proofs.RecordLaws.{bounded, outline-most}
use Rattle.writer_sections.proofs.pen.Pen.extent.Goals as goal

pub bound-requires : goal.bound-requires
bound-requires c = search bounded

pub outline-requires : goal.outline-requires
outline-requires c = search outline-most

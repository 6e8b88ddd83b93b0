-- `mount` meets its contract: no count is no name, and a name goes behind `MT`.
use Rattle.figures.specs.Codes.{behind_one}
use Rattle.writer_sections.proofs.SectionLaws.{no-mount, a-mount, mount-fits}
use Rattle.writer_sections.proofs.pen.Pen.mount.Goals as goal

pub returns-else-n-ne0 : goal.returns-else-n-ne0
returns-else-n-ne0 c = search no-mount

pub name-requires : goal.name-requires
name-requires c = search mount-fits

pub returns-then-n-ne0 : goal.returns-then-n-ne0
unfolding behind_one
returns-then-n-ne0 c = search a-mount

-- `bound` meets its contract: a latitude, a longitude or both; a side without a letter is none.
use Rattle.figures.specs.Codes.{behind_one}
use Rattle.coordinates.specs.Coordinates.{spell_coordinate}
use Rattle.writer_sections.proofs.SectionLaws.{longitude-alone, latitude-alone, both-sides}
use Rattle.writer_sections.proofs.pen.Pen.bound.Goals as goal

pub returns-then-b-eq0 : goal.returns-then-b-eq0
unfolding spell_coordinate
returns-then-b-eq0 c = search longitude-alone

pub returns-else-b-ne0 : goal.returns-else-b-ne0
unfolding spell_coordinate
returns-else-b-ne0 c = search latitude-alone

pub returns-then-b-ne0 : goal.returns-then-b-ne0
unfolding spell_coordinate behind_one
returns-then-b-ne0 c = search both-sides

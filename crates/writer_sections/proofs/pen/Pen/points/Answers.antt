-- `points` meets its contract: behind the first point come the others, a `-` before each.
use Rattle.vocabulary.proofs.FixedWords.{fixed-dash}
use Rattle.coordinates.specs.Points.{no_point}
use Rattle.message.specs.Locations.{dashed}
use Rattle.writer_sections.proofs.Moves.{no_words}
use Rattle.writer_sections.proofs.SectionLaws.{no-points, point-more, points-joined}
use Rattle.writer_sections.proofs.pen.Pen.points.Goals as goal

pub loop-p-init : goal.loop-p-init
unfolding dashed
loop-p-init c = no_words

pub loop-p-preserved : goal.loop-p-preserved
loop-p-preserved c = point-more _ _ no_point c.loop-p-test.true c.loop-p.invariant fixed-dash c.fixed.ensures c.point-in-loop-p.ensures

pub returns-in_default : goal.returns-in_default
returns-in_default c = no-points _ c.in_default.len_below

pub returns-after-loop-p : goal.returns-after-loop-p
returns-after-loop-p c = points-joined _ _ no_point c.in-len1-up.len_at_least c.loop-p-test.false c.point.ensures c.loop-p.invariant

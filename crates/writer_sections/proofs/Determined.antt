-- The public contract of this crate settles reply and buffer: two outcomes that it allows on the same arguments are equal.
use mathlib.Core.Path.{ap}
use Rattle.lists.specs.Determined.{Settles}
use Rattle.pens.specs.Pens.{Pen}
use Rattle.pens.proofs.PenLaws.{puts-same}
use Rattle.writer_sections.proofs.put_text.Kinds as put-text-kinds
use Rattle.writer_sections.proofs.put_text.Reads as put-text-reads

pub put-text-settles : Settles 1 put-text-kinds.ps put-text-kinds.r put-text-reads.Learnt
put-text-settles κs a r s x y p q = (ap (λ (z : Pen). z.at) (puts-same p q), ap (λ (z : Pen). (z.page, x.1)) (puts-same p q))

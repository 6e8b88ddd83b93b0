-- The public contract of this crate settles reply and buffer: two outcomes that it allows on the same arguments are equal.
use mathlib.Core.Path.{◌≡◌, sym, ◌∙◌}
use Rattle.lists.specs.Determined.{Settles}
use Rattle.pens.specs.Outcomes.{wrote}
use Rattle.writer.proofs.write.Kinds as write-kinds
use Rattle.writer.proofs.write.Reads as write-reads

pub write-settles : Settles 1 write-kinds.ps write-kinds.r write-reads.Learnt
write-settles κs a r s x y p q =
    let same : wrote r x.1.0 ≡ wrote s y.1.0 = p ∙ sym q in
    (λ i. record { number = (same i).number; count = (same i).count }, λ i. (tt, ((same i).buffer, tt)))

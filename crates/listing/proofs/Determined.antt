-- The public contract of this crate settles reply and buffer: two outcomes that it allows on the same arguments are equal.
use mathlib.Core.Path.{◌≡◌, sym, ◌∙◌}
use Rattle.lists.specs.Determined.{Settles}
use Rattle.pens.specs.Outcomes.{wrote}
use Rattle.listing.proofs.list.Kinds as list-kinds
use Rattle.listing.proofs.list.Reads as list-reads

pub list-settles : Settles 1 list-kinds.ps list-kinds.r list-reads.Learnt
list-settles κs a r s x y p q =
    let same : wrote r x.1.1.0 ≡ wrote s y.1.1.0 = p ∙ sym q in
    (λ i. record { number = (same i).number; count = (same i).count }, λ i. (tt, (tt, ((same i).buffer, tt))))

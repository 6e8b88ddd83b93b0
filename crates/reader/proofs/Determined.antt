-- The public contract of this crate determines its reply: two replies that it allows on the same bytes are equal.
use Rattle.lists.proofs.Choice.{determined}
use Rattle.lists.specs.Determined.{Determines}
use Rattle.reader.proofs.read.Kinds as read-kinds
use Rattle.reader.proofs.read.Reads as read-reads

pub read-determined : Determines 1 read-kinds.ps read-kinds.r read-reads.Learnt
read-determined κs a r s x y p q = determined p q

-- The public contract of this crate determines its reply: two replies that it allows on the same text are equal.
use Rattle.lists.specs.Determined.{Determines}
use Rattle.lists.proofs.Choice.{determined}
use Rattle.reader_sections.proofs.read_text.Kinds as read-text-kinds
use Rattle.reader_sections.proofs.read_text.Reads as read-text-reads

pub read-text-determined : Determines 1 read-text-kinds.ps read-text-kinds.r read-text-reads.Learnt
read-text-determined κs a r s x y p q = determined p q

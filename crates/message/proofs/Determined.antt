-- Each public contract of this crate determines its reply: two replies that it allows on the same arguments are equal.
use Rattle.lists.proofs.Choice.{determined}
use Rattle.lists.specs.Determined.{Determines}
use Rattle.message.proofs.is_good.Kinds as is-good-kinds
use Rattle.message.proofs.is_good.Reads as is-good-reads
use Rattle.message.proofs.names_itself.Kinds as names-itself-kinds
use Rattle.message.proofs.names_itself.Reads as names-itself-reads

pub is-good-determined : Determines 0 is-good-kinds.ps is-good-kinds.r is-good-reads.Learnt
is-good-determined κs a r s x y p q = determined p q

pub names-itself-determined : Determines 0 names-itself-kinds.ps names-itself-kinds.r names-itself-reads.Learnt
names-itself-determined κs a r s x y p q = determined p q

-- Each public contract of this crate determines its reply: two replies that it allows on the same arguments are equal.
use Rattle.lists.proofs.Choice.{determined}
use Rattle.lists.specs.Determined.{Determines}
use Rattle.calendar.proofs.limit_of.Kinds as limit-of-kinds
use Rattle.calendar.proofs.limit_of.Reads as limit-of-reads
use Rattle.calendar.proofs.start_of.Kinds as start-of-kinds
use Rattle.calendar.proofs.start_of.Reads as start-of-reads
use Rattle.calendar.proofs.end_of.Kinds as end-of-kinds
use Rattle.calendar.proofs.end_of.Reads as end-of-reads
use Rattle.calendar.proofs.target_of.Kinds as target-of-kinds
use Rattle.calendar.proofs.target_of.Reads as target-of-reads

pub limit-of-determined : Determines 0 limit-of-kinds.ps limit-of-kinds.r limit-of-reads.Learnt
limit-of-determined κs a r s x y p q = determined p q

pub start-of-determined : Determines 0 start-of-kinds.ps start-of-kinds.r start-of-reads.Learnt
start-of-determined κs a r s x y p q = determined p q

pub end-of-determined : Determines 0 end-of-kinds.ps end-of-kinds.r end-of-reads.Learnt
end-of-determined κs a r s x y p q = determined p q

pub target-of-determined : Determines 0 target-of-kinds.ps target-of-kinds.r target-of-reads.Learnt
target-of-determined κs a r s x y p q = determined p q

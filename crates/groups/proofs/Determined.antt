-- Each public contract of this crate determines its reply: two replies that it allows on the same arguments are equal.
use Rattle.lists.proofs.Choice.{determined}
use Rattle.lists.specs.Determined.{Determines}
use Rattle.groups.proofs.good_group.Kinds as good-group-kinds
use Rattle.groups.proofs.good_group.Reads as good-group-reads
use Rattle.groups.proofs.same_group.Kinds as same-group-kinds
use Rattle.groups.proofs.same_group.Reads as same-group-reads
use Rattle.groups.proofs.group_word.Kinds as group-word-kinds
use Rattle.groups.proofs.group_word.Reads as group-word-reads
use Rattle.groups.proofs.good_period.Kinds as good-period-kinds
use Rattle.groups.proofs.good_period.Reads as good-period-reads
use Rattle.groups.proofs.period_word.Kinds as period-word-kinds
use Rattle.groups.proofs.period_word.Reads as period-word-reads
use Rattle.groups.proofs.good_time.Kinds as good-time-kinds
use Rattle.groups.proofs.good_time.Reads as good-time-reads
use Rattle.groups.proofs.time_word.Kinds as time-word-kinds
use Rattle.groups.proofs.time_word.Reads as time-word-reads

pub good-group-determined : Determines 0 good-group-kinds.ps good-group-kinds.r good-group-reads.Learnt
good-group-determined κs a r s x y p q = determined p q

pub same-group-determined : Determines 0 same-group-kinds.ps same-group-kinds.r same-group-reads.Learnt
same-group-determined κs a r s x y p q = determined p q

pub group-word-determined : Determines 1 group-word-kinds.ps group-word-kinds.r group-word-reads.Learnt
group-word-determined κs a r s x y p q = determined p q

pub good-period-determined : Determines 0 good-period-kinds.ps good-period-kinds.r good-period-reads.Learnt
good-period-determined κs a r s x y p q = determined p q

pub period-word-determined : Determines 1 period-word-kinds.ps period-word-kinds.r period-word-reads.Learnt
period-word-determined κs a r s x y p q = determined p q

pub good-time-determined : Determines 0 good-time-kinds.ps good-time-kinds.r good-time-reads.Learnt
good-time-determined κs a r s x y p q = determined p q

pub time-word-determined : Determines 1 time-word-kinds.ps time-word-kinds.r time-word-reads.Learnt
time-word-determined κs a r s x y p q = determined p q

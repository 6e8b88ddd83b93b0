-- The two connectives' own contracts determine their replies.
use Rattle.lists.specs.Determined.{Determines}
use Rattle.lists.proofs.Choice.{determined}
use Rattle.lists.proofs.both.Kinds as both-kinds
use Rattle.lists.proofs.both.Reads as both-reads
use Rattle.lists.proofs.either.Kinds as either-kinds
use Rattle.lists.proofs.either.Reads as either-reads

pub both-determined : Determines 0 both-kinds.ps both-kinds.r both-reads.Learnt
both-determined κs a r s x y p q = determined p q

pub either-determined : Determines 0 either-kinds.ps either-kinds.r either-reads.Learnt
either-determined κs a r s x y p q = determined p q

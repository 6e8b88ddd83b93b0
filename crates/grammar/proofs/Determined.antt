-- The public contract of this crate determines its reply: two replies that it allows on the same number and place are equal.
use Rattle.lists.proofs.Choice.{determined}
use Rattle.lists.specs.Determined.{Determines}
use Rattle.grammar.proofs.refusal.Kinds as refusal-kinds
use Rattle.grammar.proofs.refusal.Reads as refusal-reads

pub refusal-determined : Determines 0 refusal-kinds.ps refusal-kinds.r refusal-reads.Learnt
refusal-determined κs a r s x y p q = determined p q

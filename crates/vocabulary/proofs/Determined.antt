-- Each public contract of this crate determines its reply: two replies that it allows on the same arguments are equal.
use Rattle.lists.specs.Determined.{Determines}
use Rattle.lists.proofs.Choice.{determined}
use Rattle.vocabulary.proofs.same_word.Kinds as same-word-kinds
use Rattle.vocabulary.proofs.same_word.Reads as same-word-reads

pub same-word-determined : Determines 2 same-word-kinds.ps same-word-kinds.r same-word-reads.Learnt
same-word-determined κs a r s x y p q = determined p q

-- Each public contract of this crate determines its reply: two replies that it allows on the same arguments are equal.
use Rattle.lists.proofs.Choice.{determined}
use Rattle.lists.specs.Determined.{Determines}
use Rattle.names.proofs.name_word.Kinds as name-word-kinds
use Rattle.names.proofs.name_word.Reads as name-word-reads
use Rattle.names.proofs.closing_word.Kinds as closing-word-kinds
use Rattle.names.proofs.closing_word.Reads as closing-word-reads
use Rattle.names.proofs.in_name.Kinds as in-name-kinds
use Rattle.names.proofs.in_name.Reads as in-name-reads
use Rattle.names.proofs.name_text.Kinds as name-text-kinds
use Rattle.names.proofs.name_text.Reads as name-text-reads

pub name-word-determined : Determines 1 name-word-kinds.ps name-word-kinds.r name-word-reads.Learnt
name-word-determined κs a r s x y p q = determined p q

pub closing-word-determined : Determines 1 closing-word-kinds.ps closing-word-kinds.r closing-word-reads.Learnt
closing-word-determined κs a r s x y p q = determined p q

pub in-name-determined : Determines 1 in-name-kinds.ps in-name-kinds.r in-name-reads.Learnt
in-name-determined κs a r s x y p q = determined p q

pub name-text-determined : Determines 1 name-text-kinds.ps name-text-kinds.r name-text-reads.Learnt
name-text-determined κs a r s x y p q = determined p q

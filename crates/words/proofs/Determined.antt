-- Each public contract of this crate determines its reply: two replies that it allows on the same arguments are equal.
use Rattle.lists.proofs.Choice.{determined}
use Rattle.lists.specs.Determined.{Determines}
use Rattle.words.proofs.Refusals.{told-once}
use Rattle.words.proofs.check.Kinds as check-kinds
use Rattle.words.proofs.check.Reads as check-reads
use Rattle.words.proofs.word_at.Kinds as word-at-kinds
use Rattle.words.proofs.word_at.Reads as word-at-reads
use Rattle.words.proofs.length_at.Kinds as length-at-kinds
use Rattle.words.proofs.length_at.Reads as length-at-reads
use Rattle.words.proofs.is_letter.Kinds as is-letter-kinds
use Rattle.words.proofs.is_letter.Reads as is-letter-reads
use Rattle.words.proofs.is_digit.Kinds as is-digit-kinds
use Rattle.words.proofs.is_digit.Reads as is-digit-reads

pub is-letter-determined : Determines 0 is-letter-kinds.ps is-letter-kinds.r is-letter-reads.Learnt
is-letter-determined κs a r s x y p q = determined p q

pub is-digit-determined : Determines 0 is-digit-kinds.ps is-digit-kinds.r is-digit-reads.Learnt
is-digit-determined κs a r s x y p q = determined p q

pub check-determined : Determines 1 check-kinds.ps check-kinds.r check-reads.Learnt
check-determined κs a r s x y p q = told-once r s (determined p q)

pub word-at-determined : Determines 1 word-at-kinds.ps word-at-kinds.r word-at-reads.Learnt
word-at-determined κs a r s x y p q = determined p q

pub length-at-determined : Determines 1 length-at-kinds.ps length-at-kinds.r length-at-reads.Learnt
length-at-determined κs a r s x y p q = determined p q

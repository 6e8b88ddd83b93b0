-- Each public contract of this crate determines its reply: two replies that it allows on the same arguments are equal.
use Rattle.lists.proofs.Choice.{determined}
use Rattle.lists.specs.Determined.{Determines}
use Rattle.headings.proofs.two_letters.Kinds as two-letters-kinds
use Rattle.headings.proofs.two_letters.Reads as two-letters-reads
use Rattle.headings.proofs.four_letters.Kinds as four-letters-kinds
use Rattle.headings.proofs.four_letters.Reads as four-letters-reads
use Rattle.headings.proofs.good_designator.Kinds as good-designator-kinds
use Rattle.headings.proofs.good_designator.Reads as good-designator-reads
use Rattle.headings.proofs.designator_word.Kinds as designator-word-kinds
use Rattle.headings.proofs.designator_word.Reads as designator-word-reads
use Rattle.headings.proofs.good_correction.Kinds as good-correction-kinds
use Rattle.headings.proofs.good_correction.Reads as good-correction-reads
use Rattle.headings.proofs.correction_word.Kinds as correction-word-kinds
use Rattle.headings.proofs.correction_word.Reads as correction-word-reads
use Rattle.headings.proofs.office_word.Kinds as office-word-kinds
use Rattle.headings.proofs.office_word.Reads as office-word-reads
use Rattle.headings.proofs.good_sequence.Kinds as good-sequence-kinds
use Rattle.headings.proofs.good_sequence.Reads as good-sequence-reads
use Rattle.headings.proofs.sequence_word.Kinds as sequence-word-kinds
use Rattle.headings.proofs.sequence_word.Reads as sequence-word-reads

pub two-letters-determined : Determines 0 two-letters-kinds.ps two-letters-kinds.r two-letters-reads.Learnt
two-letters-determined κs a r s x y p q = determined p q

pub four-letters-determined : Determines 0 four-letters-kinds.ps four-letters-kinds.r four-letters-reads.Learnt
four-letters-determined κs a r s x y p q = determined p q

pub good-designator-determined : Determines 0 good-designator-kinds.ps good-designator-kinds.r good-designator-reads.Learnt
good-designator-determined κs a r s x y p q = determined p q

pub designator-word-determined : Determines 1 designator-word-kinds.ps designator-word-kinds.r designator-word-reads.Learnt
designator-word-determined κs a r s x y p q = determined p q

pub good-correction-determined : Determines 0 good-correction-kinds.ps good-correction-kinds.r good-correction-reads.Learnt
good-correction-determined κs a r s x y p q = determined p q

pub correction-word-determined : Determines 1 correction-word-kinds.ps correction-word-kinds.r correction-word-reads.Learnt
correction-word-determined κs a r s x y p q = determined p q

pub office-word-determined : Determines 1 office-word-kinds.ps office-word-kinds.r office-word-reads.Learnt
office-word-determined κs a r s x y p q = determined p q

pub good-sequence-determined : Determines 0 good-sequence-kinds.ps good-sequence-kinds.r good-sequence-reads.Learnt
good-sequence-determined κs a r s x y p q = determined p q

pub sequence-word-determined : Determines 1 sequence-word-kinds.ps sequence-word-kinds.r sequence-word-reads.Learnt
sequence-word-determined κs a r s x y p q = determined p q

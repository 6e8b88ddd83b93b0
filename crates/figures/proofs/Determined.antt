-- Each public contract of this crate determines its reply: two replies that it allows on the same arguments are equal.
use Rattle.lists.proofs.Choice.{determined}
use Rattle.lists.specs.Determined.{Determines}
use Rattle.figures.proofs.letters.Kinds as letters-kinds
use Rattle.figures.proofs.letters.Reads as letters-reads
use Rattle.figures.proofs.figures.Kinds as figures-kinds
use Rattle.figures.proofs.figures.Reads as figures-reads
use Rattle.figures.proofs.two.Kinds as two-kinds
use Rattle.figures.proofs.two.Reads as two-reads
use Rattle.figures.proofs.three.Kinds as three-kinds
use Rattle.figures.proofs.three.Reads as three-reads
use Rattle.figures.proofs.code.Kinds as code-kinds
use Rattle.figures.proofs.code.Reads as code_Reads
use Rattle.figures.proofs.find.Kinds as find-kinds
use Rattle.figures.proofs.find.Reads as find-reads

pub letters-determined : Determines 1 letters-kinds.ps letters-kinds.r letters-reads.Learnt
letters-determined κs a r s x y p q = determined p q

pub figures-determined : Determines 1 figures-kinds.ps figures-kinds.r figures-reads.Learnt
figures-determined κs a r s x y p q = determined p q

pub two-determined : Determines 1 two-kinds.ps two-kinds.r two-reads.Learnt
two-determined κs a r s x y p q = determined p q

pub three-determined : Determines 1 three-kinds.ps three-kinds.r three-reads.Learnt
three-determined κs a r s x y p q = determined p q

pub code-determined : Determines 1 code-kinds.ps code-kinds.r code_Reads.Learnt
code-determined κs a r s x y p q = determined p q

pub find-determined : Determines 1 find-kinds.ps find-kinds.r find-reads.Learnt
find-determined κs a r s x y p q = determined p q

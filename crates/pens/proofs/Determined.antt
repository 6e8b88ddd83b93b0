-- The public contracts of this crate settle reply and buffer: two outcomes that one allows on the same arguments are equal.
use mathlib.Core.Path.{ap, sym, ◌∙◌}
use Rattle.lists.specs.Determined.{Determines, Settles}
use Rattle.pens.specs.Pens.{Pen}
use Rattle.pens.proofs.PenLaws.{puts-same, words_same}
use Rattle.pens.proofs.refused.Kinds as refused-kinds
use Rattle.pens.proofs.refused.Reads as refused-reads
use Rattle.pens.proofs.put.Kinds as put-kinds
use Rattle.pens.proofs.put.Reads as put_reads
use Rattle.pens.proofs.put_all.Kinds as put-all-kinds
use Rattle.pens.proofs.put_all.Reads as put-all-reads
use Rattle.pens.proofs.put_word.Kinds as put-word-kinds
use Rattle.pens.proofs.put_word.Reads as put-word-reads
use Rattle.pens.proofs.put_figures.Kinds as put-figures-kinds
use Rattle.pens.proofs.put_figures.Reads as put-figures-reads
use Rattle.pens.proofs.put_big_endian.Kinds as put-big-endian-kinds
use Rattle.pens.proofs.put_big_endian.Reads as put-big-endian-reads
use Rattle.pens.proofs.put_code.Kinds as put-code-kinds
use Rattle.pens.proofs.put_code.Reads as put-code-reads
use Rattle.pens.proofs.put_fixed.Kinds as put-fixed-kinds
use Rattle.pens.proofs.put_fixed.Reads as put-fixed-reads

pub refused-determined : Determines 0 refused-kinds.ps refused-kinds.r refused-reads.Learnt
refused-determined κs a r s x y p q = λ i. record { number = (p.0 ∙ sym q.0) i; count = (p.1 ∙ sym q.1) i }

-- a pen is a reply with a page: the two parts of an outcome
pub put-settles : Settles 1 put-kinds.ps put-kinds.r put_reads.Learnt
put-settles κs a r s x y p q = (ap (λ (z : Pen). z.at) (puts-same p q), ap (λ (z : Pen). (z.page, x.1)) (puts-same p q))

pub put-all-settles : Settles 2 put-all-kinds.ps put-all-kinds.r put-all-reads.Learnt
put-all-settles κs a r s x y p q = (ap (λ (z : Pen). z.at) (puts-same p q), ap (λ (z : Pen). (z.page, x.1)) (puts-same p q))

pub put-word-settles : Settles 2 put-word-kinds.ps put-word-kinds.r put-word-reads.Learnt
put-word-settles κs a r s x y p q = (ap (λ (z : Pen). z.at) (words_same p q), ap (λ (z : Pen). (z.page, x.1)) (words_same p q))

pub put-figures-settles : Settles 1 put-figures-kinds.ps put-figures-kinds.r put-figures-reads.Learnt
put-figures-settles κs a r s x y p q = (ap (λ (z : Pen). z.at) (puts-same p q), ap (λ (z : Pen). (z.page, x.1)) (puts-same p q))

pub put-big-endian-settles : Settles 1 put-big-endian-kinds.ps put-big-endian-kinds.r put-big-endian-reads.Learnt
put-big-endian-settles κs a r s x y p q = (ap (λ (z : Pen). z.at) (puts-same p q), ap (λ (z : Pen). (z.page, x.1)) (puts-same p q))

pub put-code-settles : Settles 1 put-code-kinds.ps put-code-kinds.r put-code-reads.Learnt
put-code-settles κs a r s x y p q = (ap (λ (z : Pen). z.at) (puts-same p q), ap (λ (z : Pen). (z.page, x.1)) (puts-same p q))

pub put-fixed-settles : Settles 1 put-fixed-kinds.ps put-fixed-kinds.r put-fixed-reads.Learnt
put-fixed-settles κs a r s x y p q = (ap (λ (z : Pen). z.at) (words_same p q), ap (λ (z : Pen). (z.page, x.1)) (words_same p q))

-- `named` meets its contract: a phenomenon has two words, and `SEV ICE (FZRA)` a third.
use Rattle.vocabulary.proofs.FixedWords.{fixed-freezing-rain}
use Rattle.writer_sections.proofs.SectionLaws.{two-named, three-named, eruption-named}
use Rattle.writer_sections.proofs.pen.Pen.named.Goals as goal

pub returns-then-n-eq-ASH_ERUPTION : goal.returns-then-n-eq-ASH_ERUPTION
returns-then-n-eq-ASH_ERUPTION c = search eruption-named

pub returns-then-n-eq-SEV_ICE_FZRA : goal.returns-then-n-eq-SEV_ICE_FZRA
returns-then-n-eq-SEV_ICE_FZRA c = search (three-named, fixed-freezing-rain)

pub returns-else-n-eq-SEV_ICE_FZRA : goal.returns-else-n-eq-SEV_ICE_FZRA
returns-else-n-eq-SEV_ICE_FZRA c = search two-named

-- `entire_code` meets its contract: the word is that of the area.
use Rattle.reader_sections.proofs.Locating.{entire-cta, entire-fir}
use Rattle.reader_sections.proofs.location.entire_code.Goals as goal

pub returns-then-closing-eq-CLOSED_BY_CTA : goal.returns-then-closing-eq-CLOSED_BY_CTA
returns-then-closing-eq-CLOSED_BY_CTA c = record { fixed = entire-cta _ c.if-closing-eq-CLOSED_BY_CTA.true }

pub returns-else-closing-eq-CLOSED_BY_CTA : goal.returns-else-closing-eq-CLOSED_BY_CTA
returns-else-closing-eq-CLOSED_BY_CTA c = record { fixed = entire-fir _ c.if-closing-eq-CLOSED_BY_CTA.false }

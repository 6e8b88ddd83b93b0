-- A step stands at the word that `word_at` finds.
use Rattle.reader_sections.proofs.RunsAt.{word-at-within, word-again}
use Rattle.reader_sections.proofs.step.Step.at.Goals as goal

pub invariant_of-result : goal.invariant_of-result
invariant_of-result c = record { stands = word-again (word-at-within _ _ _ c.word_at-next.ensures c.requires) }

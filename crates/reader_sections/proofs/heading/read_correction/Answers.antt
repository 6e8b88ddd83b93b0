-- `read_correction` meets its contract: a correction, or a word that stays for the first line.
use mathlib.Core.Path.{refl}
use Rattle.headings.specs.Headings.{correction_of, good_correction}
use Rattle.grammar.specs.Steps.{step}
use Rattle.reader_sections.proofs.WordKinds.{correction-only}
use Rattle.reader_sections.proofs.OneWord.{taken, value-is, passed-over}
use Rattle.reader_sections.proofs.heading.read_correction.Goals as goal

pub returns-in-Some : goal.returns-in-Some
unfolding step
returns-in-Some c = λ d n g. taken correction_of good_correction c.args.step correction-only c.word.ensures c.in-Some.ensures c.next.ensures (λ y. rw (y, value-is correction_of good_correction c.args.step correction-only c.word.ensures c.in-Some.ensures) refl)

pub returns-in-None : goal.returns-in-None
unfolding step
returns-in-None c = λ d n g. passed-over correction_of good_correction c.args.step correction-only c.word.ensures c.in-None.ensures refl (λ y. rw y refl)

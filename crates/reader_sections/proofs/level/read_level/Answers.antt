-- `read_level` meets its contract: TOP or ABV, or a level of one word.
use mathlib.Core.Path.{◌≡◌, refl}
use Rattle.vocabulary.specs.Codes.{code-top, code-abv}
use Rattle.vocabulary.proofs.FixedWords.{fixed-top, fixed-abv}
use Rattle.figures.specs.Codes.{code_of}
use Rattle.levels.specs.Levels.{level_of, good_level_word}
use Rattle.grammar.specs.States.State.{at_level}
use Rattle.grammar.specs.States.{ToLocation}
use Rattle.grammar.specs.Steps.{levelled, step_level, step}
use Rattle.reader_sections.specs.declared.parts.Part.TheVariants as part
use Rattle.reader_sections.specs.declared.step.Step.{Step}
use Rattle.reader_sections.specs.Steps.{next_word, word_on}
use Rattle.reader_sections.proofs.WordKinds.{level-only}
use Rattle.reader_sections.proofs.Leads.{then-leads}
use Rattle.reader_sections.proofs.OneWord.{Accepts, with-word, code-no, required-leads}
use borrow.Author.Rules.{rules}
use Rattle.reader_sections.proofs.level.read_level.Goals as goal

level : (q : ToLocation) (from : Step) → (code_of (word_on from) ≡ code-top → ⊥) → (code_of (word_on from) ≡ code-abv → ⊥)
    → Accepts (at_level q) part.Level level_of good_level_word (levelled q) (next_word from)
unfolding step step_level
level q from n m = record { does = rw (code-no fixed-top from n, code-no fixed-abv from m) refl; number = refl; only = level-only }

pub returns-then-code-eq-TOP : goal.returns-then-code-eq-TOP
unfolding step step_level
returns-then-code-eq-TOP c = λ q. then-leads (with-word fixed-top _ (search rules) c.next.ensures (λ y. rw y refl)) (c.read_top.ensures q)

pub returns-then-code-eq-ABV : goal.returns-then-code-eq-ABV
unfolding step step_level
returns-then-code-eq-ABV c =
    λ q. then-leads (with-word fixed-abv _ (search rules) c.next-then-code-eq-ABV.ensures (λ y. rw (code-no fixed-top c.args.step (search rules), y) refl)) (c.read_above.ensures q)

pub returns : goal.returns
returns c = λ q. required-leads c.args.step (level q c.args.step (search rules) (search rules)) c.word.ensures c.level_word.ensures c.required.ensures

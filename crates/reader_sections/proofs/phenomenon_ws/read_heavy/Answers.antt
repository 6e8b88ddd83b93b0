-- `read_heavy` meets its contract: DS, or a word that is judged as SS.
use mathlib.Core.Path.{refl}
use borrow.Author.Rules.{rules}
use Rattle.std.specs.Prelude.{None}
use Rattle.vocabulary.specs.Codes.{code-ds, code-ss}
use Rattle.vocabulary.proofs.FixedWords.{fixed-ds, fixed-ss}
use Rattle.grammar.specs.States.State.{at_heavy}
use Rattle.grammar.specs.States.{ToArea}
use Rattle.grammar.specs.Steps.{step}
use Rattle.reader_sections.specs.declared.parts.Part.TheVariants.{Form}
use Rattle.reader_sections.specs.declared.step.Step.{Step}
use Rattle.reader_sections.specs.Phenomena.{observing}
use Rattle.reader_sections.specs.Steps.{next_word, Perhaps}
use Rattle.reader_sections.proofs.Leads.{leads-err}
use Rattle.reader_sections.proofs.OneWord.{AcceptsFixed, took-fixed, missed-fixed, given, without}
use Rattle.reader_sections.proofs.phenomenon_ws.read_heavy.Goals as goal

ss : (o : ToArea) (from : Step) → Perhaps code-ds from None → AcceptsFixed (at_heavy o) Form code-ss (observing o 14) (next_word from)
unfolding step
ss o from n = record { word = _; fixed = fixed-ss; does = rw (without fixed-ds from n) refl; number = refl }

pub returns-in-Some : goal.returns-in-Some
unfolding step
returns-in-Some c = λ o. record { says = given fixed-ds _ c.in-Some.ensures (λ y. rw y refl) }

pub returns-in_err-step : goal.returns-in_err-step
returns-in_err-step c = λ o. leads-err (missed-fixed (ss o _ c.in_default.ensures) c.in_err-step.ensures) (search rules)

pub returns : goal.returns
returns c = λ o. record { says = took-fixed (ss o _ c.in_default.ensures) c.in_ok-step.ensures }

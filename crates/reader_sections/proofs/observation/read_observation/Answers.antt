-- `read_observation` meets its contract: OBS, or a word that is judged as FCST, and what may follow.
use mathlib.Core.Path.{refl}
use borrow.Author.Rules.{rules}
use Rattle.vocabulary.specs.Codes.{code-obs, code-fcst}
use Rattle.vocabulary.proofs.FixedWords.{fixed-obs, fixed-fcst}
use Rattle.std.specs.Prelude.{None}
use Rattle.grammar.specs.States.State.{at_observation, at_observed}
use Rattle.grammar.specs.States.{ToPhenomenon}
use Rattle.grammar.specs.Steps.{step}
use Rattle.reader_sections.specs.declared.parts.Part.TheVariants as part
use Rattle.reader_sections.specs.declared.step.Step.{Step}
use Rattle.reader_sections.specs.Steps.{next_word, Perhaps}
use Rattle.reader_sections.proofs.Leads.{then-leads, leads-err}
use Rattle.reader_sections.proofs.OneWord.{AcceptsFixed, took-fixed, missed-fixed, given, without}
use Rattle.reader_sections.proofs.observation.read_observation.Goals as goal

fcst : (p : ToPhenomenon) (from : Step) → Perhaps code-obs from None → AcceptsFixed (at_observation p) part.Observation code-fcst (at_observed p 2) (next_word from)
unfolding step
fcst p from n = record { word = _; fixed = fixed-fcst; does = rw (without fixed-obs from n) refl; number = refl }

pub returns-in-Some : goal.returns-in-Some
unfolding step
returns-in-Some c = λ p. then-leads (given fixed-obs _ c.in-Some.ensures (λ y. rw y refl)) (c.read_observed.ensures p)

pub returns-in_err-step : goal.returns-in_err-step
returns-in_err-step c = λ p. leads-err (missed-fixed (fcst p _ c.in_default.ensures) c.in_err-step.ensures) (search rules)

pub returns : goal.returns
returns c = λ p. then-leads (took-fixed (fcst p _ c.in_default.ensures) c.in_ok-step.ensures) (c.read_observed-2.ensures p)

-- `read_storm` meets its contract: TS, or a word that is judged as TSGR.
use mathlib.Core.Path.{refl}
use Prim.Native.Nat.{ℕ, ◌*◌}
use borrow.Author.Rules.{rules}
use Rattle.std.specs.Prelude.{None}
use Rattle.vocabulary.specs.Codes.{code-ts, code-tsgr}
use Rattle.vocabulary.proofs.FixedWords.{fixed-ts, fixed-tsgr}
use Rattle.grammar.specs.States.State.{at_storm}
use Rattle.grammar.specs.States.{ToArea}
use Rattle.grammar.specs.Steps.{step}
use Rattle.reader_sections.specs.declared.parts.Part.TheVariants.{Form}
use Rattle.reader_sections.specs.declared.step.Step.{Step}
use Rattle.reader_sections.specs.Phenomena.{observing}
use Rattle.reader_sections.specs.Steps.{next_word, Perhaps}
use Rattle.reader_sections.proofs.Leads.{leads-err}
use Rattle.reader_sections.proofs.OneWord.{AcceptsFixed, took-fixed, missed-fixed, given, without}
use Rattle.reader_sections.proofs.phenomenon_ws.read_storm.Goals as goal

tsgr : (o : ToArea) (n : ℕ) (from : Step) → Perhaps code-ts from None → AcceptsFixed (at_storm o n) Form code-tsgr (observing o (2 * n)) (next_word from)
unfolding step
tsgr o n from absent = record { word = _; fixed = fixed-tsgr; does = rw (without fixed-ts from absent) refl; number = refl }

pub returns-in-Some : goal.returns-in-Some
unfolding step
returns-in-Some c = λ o. record { says = given fixed-ts _ c.in-Some.ensures (λ y. rw y refl) }

pub returns-in_err-step : goal.returns-in_err-step
returns-in_err-step c = λ o. leads-err (missed-fixed (tsgr o _ _ c.in_default.ensures) c.in_err-step.ensures) (search rules)

pub returns : goal.returns
returns c = λ o. record { says = took-fixed (tsgr o _ _ c.in_default.ensures) c.in_ok-step.ensures }

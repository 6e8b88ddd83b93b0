-- `read_test` meets its contract: without SIGMET the test is over, and with it the second text goes on.
use mathlib.Core.Path.{refl}
use borrow.Author.Rules.{rules}
use Rattle.vocabulary.proofs.FixedWords.{fixed-sigmet}
use Rattle.grammar.specs.States.State.{at_test, at_test_text}
use Rattle.grammar.specs.States.{ToArea}
use Rattle.grammar.specs.Steps.{step}
use Rattle.reader_sections.specs.Steps.{Reaches}
use Rattle.reader_sections.proofs.Leads.{then, then-ends, leads-err}
use Rattle.reader_sections.proofs.OneWord.{given, left_out}
use Rattle.reader_sections.proofs.test_texts.read_test.Goals as goal
use Rattle.reader_sections.proofs.test_texts.read_test.Goals.{In-Some}

past-sigmet : (c : In-Some) (o : ToArea) → Reaches (at_test o) c.args.step (at_test_text o 2 2) c.in-Some.step
unfolding step
past-sigmet c o = given fixed-sigmet _ c.in-Some.ensures (λ y. rw y refl)

pub returns-in_err-step : goal.returns-in_err-step
returns-in_err-step c = λ o. leads-err (then-ends (past-sigmet (goal.at.returns-in_err-step c).In-Some o) (c.in_err-step.ensures.second o).says) (search rules)

pub returns-in-Some : goal.returns-in-Some
returns-in-Some c = λ o. record { says = then (past-sigmet (goal.at.returns-in-Some c).In-Some o) (c.in_ok-step.ensures.second o).says }

pub returns : goal.returns
unfolding step
returns c = λ o. record { says = left_out fixed-sigmet _ c.in_default.ensures refl (λ n. rw n refl) }

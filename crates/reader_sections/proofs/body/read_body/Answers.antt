-- `read_body` meets its contract: by the first word.
use mathlib.Core.Path.{refl}
use borrow.Author.Rules.{rules}
use Rattle.vocabulary.proofs.FixedWords.{fixed-test, fixed-test-stop, fixed-cnl}
use Rattle.grammar.specs.States.State.{at_form}
use Rattle.grammar.specs.Steps.{step_form, step}
use Rattle.reader_sections.specs.Openings.{area_in}
use Rattle.reader_sections.proofs.Leads.{then-leads}
use Rattle.reader_sections.proofs.OneWord.{with-word, code-no}
use Rattle.reader_sections.proofs.body.read_body.Goals as goal

pub returns-then-code-eq-TEST : goal.returns-then-code-eq-TEST
unfolding step step_form
returns-then-code-eq-TEST c =
    c.unreported.ensures (at_form (area_in c.args.opening)) c.args.step (then-leads (with-word fixed-test c.args.step (search rules) c.next.ensures (λ y. rw y refl)) (c.read_test.ensures _))

pub returns-then-code-eq-TEST_STOP : goal.returns-then-code-eq-TEST_STOP
unfolding step step_form
returns-then-code-eq-TEST_STOP c = c.unreported-then-code-eq-TEST_STOP.ensures (at_form (area_in c.args.opening)) c.args.step
    (then-leads (with-word fixed-test-stop c.args.step (search rules) c.next-then-code-eq-TEST_STOP.ensures (λ y. rw (code-no fixed-test c.args.step (search rules), y) refl)) (c.read_long_test.ensures _))

pub returns-then-code-eq-CNL : goal.returns-then-code-eq-CNL
unfolding step step_form
returns-then-code-eq-CNL c = c.unreported-then-code-eq-CNL.ensures (at_form (area_in c.args.opening)) c.args.step
    (then-leads
    (with-word fixed-cnl c.args.step (search rules) c.next-then-code-eq-CNL.ensures (λ y. rw (code-no fixed-test c.args.step (search rules), code-no fixed-test-stop c.args.step (search rules), y) refl))
    (c.read_cancellation.ensures _ refl))

pub returns : goal.returns
returns c = c.read_report.ensures (record {
  no_test = code-no fixed-test c.args.step (search rules);
  no-long-test = code-no fixed-test-stop c.args.step (search rules);
  no-cancellation = code-no fixed-cnl c.args.step (search rules);
})

-- `read_long_test` meets its contract: the words of the longest text, one after another.
use borrow.Author.Rules.{rules}
use mathlib.Core.List.{List}
use mathlib.Core.Path.{refl}
use Prim.Native.Nat.{ℕ}
use Rattle.vocabulary.specs.Codes.{code-a, code_is, code-sigmet-comma, code-test, code-this}
use Rattle.vocabulary.proofs.FixedWords.{fixed-test, fixed-this, fixed-is, fixed-a, fixed-sigmet-comma}
use Rattle.message.specs.Words.{test_texts}
use Rattle.grammar.specs.Records.{test_of}
use Rattle.grammar.specs.States.State.{at_test_text, at_end}
use Rattle.grammar.specs.States.{ToArea}
use Rattle.grammar.specs.Steps.{step}
use Rattle.reader_sections.specs.declared.parts.Part.TheVariants.{Form}
use Rattle.reader_sections.specs.Steps.{Reaches}
use Rattle.reader_sections.proofs.Leads.{leads-err, then, then-ends}
use Rattle.reader_sections.proofs.OneWord.{AcceptsFixed, missed-fixed, took-fixed}
use Rattle.reader_sections.proofs.test_texts.read_long_test.Goals as goal
use Rattle.reader_sections.proofs.test_texts.read_long_test.Goals.{In_ok-step, In_ok-step-2, In_ok-step-3, In_ok-step-4, In_ok-step-5, In_ok-step-6}

this : (o : ToArea) (w : List ℕ) → AcceptsFixed (at_test_text o 3 1) Form code-this (at_test_text o 3 2) w
unfolding step test_texts
this o w = record { word = _; fixed = fixed-this; does = refl; number = refl }

is : (o : ToArea) (w : List ℕ) → AcceptsFixed (at_test_text o 3 2) Form code_is (at_test_text o 3 3) w
unfolding step test_texts
is o w = record { word = _; fixed = fixed-is; does = refl; number = refl }

a : (o : ToArea) (w : List ℕ) → AcceptsFixed (at_test_text o 3 3) Form code-a (at_test_text o 3 4) w
unfolding step test_texts
a o w = record { word = _; fixed = fixed-a; does = refl; number = refl }

test : (o : ToArea) (w : List ℕ) → AcceptsFixed (at_test_text o 3 4) Form code-test (at_test_text o 3 5) w
unfolding step test_texts
test o w = record { word = _; fixed = fixed-test; does = refl; number = refl }

sigmet : (o : ToArea) (w : List ℕ) → AcceptsFixed (at_test_text o 3 5) Form code-sigmet-comma (at_test_text o 3 6) w
unfolding step test_texts
sigmet o w = record { word = _; fixed = fixed-sigmet-comma; does = refl; number = refl }

past-step : (c : In_ok-step) (o : ToArea) → Reaches (at_test_text o 3 1) c.args.step (at_test_text o 3 2) c.in_ok-step.step
past-step c o = took-fixed (this o _) c.in_ok-step.ensures

past-step-2 : (c : In_ok-step-2) (o : ToArea) → Reaches (at_test_text o 3 1) c.args.step (at_test_text o 3 3) c.in_ok-step-2.step
past-step-2 c o = then (past-step (goal.at.In_ok-step-2 c).In_ok-step o) (took-fixed (is o _) c.in_ok-step-2.ensures)

past-step-3 : (c : In_ok-step-3) (o : ToArea) → Reaches (at_test_text o 3 1) c.args.step (at_test_text o 3 4) c.in_ok-step-3.step
past-step-3 c o = then (past-step-2 (goal.at.In_ok-step-3 c).In_ok-step-2 o) (took-fixed (a o _) c.in_ok-step-3.ensures)

past-step-4 : (c : In_ok-step-4) (o : ToArea) → Reaches (at_test_text o 3 1) c.args.step (at_test_text o 3 5) c.in_ok-step-4.step
past-step-4 c o = then (past-step-3 (goal.at.In_ok-step-4 c).In_ok-step-3 o) (took-fixed (test o _) c.in_ok-step-4.ensures)

past-step-5 : (c : In_ok-step-5) (o : ToArea) → Reaches (at_test_text o 3 1) c.args.step (at_test_text o 3 6) c.in_ok-step-5.step
past-step-5 c o = then (past-step-4 (goal.at.In_ok-step-5 c).In_ok-step-4 o) (took-fixed (sigmet o _) c.in_ok-step-5.ensures)

past-step-6 : (c : In_ok-step-6) (o : ToArea) → Reaches (at_test_text o 3 1) c.args.step (at_end (test_of o 3)) c.in_ok-step-6.step
past-step-6 c o = then (past-step-5 (goal.at.In_ok-step-6 c).In_ok-step-5 o) ((c.in_ok-step-6.ensures.third o).says)

pub returns-in_err-step : goal.returns-in_err-step
returns-in_err-step c = λ o. leads-err (missed-fixed (this o _) c.in_err-step.ensures) (search rules)

pub returns-in_err-step-2 : goal.returns-in_err-step-2
returns-in_err-step-2 c = λ o. leads-err (then-ends (past-step (goal.at.returns-in_err-step-2 c).In_ok-step o) (missed-fixed (is o _) c.in_err-step-2.ensures)) (search rules)

pub returns-in_err-step-3 : goal.returns-in_err-step-3
returns-in_err-step-3 c = λ o. leads-err (then-ends (past-step-2 (goal.at.returns-in_err-step-3 c).In_ok-step-2 o) (missed-fixed (a o _) c.in_err-step-3.ensures)) (search rules)

pub returns-in_err-step-4 : goal.returns-in_err-step-4
returns-in_err-step-4 c = λ o. leads-err (then-ends (past-step-3 (goal.at.returns-in_err-step-4 c).In_ok-step-3 o) (missed-fixed (test o _) c.in_err-step-4.ensures)) (search rules)

pub returns-in_err-step-5 : goal.returns-in_err-step-5
returns-in_err-step-5 c = λ o. leads-err (then-ends (past-step-4 (goal.at.returns-in_err-step-5 c).In_ok-step-4 o) (missed-fixed (sigmet o _) c.in_err-step-5.ensures)) (search rules)

pub returns-in_err-step-6 : goal.returns-in_err-step-6
returns-in_err-step-6 c = λ o. leads-err (then-ends (past-step-5 (goal.at.returns-in_err-step-6 c).In_ok-step-5 o) ((c.in_err-step-6.ensures.third o).says)) (search rules)

pub returns : goal.returns
returns c = λ o. record { says = past-step-6 (goal.at.returns c).In_ok-step-6 o }

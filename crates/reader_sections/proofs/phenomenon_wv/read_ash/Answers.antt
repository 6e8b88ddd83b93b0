-- `read_ash` meets its contract: VA, and then CLD, or ERUPTION and what follows it.
use mathlib.Core.Path.{◌≡◌, refl}
use native.Mathlib.Omega.{arith}
use borrow.Author.Rules.{rules}
use Rattle.std.specs.Prelude.{None}
use Rattle.lists.specs.Text.{bytes}
use Rattle.vocabulary.specs.Codes.{code-cld, code-va}
use Rattle.vocabulary.proofs.FixedWords.{fixed-va, fixed-cld}
use Rattle.grammar.specs.Placing.{is}
use Rattle.grammar.specs.States.State.{at_form, at_ash, at_eruption}
use Rattle.grammar.specs.States.{ToArea}
use Rattle.grammar.specs.Steps.{goes_if, step}
use Rattle.reader_sections.specs.declared.parts.Part.TheVariants.{Form}
use Rattle.reader_sections.specs.declared.step.Step.{Step}
use Rattle.reader_sections.specs.Steps.{next_word, Perhaps, Reaches}
use Rattle.reader_sections.proofs.Leads.{then, then-ends, leads-err}
use Rattle.reader_sections.proofs.OneWord.{AcceptsFixed, AcceptsLong, took-fixed, missed-fixed, took-long, missed-long, given, without}
use Rattle.reader_sections.proofs.phenomenon_wv.read_ash.Goals as goal
use Rattle.reader_sections.proofs.phenomenon_wv.read_ash.Goals.{In_ok-step, In_ok-step-2}

abbrev Judged : ToArea → Step → Type 0
Judged o from = step (at_form o) (next_word from) ≡ goes_if (is "VA" (next_word from)) (at_ash o)

va : (o : ToArea) (from : Step) → Judged o from → AcceptsFixed (at_form o) Form code-va (at_ash o) (next_word from)
va o from j = record { word = _; fixed = fixed-va; does = j; number = refl }

erupts : (o : ToArea) (from : Step) → Perhaps code-cld from None → AcceptsLong (at_ash o) Form (bytes "ERUPTION") (at_eruption o) (next_word from)
unfolding step
erupts o from n = record { does = rw (without fixed-cld from n) refl; number = refl; some = omega arith }

past-va : (c : In_ok-step) (o : ToArea) → Judged o c.args.step → Reaches (at_form o) c.args.step (at_ash o) c.in_ok-step.step
past-va c o j = took-fixed (va o c.args.step j) c.in_ok-step.ensures

past-eruption : (c : In_ok-step-2) (o : ToArea) → Judged o c.args.step → Reaches (at_form o) c.args.step (at_eruption o) c.in_ok-step-2.step
past-eruption c o j = then (past-va (goal.at.In_ok-step-2 c).In_ok-step o j) (took-long _ (erupts o _ c.in_default.ensures) c.in_ok-step-2.ensures)

pub returns-in_err-step : goal.returns-in_err-step
returns-in_err-step c = record { says = λ o j. leads-err (missed-fixed (va o c.args.step j) c.in_err-step.ensures) (search rules) }

pub returns-in-Some : goal.returns-in-Some
unfolding step
returns-in-Some c = record { says = λ o j. record { says = then (past-va (goal.at.returns-in-Some c).In_ok-step o j) (given fixed-cld _ c.in-Some.ensures (λ y. rw y refl)) } }

pub returns-in_err-step-2 : goal.returns-in_err-step-2
returns-in_err-step-2 c = record {
  says = λ o j. leads-err (then-ends (past-va (goal.at.returns-in_err-step-2 c).In_ok-step o j) (missed-long _ (erupts o _ c.in_default.ensures) c.in_err-step-2.ensures)) (search rules);
}

pub returns-in_err-volcano : goal.returns-in_err-volcano
returns-in_err-volcano c = record { says = λ o j. leads-err (then-ends (past-eruption (goal.at.returns-in_err-volcano c).In_ok-step-2 o j) (c.in_err-volcano.ensures o).says) (search rules) }

pub returns : goal.returns
returns c = record { says = λ o j. record { says = then (past-eruption (goal.at.returns c).In_ok-step-2 o j) (c.in_ok-volcano.ensures o).says } }

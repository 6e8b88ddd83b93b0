-- `read_severe` meets its contract: TURB, MTW, or a word that is judged as ICE, and after ICE perhaps (FZRA).
use mathlib.Core.Path.{refl}
use borrow.Author.Rules.{rules}
use Rattle.std.specs.Prelude.{None}
use Rattle.vocabulary.specs.Codes.{code-turb, code-mtw, code-ice}
use Rattle.vocabulary.proofs.FixedWords.{fixed-turb, fixed-mtw, fixed-ice, fixed-freezing-rain}
use Rattle.grammar.specs.States.State.{at_severe, at_ice}
use Rattle.grammar.specs.States.{ToArea}
use Rattle.grammar.specs.Steps.{step}
use Rattle.reader_sections.specs.declared.parts.Part.TheVariants.{Form}
use Rattle.reader_sections.specs.declared.step.Step.{Step}
use Rattle.reader_sections.specs.Steps.{next_word, Perhaps, Reaches}
use Rattle.reader_sections.proofs.Leads.{then, leads-err}
use Rattle.reader_sections.proofs.OneWord.{AcceptsFixed, took-fixed, missed-fixed, given, left_out, without, code-other}
use Rattle.reader_sections.proofs.phenomenon_ws.read_severe.Goals as goal
use Rattle.reader_sections.proofs.phenomenon_ws.read_severe.Goals.{In_ok-step}

-- neither TURB nor MTW
ice : (o : ToArea) (from : Step) → Perhaps code-turb from None → Perhaps code-mtw from None → AcceptsFixed (at_severe o) Form code-ice (at_ice o) (next_word from)
unfolding step
ice o from t m = record { word = _; fixed = fixed-ice; does = rw (without fixed-turb from t, without fixed-mtw from m) refl; number = refl }

past-ice : (c : In_ok-step) (o : ToArea) → Reaches (at_severe o) c.args.step (at_ice o) c.in_ok-step.step
past-ice c o = took-fixed (ice o _ c.in_default.ensures c.in_default-perhaps.ensures) c.in_ok-step.ensures

pub returns-in-Some : goal.returns-in-Some
unfolding step
returns-in-Some c = λ o. record { says = given fixed-turb _ c.in-Some.ensures (λ y. rw y refl) }

pub returns-in-Some-perhaps : goal.returns-in-Some-perhaps
unfolding step
returns-in-Some-perhaps c = λ o. record {
  says = given fixed-mtw _ c.in-Some-perhaps.ensures (λ y. rw (without fixed-turb _ c.in_default.ensures, code-other fixed-mtw fixed-ice _ c.in-Some-perhaps.ensures (search rules), y) refl);
}

pub returns-in_err-step : goal.returns-in_err-step
returns-in_err-step c = λ o. leads-err (missed-fixed (ice o _ c.in_default.ensures c.in_default-perhaps.ensures) c.in_err-step.ensures) (search rules)

pub returns-in-Some-perhaps-2 : goal.returns-in-Some-perhaps-2
unfolding step
returns-in-Some-perhaps-2 c = λ o. record { says = then (past-ice (goal.at.returns-in-Some-perhaps-2 c).In_ok-step o) (given fixed-freezing-rain _ c.in-Some-perhaps-2.ensures (λ y. rw y refl)) }

pub returns : goal.returns
unfolding step
returns c = λ o. record { says = then (past-ice (goal.at.returns c).In_ok-step o) (left_out fixed-freezing-rain _ c.in_default-perhaps-2.ensures refl (λ n. rw n refl)) }

-- `read_mountain` meets its contract: with MT a name and PSN, without it PSN.
use mathlib.Core.Bool.{true}
use mathlib.Core.Path.{refl}
use borrow.Author.Rules.{rules}
use Rattle.std.specs.Prelude.{None}
use Rattle.vocabulary.specs.Codes.{code-mt, code-psn}
use Rattle.vocabulary.proofs.FixedWords.{fixed-mt, fixed-psn}
use Rattle.message.specs.declared.Name.{Name}
use Rattle.message.specs.Limits.{mountain_limit}
use Rattle.message.specs.Names.{no_name}
use Rattle.grammar.specs.States.State.{at_eruption, at_mountain, at_more_mountain, at_position}
use Rattle.grammar.specs.States.{ToArea}
use Rattle.grammar.specs.Steps.{step}
use Rattle.reader_sections.specs.declared.parts.Part.TheVariants.{Form}
use Rattle.reader_sections.specs.declared.step.Step.{Step}
use Rattle.reader_sections.specs.Names.{text_of, Named}
use Rattle.reader_sections.specs.Steps.{next_word, Perhaps, Reaches}
use Rattle.reader_sections.proofs.Leads.{then, then-ends, leads-err}
use Rattle.reader_sections.proofs.NameText.{mountain_closed, mountain-takes, name-closed}
use Rattle.reader_sections.proofs.OneWord.{AcceptsFixed, took-fixed, missed-fixed, given, without}
use Rattle.reader_sections.proofs.phenomenon_wv.read_mountain.Goals as goal
use Rattle.reader_sections.proofs.phenomenon_wv.read_mountain.Goals.{In-Some, In_ok-name}

psn : (o : ToArea) (n : Name) (p : Step) → Named true mountain_limit n p → AcceptsFixed (at_more_mountain o (text_of n)) Form code-psn (at_position o n) (next_word p)
unfolding step
psn o n p named = record { word = _; fixed = fixed-psn; does = name-closed (mountain_closed o) named (mountain-takes o); number = refl }

psn-alone : (o : ToArea) (from : Step) → Perhaps code-mt from None → AcceptsFixed (at_eruption o) Form code-psn (at_position o no_name) (next_word from)
unfolding step
psn-alone o from n = record { word = _; fixed = fixed-psn; does = rw (without fixed-mt from n) refl; number = refl }

past-mt : (c : In-Some) (o : ToArea) → Reaches (at_eruption o) c.args.step (at_mountain o) c.in-Some.step
unfolding step
past-mt c o = given fixed-mt _ c.in-Some.ensures (λ y. rw y refl)

past-name : (c : In_ok-name) (o : ToArea) → Reaches (at_eruption o) c.args.step (at_more_mountain o (text_of c.in_ok-name.name)) c.in_ok-name.step
past-name c o = then (past-mt (goal.at.In_ok-name c).In-Some o) (c.in_ok-name.ensures.says _ _ _ (mountain-takes o)).says

pub returns-in_err-name : goal.returns-in_err-name
returns-in_err-name c = λ o. leads-err (then-ends (past-mt (goal.at.returns-in_err-name c).In-Some o) (c.in_err-name.ensures.says _ _ _ (mountain-takes o)).says) (search rules)

pub returns-in_err-step : goal.returns-in_err-step
returns-in_err-step c =
    λ o. leads-err (then-ends (past-name (goal.at.returns-in_err-step c).In_ok-name o) (missed-fixed (psn o _ _ c.in_ok-name.ensures.whole) c.in_err-step.ensures)) (search rules)

pub returns-in-Some : goal.returns-in-Some
returns-in-Some c = λ o. record { says = then (past-name (goal.at.returns-in-Some c).In_ok-name o) (took-fixed (psn o _ _ c.in_ok-name.ensures.whole) c.in_ok-step.ensures) }

pub returns-in_err-step-2 : goal.returns-in_err-step-2
returns-in_err-step-2 c = λ o. leads-err (missed-fixed (psn-alone o _ c.in_default.ensures) c.in_err-step-2.ensures) (search rules)

pub returns : goal.returns
returns c = λ o. record { says = took-fixed (psn-alone o _ c.in_default.ensures) c.in_ok-step-2.ensures }

-- `read_weather` meets its contract: a storm is told by its place in the table of codes, and the rest is a choice by codes.
use mathlib.Core.Path.{◌≡◌, refl, ◌∙◌}
use borrow.Author.Rules.{rules}
use Rattle.vocabulary.specs.Codes.{code-rdoact}
use Rattle.vocabulary.proofs.FixedWords.{fixed-sev, fixed-hvy, fixed-rdoact}
use Rattle.grammar.specs.States.State.{at_form, at_radioactive}
use Rattle.grammar.specs.States.{ToArea}
use Rattle.grammar.specs.Steps.{step_weather, step}
use Rattle.reader_sections.specs.declared.parts.Part.TheVariants.{Form}
use Rattle.reader_sections.specs.declared.step.Step.{Step}
use Rattle.reader_sections.specs.Steps.{next_word}
use Rattle.reader_sections.proofs.Leads.{then-leads, leads-err}
use Rattle.reader_sections.proofs.OneWord.{AcceptsFixed, took-fixed, missed-fixed, with-word, code-no}
use Rattle.reader_sections.proofs.Storms.{goes-storm, no-storm}
use Rattle.reader_sections.proofs.phenomenon_ws.read_weather.Goals as goal
use Rattle.reader_sections.proofs.phenomenon_ws.read_weather.Goals.{Else-code-eq-HVY}

abbrev Judged : ToArea → Step → Type 0
Judged o from = step (at_form o) (next_word from) ≡ step_weather o (next_word from)

rdoact : (c : Else-code-eq-HVY) (o : ToArea) → Judged o c.args.step → AcceptsFixed (at_form o) Form code-rdoact (at_radioactive o) (next_word c.args.step)
rdoact c o j = record {
  word = _;
  fixed = fixed-rdoact;
  does = j ∙ rw (no-storm c.args.step (search rules), code-no fixed-sev c.args.step (search rules), code-no fixed-hvy c.args.step (search rules)) refl;
  number = refl;
}

pub returns-in-Some : goal.returns-in-Some
returns-in-Some c = record { says = λ o j. then-leads (goes-storm c.args.step (search rules) c.next.ensures o j) (c.read_storm.ensures o) }

pub returns-then-code-eq-SEV : goal.returns-then-code-eq-SEV
returns-then-code-eq-SEV c = record {
  says = λ o j. then-leads (with-word fixed-sev c.args.step (search rules) c.next-then-code-eq-SEV.ensures (λ y. j ∙ rw (no-storm c.args.step (search rules), y) refl)) (c.read_severe.ensures o);
}

pub returns-then-code-eq-HVY : goal.returns-then-code-eq-HVY
returns-then-code-eq-HVY c = record {
  says = λ o j. then-leads
      (with-word fixed-hvy c.args.step (search rules) c.next-then-code-eq-HVY.ensures (λ y. j ∙ rw (no-storm c.args.step (search rules), code-no fixed-sev c.args.step (search rules), y) refl))
      (c.read_heavy.ensures o);
}

pub returns-in_err-step : goal.returns-in_err-step
returns-in_err-step c = record { says = λ o j. leads-err (missed-fixed (rdoact (goal.at.returns-in_err-step c).Else-code-eq-HVY o j) c.in_err-step.ensures) (search rules) }

pub returns : goal.returns
returns c = record { says = λ o j. then-leads (took-fixed (rdoact (goal.at.returns c).Else-code-eq-HVY o j) c.in_ok-step.ensures) (c.read_radioactive.ensures o) }

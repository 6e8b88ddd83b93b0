-- `read_opening` meets its contract: its three parts, one after another.
use borrow.Author.Rules.{rules}
use Rattle.grammar.specs.States.State.{at_designator, at_unit, at_indicator, at_form}
use Rattle.reader_sections.specs.Steps.{Reaches}
use Rattle.reader_sections.proofs.Leads.{leads-err, then, then-ends}
use Rattle.reader_sections.proofs.opening.read_opening.Goals as goal
use Rattle.reader_sections.proofs.opening.read_opening.Goals.{In_ok-heading, In_ok-line, In_ok-area}

past-heading : (c : In_ok-heading) → Reaches at_designator c.args.step (at_unit c.in_ok-heading.heading) c.in_ok-heading.step
past-heading c = (c.in_ok-heading.ensures).says

past-line : (c : In_ok-line) → Reaches at_designator c.args.step (at_indicator c.in_ok-heading.heading c.in_ok-line.line) c.in_ok-line.step
past-line c = then (past-heading (goal.at.In_ok-line c).In_ok-heading) ((c.in_ok-line.ensures c.in_ok-heading.heading).says)

past-area : (c : In_ok-area) → Reaches at_designator c.args.step (at_form (record { heading = c.in_ok-heading.heading; line = c.in_ok-line.line; area = c.in_ok-area.area })) c.in_ok-area.step
past-area c = then (past-line (goal.at.In_ok-area c).In_ok-line) ((c.in_ok-area.ensures c.in_ok-heading.heading c.in_ok-line.line).says)

pub returns-in_err-heading : goal.returns-in_err-heading
returns-in_err-heading c = leads-err ((c.in_err-heading.ensures).says) (search rules)

pub returns-in_err-line : goal.returns-in_err-line
returns-in_err-line c = leads-err (then-ends (past-heading (goal.at.returns-in_err-line c).In_ok-heading) ((c.in_err-line.ensures c.in_ok-heading.heading).says)) (search rules)

pub returns-in_err-area : goal.returns-in_err-area
returns-in_err-area c = leads-err (then-ends (past-line (goal.at.returns-in_err-area c).In_ok-line) ((c.in_err-area.ensures c.in_ok-heading.heading c.in_ok-line.line).says)) (search rules)

pub returns : goal.returns
returns c = record { says = past-area (goal.at.returns c).In_ok-area }

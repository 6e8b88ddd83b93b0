-- `read_up_to_level` meets its contract: its parts one after another.
use mathlib.Core.Path.{refl}
use borrow.Author.Rules.{rules}
use Rattle.grammar.specs.States.Placing.{at_location}
use Rattle.grammar.specs.States.Site.{in_report}
use Rattle.grammar.specs.States.State.{at_form, at_observation, at_place, at_level, at_ending}
use Rattle.grammar.specs.States.{ToPhenomenon, ToObservation, ToLocation}
use Rattle.reader_sections.specs.Openings.{area_in}
use Rattle.reader_sections.specs.Reports.{Reporting}
use Rattle.reader_sections.specs.Steps.{next_word, Reaches}
use Rattle.reader_sections.proofs.Leads.{then, then-ends, leads-err}
use Rattle.reader_sections.proofs.report.read_up_to_level.Goals as goal
use Rattle.reader_sections.proofs.report.read_up_to_level.Goals.{In_ok-phenomenon, In_ok-observation, In_ok-extent, In_ok-level}

abbrev phenomenon : In_ok-phenomenon → ToPhenomenon
phenomenon c = record { before = area_in c.args.opening; phenomenon = c.in_ok-phenomenon.phenomenon; volcano = c.in_ok-phenomenon.volcano }

abbrev observation : In_ok-observation → ToObservation
observation c = record { before = phenomenon (goal.at.In_ok-observation c).In_ok-phenomenon; observation = c.in_ok-observation.observation }

abbrev location : In_ok-extent → ToLocation
location c = record { before = observation (goal.at.In_ok-extent c).In_ok-observation; extent = c.in_ok-extent.extent }

past-phenomenon : (c : In_ok-phenomenon) → Reporting (next_word c.args.step) → Reaches (at_form (area_in c.args.opening)) c.args.step (at_observation (phenomenon c)) c.in_ok-phenomenon.step
past-phenomenon c r = (c.in_ok-phenomenon.ensures.says _ refl r).says

past-observation : (c : In_ok-observation) → Reporting (next_word c.args.step)
    → Reaches (at_form (area_in c.args.opening)) c.args.step (at_place (in_report (observation c)) at_location) c.in_ok-observation.step
past-observation c r = then (past-phenomenon (goal.at.In_ok-observation c).In_ok-phenomenon r) (c.in_ok-observation.ensures _).says

past-extent : (c : In_ok-extent) → Reporting (next_word c.args.step) → Reaches (at_form (area_in c.args.opening)) c.args.step (at_level (location c)) c.in_ok-extent.step
past-extent c r = then (past-observation (goal.at.In_ok-extent c).In_ok-observation r) (c.in_ok-extent.ensures.says (in_report _) refl refl).says

past-level : (c : In_ok-level) → Reporting (next_word c.args.step)
    → Reaches (at_form (area_in c.args.opening)) c.args.step (at_ending (record { before = location (goal.at.In_ok-level c).In_ok-extent; level = c.in_ok-level.level })) c.in_ok-level.step
past-level c r = then (past-extent (goal.at.In_ok-level c).In_ok-extent r) (c.in_ok-level.ensures _).says

pub returns-in_err-phenomenon : goal.returns-in_err-phenomenon
returns-in_err-phenomenon c = λ r. leads-err (c.in_err-phenomenon.ensures.says _ refl r).says (search rules)

pub returns-in_err-observation : goal.returns-in_err-observation
returns-in_err-observation c = λ r. leads-err (then-ends (past-phenomenon (goal.at.returns-in_err-observation c).In_ok-phenomenon r) (c.in_err-observation.ensures _).says) (search rules)

pub returns-in_err-extent : goal.returns-in_err-extent
returns-in_err-extent c =
    λ r. leads-err (then-ends (past-observation (goal.at.returns-in_err-extent c).In_ok-observation r) (c.in_err-extent.ensures.says (in_report _) refl refl).says) (search rules)

pub returns-in_err-level : goal.returns-in_err-level
returns-in_err-level c = λ r. leads-err (then-ends (past-extent (goal.at.returns-in_err-level c).In_ok-extent r) (c.in_err-level.ensures _).says) (search rules)

pub returns : goal.returns
returns c = λ r. record { says = past-level (goal.at.returns c).In_ok-level r }

-- `read_forecast` meets its contract: what comes before its location, and the location at the forecast.
use mathlib.Core.Path.{refl}
use borrow.Author.Rules.{rules}
use Rattle.message.specs.declared.Ending.TheVariants.{Forecast}
use Rattle.grammar.specs.Records.{report_of}
use Rattle.grammar.specs.States.Placing.{at_location}
use Rattle.grammar.specs.States.Site.{in_forecast}
use Rattle.grammar.specs.States.State.{at_ending, at_place, at_end}
use Rattle.reader_sections.specs.Endings.{level_in, Forecasts}
use Rattle.reader_sections.specs.Steps.{next_word, Reaches}
use Rattle.reader_sections.proofs.Leads.{then, then-ends, leads-err}
use Rattle.reader_sections.proofs.ending.read_forecast.Goals as goal
use Rattle.reader_sections.proofs.ending.read_forecast.Goals.{In_ok-intensity, In_ok-forecast}

past-words : (c : In_ok-intensity) → Forecasts (level_in c.args.known) (next_word c.args.step)
    → Reaches (at_ending (level_in c.args.known)) c.args.step (at_place (in_forecast (level_in c.args.known) c.in_ok-intensity.intensity) at_location) c.in_ok-intensity.step
past-words c f = (c.in_ok-intensity.ensures.says (level_in c.args.known) refl f).says

past-location : (c : In_ok-forecast) → Forecasts (level_in c.args.known) (next_word c.args.step)
    → Reaches (at_ending (level_in c.args.known)) c.args.step
    (at_end (report_of (level_in c.args.known) (Forecast c.in_ok-intensity.intensity) c.in_ok-forecast.forecast)) c.in_ok-forecast.step
past-location c f =
    then (past-words (goal.at.In_ok-forecast c).In_ok-intensity f) (c.in_ok-forecast.ensures.says (in_forecast (level_in c.args.known) c.in_ok-intensity.intensity) refl refl).says

pub returns-in_err-intensity : goal.returns-in_err-intensity
returns-in_err-intensity c = λ f. leads-err (c.in_err-intensity.ensures.says (level_in c.args.known) refl f).says (search rules)

pub returns-in_err-forecast : goal.returns-in_err-forecast
returns-in_err-forecast c = λ f. leads-err
    (then-ends (past-words (goal.at.returns-in_err-forecast c).In_ok-intensity f) (c.in_err-forecast.ensures.says (in_forecast (level_in c.args.known) c.in_ok-intensity.intensity) refl refl).says)
    (search rules)

pub returns : goal.returns
returns c = λ f. record { says = past-location (goal.at.returns c).In_ok-forecast f }

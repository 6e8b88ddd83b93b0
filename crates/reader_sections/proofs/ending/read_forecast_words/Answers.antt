-- `read_forecast_words` meets its contract: four words, the first of which is judged as the intensity.
use borrow.Author.Rules.{rules}
use mathlib.Core.List.{List}
use mathlib.Core.Path.{◌≡◌, refl, ap}
use Prim.Native.Nat.{ℕ}
use Rattle.vocabulary.specs.Codes.{code-fcst, code_at}
use Rattle.vocabulary.proofs.FixedWords.{fixed-fcst, fixed-at}
use Rattle.groups.specs.declared.Time.{Time}
use Rattle.groups.specs.Groups.{time_of}
use Rattle.motions.specs.Motions.{intensity_of, good_intensity}
use Rattle.grammar.specs.States.Placing.{at_location}
use Rattle.grammar.specs.States.Site.{in_forecast}
use Rattle.grammar.specs.States.State.{at_ending, at_forecast, at_forecast_at, at_forecast_time, at_place}
use Rattle.grammar.specs.States.{ToLevel}
use Rattle.grammar.specs.Steps.{goes_if, end_time, step}
use Rattle.reader_sections.specs.declared.parts.Part.TheVariants as part
use Rattle.reader_sections.specs.Endings.{forecast_time, Forecasts}
use Rattle.reader_sections.specs.Steps.{next_word}
use Rattle.reader_sections.proofs.WordKinds.{intensity-only, forecast-only}
use Rattle.reader_sections.specs.Steps.{Reaches}
use Rattle.reader_sections.proofs.Leads.{leads-err, then, then-ends}
use Rattle.reader_sections.proofs.OneWord.{Accepts, AcceptsFixed, missed, missed-fixed, took, took-fixed}
use Rattle.reader_sections.proofs.ending.read_forecast_words.Goals as goal
use Rattle.reader_sections.proofs.ending.read_forecast_words.Goals.{In_ok-intensity, In_ok-step, In_ok-step-2, In_ok-step-3}

intensity : (l : ToLevel) (w : List ℕ) → Forecasts l w → Accepts (at_ending l) part.Ending intensity_of good_intensity (at_forecast l) w
intensity l w f = record { does = f; number = refl; only = intensity-only }

fcst : (l : ToLevel) (i : ℕ) (w : List ℕ) → AcceptsFixed (at_forecast l i) part.Ending code-fcst (at_forecast_at l i) w
unfolding step
fcst l i w = record { word = _; fixed = fixed-fcst; does = refl; number = refl }

at : (l : ToLevel) (i : ℕ) (w : List ℕ) → AcceptsFixed (at_forecast_at l i) part.Ending code_at (at_forecast_time l i) w
unfolding step
at l i w = record { word = _; fixed = fixed-at; does = refl; number = refl }

time : (l : ToLevel) (i : ℕ) (w : List ℕ) {until : Time} → end_time l ≡ until
    → Accepts (at_forecast_time l i) part.Ending time_of (forecast_time until) (λ (t : Time). at_place (in_forecast l i) at_location) w
unfolding step
time l i w {until} e = record {
  does = ap (λ (u : Time). goes_if (forecast_time u (time_of w)) (at_place (in_forecast l i) at_location)) e;
  number = refl;
  only = forecast-only until;
}

past-intensity : (c : In_ok-intensity) (l : ToLevel) (e : end_time l ≡ c.args.until) (f : Forecasts l (next_word c.args.step)) → Reaches (at_ending l) c.args.step (at_forecast l c.in_ok-intensity.intensity) c.in_ok-intensity.step
past-intensity c l e f = took _ (intensity l _ f) c.word.ensures c.intensity_word.ensures c.in_ok-intensity.ensures

past-step : (c : In_ok-step) (l : ToLevel) (e : end_time l ≡ c.args.until) (f : Forecasts l (next_word c.args.step)) → Reaches (at_ending l) c.args.step (at_forecast_at l c.in_ok-intensity.intensity) c.in_ok-step.step
past-step c l e f = then (past-intensity (goal.at.In_ok-step c).In_ok-intensity l e f) (took-fixed (fcst l _ _) c.in_ok-step.ensures)

past-step-2 : (c : In_ok-step-2) (l : ToLevel) (e : end_time l ≡ c.args.until) (f : Forecasts l (next_word c.args.step)) → Reaches (at_ending l) c.args.step (at_forecast_time l c.in_ok-intensity.intensity) c.in_ok-step-2.step
past-step-2 c l e f = then (past-step (goal.at.In_ok-step-2 c).In_ok-step l e f) (took-fixed (at l _ _) c.in_ok-step-2.ensures)

past-step-3 : (c : In_ok-step-3) (l : ToLevel) (e : end_time l ≡ c.args.until) (f : Forecasts l (next_word c.args.step)) → Reaches (at_ending l) c.args.step (at_place (in_forecast l c.in_ok-intensity.intensity) at_location) c.in_ok-step-3.step
past-step-3 c l e f = then (past-step-2 (goal.at.In_ok-step-3 c).In_ok-step-2 l e f) (took _ (time l _ _ e) c.word-2.ensures c.forecast_time_word-time.ensures c.in_ok-step-3.ensures)

pub returns-in_err-intensity : goal.returns-in_err-intensity
returns-in_err-intensity c = record { says = λ l e f. leads-err (missed _ (intensity l _ f) c.word.ensures c.intensity_word.ensures c.in_err-intensity.ensures) (search rules) }

pub returns-in_err-step : goal.returns-in_err-step
returns-in_err-step c = record { says = λ l e f. leads-err (then-ends (past-intensity (goal.at.returns-in_err-step c).In_ok-intensity l e f) (missed-fixed (fcst l _ _) c.in_err-step.ensures)) (search rules) }

pub returns-in_err-step-2 : goal.returns-in_err-step-2
returns-in_err-step-2 c = record { says = λ l e f. leads-err (then-ends (past-step (goal.at.returns-in_err-step-2 c).In_ok-step l e f) (missed-fixed (at l _ _) c.in_err-step-2.ensures)) (search rules) }

pub returns-in_err-step-3 : goal.returns-in_err-step-3
returns-in_err-step-3 c = record { says = λ l e f. leads-err (then-ends (past-step-2 (goal.at.returns-in_err-step-3 c).In_ok-step-2 l e f) (missed _ (time l _ _ e) c.word-2.ensures c.forecast_time_word-time.ensures c.in_err-step-3.ensures)) (search rules) }

pub returns : goal.returns
returns c = record { says = λ l e f. record { says = past-step-3 (goal.at.returns c).In_ok-step-3 l e f } }

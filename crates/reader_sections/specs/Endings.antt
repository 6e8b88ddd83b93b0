-- The ending: what was read before it, and how its first word is judged.
-- Internal contract.
use Rattle.std.specs.Prelude.{Bool, Result, List, ◌≡◌, ℕ}
use Rattle.lists.specs.Choice.{both}
use Rattle.vocabulary.specs.Codes.{code-mov, code-stnr}
use Rattle.groups.specs.declared.Time.{Time}
use Rattle.groups.specs.Groups.{good_time}
use Rattle.motions.specs.Motions.{intensity_of, good_intensity}
use Rattle.message.specs.Limits.{ws}
use Rattle.grammar.specs.Records.{area_of}
use Rattle.grammar.specs.States.Placing.{at_location}
use Rattle.grammar.specs.States.Site.{in_forecast}
use Rattle.grammar.specs.States.State.{at_ending, at_place, at_forecast}
use Rattle.grammar.specs.States.{ToLevel}
use Rattle.grammar.specs.Steps.{goes_if, kind_of, same_time, end_time, step}
use Rattle.reader_sections.specs.declared.ending.UpToLevel.{UpToLevel}
use Rattle.reader_sections.specs.declared.step.Refused.{Refused}
use Rattle.reader_sections.specs.declared.step.Step.{Step}
use Rattle.reader_sections.specs.Openings.{area_in}
use Rattle.reader_sections.specs.Steps.{next_word, Leads}

-- what was read up to the level, as the machine carries it
abbrev pub level_in : UpToLevel → ToLevel
level_in d =
    record {
      before =
          record {
            before = record { before = record { before = area_in d.opening; phenomenon = d.phenomenon; volcano = d.volcano }; observation = d.observation };
            extent = d.extent;
          };
      level = d.level;
    }

-- the word of that code begins no forecast: in a WS it is `MOV` or `STNR`
abbrev pub Unforeseen : ℕ → ToLevel → Type 0
Unforeseen code l = kind_of (area_of l) ≡ ws → (code ≡ code-mov → ⊥) → (code ≡ code-stnr → ⊥) → ⊥

-- "the time being that of the end of VALID"
abbrev pub forecast_time : Time → Time → Bool
forecast_time end u = both (good_time u) (same_time u end)

-- the word is judged as the intensity before a forecast
abbrev pub Forecasts : ToLevel → List ℕ → Type 0
Forecasts l w = step (at_ending l) w ≡ goes_if (good_intensity (intensity_of w)) (at_forecast l (intensity_of w))

-- up to the location of a forecast
pub record ForecastWordsSays (end : Time) (from : Step) (r : Result (ℕ × Step) Refused) : Type 0 where
  pub says : (l : ToLevel) → end_time l ≡ end → Forecasts l (next_word from) → Leads (at_ending l) from r (λ i. at_place (in_forecast l i) at_location)

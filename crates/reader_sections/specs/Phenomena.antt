-- The phenomenon: what comes after it, and what is read where the word is judged as one.
-- Internal contract.
use Rattle.std.specs.Prelude.{Result, ◌≡◌, ℕ}
use Rattle.message.specs.declared.Volcano.{Volcano}
use Rattle.message.specs.Limits.{eruption}
use Rattle.grammar.specs.Placing.{is}
use Rattle.grammar.specs.States.State.{at_form, at_ash, at_observation}
use Rattle.grammar.specs.States.{ToArea, State}
use Rattle.grammar.specs.Steps.{goes_if, weather, step_weather, step}
use Rattle.reader_sections.specs.declared.step.Refused.{Refused}
use Rattle.reader_sections.specs.declared.step.Step.{Step}
use Rattle.reader_sections.specs.Steps.{next_word, Leads}

-- after the phenomenon of a WS, after an eruption, and after either
abbrev pub observing : ToArea → ℕ → State
observing o n = at_observation (weather o n)

abbrev pub erupting : ToArea → Volcano → State
erupting o v = at_observation (record { before = o; phenomenon = eruption; volcano = v })

abbrev pub seen : ToArea → ℕ × Volcano → State
seen o p = at_observation (record { before = o; phenomenon = p.0; volcano = p.1 })

pub record WeatherSays (from : Step) (r : Result (ℕ × Step) Refused) : Type 0 where
  pub says : (o : ToArea) → step (at_form o) (next_word from) ≡ step_weather o (next_word from) → Leads (at_form o) from r (observing o)

pub record AshSays (from : Step) (r : Result ((ℕ × Volcano) × Step) Refused) : Type 0 where
  pub says : (o : ToArea) → step (at_form o) (next_word from) ≡ goes_if (is "VA" (next_word from)) (at_ash o) → Leads (at_form o) from r (seen o)

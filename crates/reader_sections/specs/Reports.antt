-- The report: its first word, its phenomenon by the kind of the bulletin, and the number of a level.
-- Internal contract.
use Rattle.std.specs.Prelude.{false, Result, List, ◌≡◌, ℕ}
use Rattle.levels.specs.Levels.{level_of}
use Rattle.message.specs.declared.Volcano.{Volcano}
use Rattle.grammar.specs.Placing.{is}
use Rattle.grammar.specs.States.State.{at_form}
use Rattle.grammar.specs.States.{ToArea}
use Rattle.grammar.specs.Steps.{kind_of, flight_of}
use Rattle.reader_sections.specs.declared.step.Refused.{Refused}
use Rattle.reader_sections.specs.declared.step.Step.{Step}
use Rattle.reader_sections.specs.Phenomena.{seen}
use Rattle.reader_sections.specs.Steps.{next_word, Leads}

-- the number of a word that is `FLnnn`
abbrev pub flight_in : List ℕ → ℕ
flight_in w = flight_of (level_of w)

-- the word begins neither a test nor a cancellation
pub record Reporting (w : List ℕ) : Type 0 where
  pub no_test : is "TEST" w ≡ false
  pub no-long-test : is "TEST." w ≡ false
  pub no-cancellation : is "CNL" w ≡ false

pub record PhenomenonSays (kind : ℕ) (from : Step) (r : Result ((ℕ × Volcano) × Step) Refused) : Type 0 where
  pub says : (o : ToArea) → kind_of o ≡ kind → Reporting (next_word from) → Leads (at_form o) from r (seen o)

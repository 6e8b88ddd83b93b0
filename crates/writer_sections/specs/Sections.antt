-- `good_text` stands in the contract of `put_text`. The rest is what the sections of the writer promise one another: names for parts of the words that
-- crate message defines (each is an arm of `form_words`, `ending_words`, `location_words`, … and proved so where it is used), and for what a
-- section is handed.
-- Internal contract.
use Rattle.std.specs.Prelude.{true, List, [], ◌∷◌, ◌++◌, ◌≡◌, ℕ, ◌-◌, eqb, get_or, take}
use Prim.Native.Char.{code}
use Rattle.lists.specs.Choice.{pick, either}
use Rattle.lists.specs.Text.{bytes}
use Rattle.figures.specs.Figures.{in_figures}
use Rattle.coordinates.specs.declared.Point.{Point}
use Rattle.coordinates.specs.Coordinates.{Axis}
use Rattle.groups.specs.declared.Group.{Group}
use Rattle.groups.specs.declared.Time.{Time}
use Rattle.groups.specs.Groups.{spell_period, spell_time}
use Rattle.headings.specs.declared.Sequence.{Sequence}
use Rattle.headings.specs.Sequences.{spell_sequence}
use Rattle.levels.specs.Levels.{feet_figures}
use Rattle.motions.specs.declared.Speed.{Speed}
use Rattle.motions.specs.Motions.{spell_compass, spell_intensity}
use Rattle.motions.specs.Speeds.{spell_speed}
use Rattle.message.specs.declared.Ending.{Ending}
use Rattle.message.specs.declared.Extent.{Extent}
use Rattle.message.specs.declared.Name.{Name}
use Rattle.message.specs.declared.Record.{Record}
use Rattle.message.specs.declared.Report.{Report}
use Rattle.message.specs.declared.Volcano.{Volcano}
use Rattle.message.specs.Limits.{mountain_limit}
use Rattle.message.specs.Locations.{joined, extent_words}
use Rattle.message.specs.Names.{good_name, empty_name}
use Rattle.message.specs.Records.{good}
use Rattle.message.specs.Reports.{phenomena, good_phenomenon, good_ending, good_report}
use Rattle.message.specs.Words.{test_texts, text_of}

-- what `put_text` puts: the canonical text of a good record, and nothing of any other
abbrev pub good_text : Record → List ℕ
good_text r = pick (good r) (text_of r) []

-- What a section is handed: a part of a good record of some kind.

pub record GoodReport (r : Report) : Type 0 where
  pub kind : ℕ
  pub holds : good_report kind r ≡ true

pub record GoodPhenomenon (n : ℕ) (v : Volcano) : Type 0 where
  pub kind : ℕ
  pub holds : good_phenomenon kind n v ≡ true

pub record GoodEnding (e : Ending) (f : Extent) : Type 0 where
  pub kind : ℕ
  pub holds : good_ending kind e f ≡ true

-- "perhaps `MT` and a name"
pub record GoodMount (n : Name) : Type 0 where
  pub holds : either (empty_name n) (good_name true mountain_limit n) ≡ true

-- Parts of the words of a record.

-- `TEST`, or one of the longer texts, by its number
abbrev pub test_words : ℕ → List (List ℕ)
test_words n = get_or test_texts (n - 1) []

abbrev pub cancellation_words : Sequence → Group → Group → List (List ℕ)
cancellation_words s from to = bytes "CNL" ∷ bytes "SIGMET" ∷ spell_sequence s ∷ spell_period (record { from = from; to = to }) ∷ []

-- a phenomenon's words by its number, without the volcano of an eruption; and the first and second of them
abbrev pub named_words : ℕ → List (List ℕ)
named_words n = get_or phenomena (n - 1) []

abbrev pub first_word : ℕ → List ℕ
first_word n = get_or (named_words n) 0 []

abbrev pub second_word : ℕ → List ℕ
second_word n = get_or (named_words n) 1 []

-- the number of `SEV ICE (FZRA)`
abbrev pub freezing_rain : ℕ
freezing_rain = 11

-- `OBS` or `FCST`
abbrev pub observed_word : ℕ → List ℕ
observed_word n = pick (eqb n 1) (bytes "OBS") (bytes "FCST")

-- an axis by how many digits its degrees have, which is all that a spelling asks of it
abbrev pub axis_of : ℕ → Axis
axis_of width = record { width = width; greatest = 0; plus = 0; minus = 0 }

-- "`WI` and … points joined by the word `-`"
abbrev pub outline_words : ℕ → List Point → List (List ℕ)
outline_words n points = bytes "WI" ∷ joined (take n points)

-- `FLnnn`
abbrev pub flight_word : ℕ → List ℕ
flight_word n = bytes "FL" ++ in_figures 3 n

-- `SFC/` and a number in so many figures
abbrev pub surface_word : ℕ → ℕ → List ℕ
surface_word n figures = bytes "SFC/" ++ in_figures figures n

-- `SFC/nnnnFT`, `SFC/nnnnnFT` (10000 up)
abbrev pub feet_word : ℕ → List ℕ
feet_word n = surface_word n (feet_figures n) ++ bytes "FT"

-- `FLnnn/nnn`
abbrev pub band_word : ℕ → ℕ → List ℕ
band_word low high = bytes "FL" ++ (in_figures 3 low ++ (code "/" ∷ in_figures 3 high))

abbrev pub moving_words : ℕ → Speed → ℕ → List (List ℕ)
moving_words direction s intensity = bytes "MOV" ∷ spell_compass direction ∷ spell_speed s ∷ spell_intensity intensity ∷ []

abbrev pub stationary_words : ℕ → List (List ℕ)
stationary_words intensity = bytes "STNR" ∷ spell_intensity intensity ∷ []

abbrev pub forecast_words : Time → ℕ → ℕ → Extent → List (List ℕ)
forecast_words end closing intensity forecast =
    spell_intensity intensity ∷ bytes "FCST" ∷ bytes "AT" ∷ spell_time end ∷ extent_words closing forecast

-- 01, "`nnKT` or `nnKMH` (01 to 99)".
-- Believed.
use Rattle.std.specs.Prelude.{Bool, List, [], ◌∷◌, ◌++◌, ℕ, drop}
use Rattle.lists.specs.Choice.{both}
use Rattle.lists.specs.Lists.{part}
use Rattle.lists.specs.Text.{bytes}
use Rattle.words.specs.Bytes.{between}
use Rattle.figures.specs.Figures.{two_of, in_figures}
use Rattle.figures.specs.Reads.{if_good}
use Rattle.figures.specs.Tables.{number_in, numbered, in_numbers}
use Rattle.motions.specs.declared.Speed.{Speed}

-- 1 `KT`, 2 `KMH`
unfoldable pub unit_words : List (List ℕ)
unit_words = bytes "KT" ∷ bytes "KMH" ∷ []

unfoldable pub good_speed : Speed → Bool
good_speed s = both (between 1 99 s.value) (in_numbers 1 unit_words s.unit)

abbrev pub no_speed : Speed
no_speed = record { value = 0; unit = 0 }

unfoldable pub speed_of : List ℕ → Speed
speed_of w = if_good good_speed no_speed (record { value = two_of (part 0 2 w); unit = number_in 1 unit_words (drop 2 w) })

unfoldable pub spell_speed : Speed → List ℕ
spell_speed s = in_figures 2 s.value ++ numbered 1 unit_words s.unit

-- 01, "The sixteen points of the compass are numbered 0 (N) to 15 (NNW) clockwise in the record."; "`INTSF`, `WKN` or `NC`".
-- Believed.
use Rattle.std.specs.Prelude.{Bool, List, [], ◌∷◌, ℕ}
use Rattle.lists.specs.Text.{bytes}
use Rattle.figures.specs.Tables.{word_in, word_of, in_table, number_in, numbered, in_numbers}

-- "The sixteen points of the compass are numbered 0 (N) to 15 (NNW) clockwise in the record."
unfoldable pub compass_words : List (List ℕ)
compass_words =
    bytes "N"
    ∷ bytes "NNE"
    ∷ bytes "NE"
    ∷ bytes "ENE"
    ∷ bytes "E"
    ∷ bytes "ESE"
    ∷ bytes "SE"
    ∷ bytes "SSE"
    ∷ bytes "S"
    ∷ bytes "SSW"
    ∷ bytes "SW"
    ∷ bytes "WSW"
    ∷ bytes "W"
    ∷ bytes "WNW"
    ∷ bytes "NW"
    ∷ bytes "NNW"
    ∷ []

-- the compass point that a word is, 16 where it is none
abbrev pub compass_of : List ℕ → ℕ
compass_of w = word_in compass_words w

abbrev pub good_compass : ℕ → Bool
good_compass n = in_table compass_words n

abbrev pub spell_compass : ℕ → List ℕ
spell_compass n = word_of compass_words n

-- `INTSF`, `WKN` or `NC`
unfoldable pub intensity_words : List (List ℕ)
intensity_words = bytes "INTSF" ∷ bytes "WKN" ∷ bytes "NC" ∷ []

-- 1 INTSF, 2 WKN, 3 NC
abbrev pub intensity_of : List ℕ → ℕ
intensity_of w = number_in 1 intensity_words w

abbrev pub good_intensity : ℕ → Bool
good_intensity n = in_numbers 1 intensity_words n

abbrev pub spell_intensity : ℕ → List ℕ
spell_intensity n = numbered 1 intensity_words n

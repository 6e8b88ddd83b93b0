-- 01, "Level: `FLnnn`, `SFC/FLnnn`, `SFC/nnnnM`, `SFC/nnnnFT`, `SFC/nnnnnFT` (10000 up), `FLnnn/nnn` (lower below upper), …. No number is zero."
-- The levels that are one word. `TOP` and `ABV` are words of their own before a `FLnnn`.
-- Believed.
use Rattle.std.specs.Prelude.{Bool, true, false, List, [], ◌∷◌, ◌++◌, ℕ, ◌-◌, ltb, eqb, length, get_or, drop}
use Prim.Native.Char.{code}
use Rattle.lists.specs.Choice.{pick, both}
use Rattle.lists.specs.Lists.{part, same}
use Rattle.lists.specs.Text.{bytes}
use Rattle.words.specs.Bytes.{between}
use Rattle.figures.specs.Figures.{figures_of, in_figures}
use Rattle.figures.specs.Reads.{if_good}
use Rattle.levels.specs.declared.Level.{Level}
use Rattle.levels.specs.declared.Level.TheVariants.{NoLevel, Flight, SurfaceFlight, SurfaceMetres, SurfaceFeet, Band, TopFlight, AboveFlight, TopAboveFlight}

-- nnn, not zero
abbrev pub flight : ℕ → Bool
flight n = between 1 999 n

-- "`FLnnn/nnn` (lower below upper)"
abbrev pub good_band : ℕ → ℕ → Bool
good_band low high = both (flight low) (both (flight high) (ltb low high))

-- a level that is one word, with its numbers in range
unfoldable pub good_level_word : Level → Bool
good_level_word NoLevel = false
good_level_word (Flight n) = flight n
good_level_word (SurfaceFlight n) = flight n
good_level_word (SurfaceMetres n) = between 1 9999 n
good_level_word (SurfaceFeet n) = between 1 99999 n
good_level_word (Band low high) = good_band low high
good_level_word (TopFlight n) = false
good_level_word (AboveFlight n) = false
good_level_word (TopAboveFlight n) = false

-- "`SFC/nnnnFT`, `SFC/nnnnnFT` (10000 up)": how many figures so many feet are written in
abbrev pub feet_figures : ℕ → ℕ
feet_figures n = pick (ltb n 10000) 4 5

unfoldable pub spell_level_word : Level → List ℕ
spell_level_word NoLevel = []
spell_level_word (Flight n) = bytes "FL" ++ in_figures 3 n
spell_level_word (SurfaceFlight n) = bytes "SFC/" ++ (bytes "FL" ++ in_figures 3 n)
spell_level_word (SurfaceMetres n) = bytes "SFC/" ++ (in_figures 4 n ++ bytes "M")
spell_level_word (SurfaceFeet n) = bytes "SFC/" ++ (in_figures (feet_figures n) n ++ bytes "FT")
spell_level_word (Band low high) = bytes "FL" ++ (in_figures 3 low ++ (code "/" ∷ in_figures 3 high))
spell_level_word (TopFlight n) = []
spell_level_word (AboveFlight n) = []
spell_level_word (TopAboveFlight n) = []

-- the words of five bytes: `FLnnn`
abbrev pub five : List ℕ → Level
five w = pick (same (part 0 2 w) (bytes "FL")) (if_good good_level_word NoLevel (Flight (figures_of (part 2 5 w)))) NoLevel

-- the words of nine bytes after `SFC/`: `FLnnn` and `nnnnM`
abbrev pub surface_nine : List ℕ → Level
surface_nine w =
    pick (same (part 4 6 w) (bytes "FL")) (if_good good_level_word NoLevel (SurfaceFlight (figures_of (part 6 9 w))))
    (pick (eqb (get_or w 8 0) (code "M")) (if_good good_level_word NoLevel (SurfaceMetres (figures_of (part 4 8 w)))) NoLevel)

-- the words of nine bytes that do not begin with `SFC/`: `FLnnn/nnn`
abbrev pub band_nine : List ℕ → Level
band_nine w =
    pick (both (same (part 0 2 w) (bytes "FL")) (eqb (get_or w 5 0) (code "/")))
    (if_good good_level_word NoLevel (Band (figures_of (part 2 5 w)) (figures_of (part 6 9 w))))
    NoLevel

abbrev pub nine : List ℕ → Level
nine w = pick (same (part 0 4 w) (bytes "SFC/")) (surface_nine w) (band_nine w)

-- so many feet, where the word has as many figures as those feet are written in
abbrev pub feet : ℕ → List ℕ → Level
feet n w = pick (both (between 1 99999 n) (eqb (feet_figures n) (length w - 6))) (SurfaceFeet n) NoLevel

abbrev pub ten_eleven : List ℕ → Level
ten_eleven w =
    pick (both (same (part 0 4 w) (bytes "SFC/")) (same (drop (length w - 2) w) (bytes "FT"))) (feet (figures_of (part 4 (length w - 2) w)) w) NoLevel

-- the level that a word is
unfoldable pub level_of : List ℕ → Level
level_of w =
    pick (eqb (length w) 5) (five w) (pick (eqb (length w) 9) (nine w) (pick (between 10 11 (length w)) (ten_eleven w) NoLevel))

-- "…, `TOP FLnnn`, `ABV FLnnn`, `TOP ABV FLnnn`. No number is zero."
unfoldable pub good_level : Level → Bool
good_level NoLevel = false
good_level (Flight n) = good_level_word (Flight n)
good_level (SurfaceFlight n) = good_level_word (SurfaceFlight n)
good_level (SurfaceMetres n) = good_level_word (SurfaceMetres n)
good_level (SurfaceFeet n) = good_level_word (SurfaceFeet n)
good_level (Band low high) = good_level_word (Band low high)
good_level (TopFlight n) = flight n
good_level (AboveFlight n) = flight n
good_level (TopAboveFlight n) = flight n

unfoldable pub empty_level : Level → Bool
empty_level NoLevel = true
empty_level (Flight n) = false
empty_level (SurfaceFlight n) = false
empty_level (SurfaceMetres n) = false
empty_level (SurfaceFeet n) = false
empty_level (Band low high) = false
empty_level (TopFlight n) = false
empty_level (AboveFlight n) = false
empty_level (TopAboveFlight n) = false

unfoldable pub level_words : Level → List (List ℕ)
level_words NoLevel = []
level_words (Flight n) = spell_level_word (Flight n) ∷ []
level_words (SurfaceFlight n) = spell_level_word (SurfaceFlight n) ∷ []
level_words (SurfaceMetres n) = spell_level_word (SurfaceMetres n) ∷ []
level_words (SurfaceFeet n) = spell_level_word (SurfaceFeet n) ∷ []
level_words (Band low high) = spell_level_word (Band low high) ∷ []
level_words (TopFlight n) = bytes "TOP" ∷ spell_level_word (Flight n) ∷ []
level_words (AboveFlight n) = bytes "ABV" ∷ spell_level_word (Flight n) ∷ []
level_words (TopAboveFlight n) = bytes "TOP" ∷ bytes "ABV" ∷ spell_level_word (Flight n) ∷ []

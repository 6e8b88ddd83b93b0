-- 01, "Heading: `WS` or `WV`, two letters, two digits, as one word; four letters (centre); …; then perhaps a correction, `CCA` to `CCX`."
-- "First line: …, four letters and a hyphen."
-- Believed.
use Rattle.std.specs.Prelude.{Bool, List, [], ◌∷◌, ◌++◌, ℕ, leb, eqb, length, get_or}
use Prim.Native.Char.{code}
use Rattle.lists.specs.Choice.{pick, both}
use Rattle.lists.specs.Lists.{part}
use Rattle.lists.specs.Text.{bytes}
use Rattle.words.specs.Bytes.{between}
use Rattle.figures.specs.Figures.{two_of, in_figures}
use Rattle.figures.specs.Letters.{letters_of, in_letters, good_letters}
use Rattle.figures.specs.Reads.{if_good}
use Rattle.figures.specs.Tables.{number_in, numbered, in_numbers}
use Rattle.headings.specs.declared.Designator.{Designator}

-- the types of bulletin: `WS` and `WV`
unfoldable pub type_words : List (List ℕ)
type_words = bytes "WS" ∷ bytes "WV" ∷ []

-- a type is kept as its kind in the listing: 2 WS, 3 WV
abbrev pub type_of : List ℕ → ℕ
type_of w = number_in 2 type_words w

abbrev pub good_type : ℕ → Bool
good_type n = in_numbers 2 type_words n

-- "`WS` or `WV`, two letters, two digits, as one word"
unfoldable pub good_designator : Designator → Bool
good_designator d = both (good_type d.kind) (both (good_letters 2 d.region) (leb d.number 99))

abbrev pub no_designator : Designator
no_designator = record { kind = 0; region = 0; number = 0 }

unfoldable pub designator_of : List ℕ → Designator
designator_of w =
    pick (eqb (length w) 6)
    (if_good good_designator no_designator (record { kind = type_of (part 0 2 w); region = letters_of 2 (part 2 4 w); number = two_of (part 4 6 w) }))
    no_designator

unfoldable pub spell_designator : Designator → List ℕ
spell_designator d = numbered 2 type_words d.kind ++ (in_letters 2 d.region ++ in_figures 2 d.number)

-- "a correction, `CCA` to `CCX`": the letter A to X; a word that is no correction is answered with 0
unfoldable pub good_correction : ℕ → Bool
good_correction c = between (code "A") (code "X") c

unfoldable pub correction_of : List ℕ → ℕ
correction_of w =
    pick (both (eqb (length w) 3) (both (eqb (get_or w 0 0) (code "C")) (eqb (get_or w 1 0) (code "C")))) (if_good good_correction 0 (get_or w 2 0)) 0

abbrev pub spell_correction : ℕ → List ℕ
spell_correction c = code "C" ∷ code "C" ∷ c ∷ []

-- "four letters and a hyphen"
unfoldable pub office_of : List ℕ → ℕ
office_of w = pick (both (eqb (length w) 5) (eqb (get_or w 4 0) (code "-"))) (letters_of 4 (part 0 4 w)) 0

abbrev pub spell_office : ℕ → List ℕ
spell_office o = in_letters 4 o ++ bytes "-"

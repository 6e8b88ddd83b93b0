-- 01, "A sequence has 1 to 3 characters: perhaps a letter, then digits, not all zero. It is kept as written."
-- Believed.
use Rattle.std.specs.Prelude.{Bool, List, [], ◌∷◌, ◌++◌, ℕ, ◌-◌, ◌^◌, ltb, eqb, length, get_or, drop}
use Rattle.lists.specs.Choice.{pick, both, either}
use Rattle.words.specs.Bytes.{between, letter as is_letter}
use Rattle.figures.specs.Figures.{three_of, in_figures}
use Rattle.figures.specs.Reads.{if_good}
use Rattle.headings.specs.declared.Sequence.{Sequence}

-- "perhaps a letter, then digits": no letter and 1 to 3 digits, or a letter and 1 or 2
abbrev pub characters : Sequence → Bool
characters s = either (both (eqb s.letter 0) (between 1 3 s.digits)) (both (is_letter s.letter) (between 1 2 s.digits))

-- "not all zero"; and the number has no more digits than are written
unfoldable pub good_sequence : Sequence → Bool
good_sequence s = both (characters s) (both (ltb 0 s.number) (ltb s.number (10 ^ s.digits)))

abbrev pub no_sequence : Sequence
no_sequence = record { letter = 0; digits = 0; number = 0 }

abbrev pub lettered : List ℕ → Sequence
lettered w = record { letter = get_or w 0 0; digits = length w - 1; number = three_of (drop 1 w) }

abbrev pub unlettered : List ℕ → Sequence
unlettered w = record { letter = 0; digits = length w; number = three_of w }

unfoldable pub sequence_of : List ℕ → Sequence
sequence_of w =
    pick (between 1 3 (length w)) (if_good good_sequence no_sequence (pick (is_letter (get_or w 0 0)) (lettered w) (unlettered w))) no_sequence

-- the letter, where there is one
abbrev pub letter_of : ℕ → List ℕ
letter_of l = pick (eqb l 0) [] (l ∷ [])

unfoldable pub spell_sequence : Sequence → List ℕ
spell_sequence s = letter_of s.letter ++ in_figures s.digits s.number

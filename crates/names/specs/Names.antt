-- 01, "A name is one or more words of letters and hyphens, each beginning and ending with a letter, none of them a closing word; with
-- single spaces it has at most 50 characters." A mountain's name has the "rules as above, 30 characters, closing word `PSN`".
-- Believed.
use Rattle.std.specs.Prelude.{Bool, not, List, [], ◌∷◌, ℕ, ◌-◌, ltb, eqb, length, get_or}
use Prim.Native.Char.{code}
use Rattle.lists.specs.Choice.{pick, both, either}
use Rattle.lists.specs.Lists.{all_of}
use Rattle.lists.specs.Text.{bytes}
use Rattle.words.specs.Bytes.{letter}
use Rattle.figures.specs.Tables.{word_in, in_table, number_in, in_numbers}

-- the closing words of an area's name: `FIR`, `FIR/UIR` or `CTA`
unfoldable pub closing_words : List (List ℕ)
closing_words = bytes "FIR" ∷ bytes "FIR/UIR" ∷ bytes "CTA" ∷ []

-- 1 FIR, 2 FIR/UIR, 3 CTA
abbrev pub closing_of : List ℕ → ℕ
closing_of w = number_in 1 closing_words w

abbrev pub good_closing : ℕ → Bool
good_closing n = in_numbers 1 closing_words n

-- letters and hyphens
abbrev pub name_byte : ℕ → Bool
name_byte x = either (letter x) (eqb x (code "-"))

-- "words of letters and hyphens, each beginning and ending with a letter"
unfoldable pub name_word : List ℕ → Bool
name_word w = both (ltb 0 (length w)) (both (all_of name_byte w) (both (letter (get_or w 0 0)) (letter (get_or w (length w - 1) 0))))

-- the closing word of a mountain's name: `PSN`
abbrev pub position_words : List (List ℕ)
position_words = bytes "PSN" ∷ []

-- the closing words of a name, by whether it is a mountain's
abbrev pub closers : Bool → List (List ℕ)
closers mountain = pick mountain position_words closing_words

-- a word that a name may have
abbrev pub in_name : Bool → List ℕ → Bool
in_name mountain w = both (name_word w) (not (in_table (closers mountain) (word_in (closers mountain) w)))

-- the byte in front of the first of some pieces
abbrev pub onto : ℕ → List (List ℕ) → List (List ℕ)
onto x [] = (x ∷ []) ∷ []
onto x (w ∷ ws) = (x ∷ w) ∷ ws

-- what stands between the single spaces of a text
unfoldable pub pieces : List ℕ → List (List ℕ)
pieces [] = [] ∷ []
pieces (x ∷ xs) = pick (eqb x (code " ")) ([] ∷ pieces xs) (onto x (pieces xs))

-- "one or more words …, none of them a closing word; with single spaces"
unfoldable pub name_text : Bool → List ℕ → Bool
name_text mountain t = all_of (in_name mountain) (pieces t)

-- Tables of fixed words that a record keeps as a number.
-- Believed.
use Rattle.std.specs.Prelude.{Bool, true, not, List, [], ◌∷◌, ℕ, ◌+◌, ◌-◌, ltb, length, get_or}
use Rattle.lists.specs.Choice.{pick, both}
use Rattle.lists.specs.Lists.{all_of, index_of, same}
use Rattle.words.specs.Bytes.{between}

-- the number of a word in a table of fixed words, or the table's length where it is none of them
abbrev pub word_in : List (List ℕ) → List ℕ → ℕ
word_in table w = index_of (same w) table

-- the word of a number in a table
abbrev pub word_of : List (List ℕ) → ℕ → List ℕ
word_of table n = get_or table n []

abbrev pub in_table : List (List ℕ) → ℕ → Bool
in_table table n = ltb n (length table)

-- no word of the table is the same as a later one
unfoldable pub distinct : List (List ℕ) → Bool
distinct [] = true
distinct (k ∷ ks) = both (all_of (λ (x : List ℕ). not (same x k)) ks) (distinct ks)

-- the words of a table are numbered from `first` on, and 0 is the number of any other word
abbrev pub number_in : ℕ → List (List ℕ) → List ℕ → ℕ
number_in first table w = pick (in_table table (word_in table w)) (first + word_in table w) 0

-- the word of a number
abbrev pub numbered : ℕ → List (List ℕ) → ℕ → List ℕ
numbered first table n = pick (ltb n first) [] (word_of table (n - first))

-- the number is that of a word of the table
abbrev pub in_numbers : ℕ → List (List ℕ) → ℕ → Bool
in_numbers first table n = between first (first + length table - 1) n

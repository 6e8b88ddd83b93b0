-- Letters kept as one number, in base 256: equal numbers are equal letters, and the order is that of the text.
-- Believed.
use Rattle.std.specs.Prelude.{Bool, List, ℕ, ◌^◌, leb, ltb, eqb, length}
use Rattle.lists.specs.Choice.{pick, both}
use Rattle.lists.specs.Lists.{all_of}
use Rattle.lists.specs.Base.{worth, places}
use Rattle.words.specs.Bytes.{letter}

-- a word of k letters, k at most 4, as one number; 0 of any other word
unfoldable pub letters_of : ℕ → List ℕ → ℕ
letters_of k w = pick (both (leb k 4) (both (eqb (length w) k) (all_of letter w))) (worth 256 w) 0

-- the k letters of a number
abbrev pub in_letters : ℕ → ℕ → List ℕ
in_letters k n = places 256 k n

-- the number is that of k letters
unfoldable pub good_letters : ℕ → ℕ → Bool
good_letters k n = both (ltb n (256 ^ k)) (all_of letter (in_letters k n))

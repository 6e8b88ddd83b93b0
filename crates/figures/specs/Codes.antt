-- A word of at most seven bytes has a code, one number that tells it: fixed words are compared and put by their codes.
-- Internal contract.
use Rattle.std.specs.Prelude.{Bool, true, false, List, [], ◌∷◌, ◌++◌, ◌≡◌, ℕ, zero, suc, ◌/◌, ◌%◌, leb, ltb, length}
use Rattle.lists.specs.Choice.{pick, both}
use Rattle.lists.specs.Lists.{all_of, same}
use Rattle.lists.specs.Base.{worth_after}
use Rattle.words.specs.Words.{equals_sign}

abbrev pub byte : ℕ → Bool
byte x = ltb x 256

-- a word that has a code
abbrev pub short : List ℕ → Bool
short w = both (leb (length w) 7) (all_of byte w)

-- a 1 and then the word's bytes, in base 256; 0 of a word that is longer
unfoldable pub code_of : List ℕ → ℕ
code_of w = pick (short w) (worth_after 256 1 w) 0

-- the bytes behind the 1, at most k of them
unfoldable pub behind_one : ℕ → ℕ → List ℕ
behind_one zero n = []
behind_one (suc k) n = pick (ltb n 256) [] (behind_one k (n / 256) ++ (n % 256 ∷ []))

-- the word of a code; that of 0, the code of no word, has no byte
abbrev pub spell_code : ℕ → List ℕ
spell_code n = behind_one 7 n

-- a fixed word and its code; it is not empty, and it is not the `=`
pub record FixedWord (k : List ℕ) (code : ℕ) : Type 0 where
  pub is-short : short k ≡ true
  pub has : code_of k ≡ code
  pub some : same [] k ≡ false
  pub no_sign : same equals_sign k ≡ false
  pub spelled : spell_code code ≡ k

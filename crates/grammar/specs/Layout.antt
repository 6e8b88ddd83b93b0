-- 01, "Canonical text: one space between words, CR LF after the heading and after the first line, no space before `=`, nothing after it."
-- The layout of any words, with no record in sight.
-- Believed.
use Rattle.std.specs.Prelude.{List, [], ◌∷◌, ◌++◌, ◌≡◌, ℕ, ◌+◌, take, drop, get_or}
use Rattle.lists.specs.Choice.{pick}
use Rattle.lists.specs.Text.{bytes}
use Rattle.words.specs.Words.{equals_sign, words_in, line}
use Rattle.headings.specs.Headings.{correction_of, good_correction}
use Rattle.message.specs.Words.{new_line}
use Rattle.grammar.specs.Bulletins.{text_within}

-- the heading has three words, and a fourth where that is a correction; the first line has six
abbrev pub heading_count : List (List ℕ) → ℕ
heading_count ws = pick (good_correction (correction_of (get_or ws 3 []))) 4 3

abbrev pub laid_out : ℕ → List (List ℕ) → List ℕ
laid_out k ws = line (take k ws) ++ (new_line ++ (line (take 6 (drop k ws)) ++ (new_line ++ (line (drop (k + 6) ws) ++ bytes "="))))

-- a bulletin in canonical layout: it is its own words, so laid out
pub record Canonical (b : List ℕ) : Type 0 where
  pub words : List (List ℕ)
  pub theirs : words_in (text_within b) ≡ words ++ (equals_sign ∷ [])
  pub layout : b ≡ laid_out (heading_count words) words

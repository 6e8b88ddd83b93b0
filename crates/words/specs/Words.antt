-- 01, "From bytes to words": "Words are the longest runs without space, CR or LF before the first `=`; that `=` is the last word."
-- A text here is what stands before the first `=`, and that `=` stands at the text's length.
-- Believed.
use Rattle.std.specs.Prelude.{Bool, List, [], ◌∷◌, ◌++◌, map, ℕ, suc, ◌-◌, ltb, length, drop}
use Prim.Native.Char.{code}
use Rattle.lists.specs.Choice.{pick, both}
use Rattle.lists.specs.Lists.{index_from, all_of, part}
use Rattle.lists.specs.Text.{bytes}
use Rattle.words.specs.Bytes.{blank, solid, plain}
use Rattle.words.specs.declared.Span.{Span}

-- a word and the place where it begins
pub record Word : Type 0 where
  pub place : ℕ
  pub bytes : List ℕ

-- the last word, of one byte
abbrev pub equals_sign : List ℕ
equals_sign = bytes "="

-- the word w ends before place p, where it is a word at all; then the words ws
abbrev pub ended : List ℕ → ℕ → List Word → List Word
ended [] p ws = ws
ended (b ∷ w) p ws = record { place = p - length (b ∷ w); bytes = b ∷ w } ∷ ws

-- the words from place p on: w is what was read of a word so far, and then come the bytes
unfoldable pub scan : ℕ → List ℕ → List ℕ → List Word
scan p w [] = ended w p (record { place = p; bytes = equals_sign } ∷ [])
scan p w (b ∷ bs) = pick (blank b) (ended w p (scan (suc p) [] bs)) (scan (suc p) (w ++ (b ∷ [])) bs)

-- the words of the text t from place p on, the `=` last
abbrev pub words_at : List ℕ → ℕ → List Word
words_at t p = scan p [] (drop p t)

-- words without their places
abbrev pub bytes_of : List Word → List (List ℕ)
bytes_of ws = map (λ (w : Word). w.bytes) ws

-- the words of the text t, the `=` last
abbrev pub words_in : List ℕ → List (List ℕ)
words_in t = bytes_of (words_at t 0)

-- where the next word from a place on begins and ends in the text; the `=` has no byte there
unfoldable pub span_of : List ℕ → ℕ → Span
span_of t p = record { start = index_from solid p t; end = index_from blank (index_from solid p t) t }

-- the next word from a place on: where only blanks are left, the `=`
abbrev pub word_from : List ℕ → ℕ → List ℕ
word_from t p = pick (ltb (span_of t p).start (length t)) (part (span_of t p).start (span_of t p).end t) equals_sign

-- 02, CR 4: "Every reader refusal shall also give a length: that of the word for 4 to 12, 1 for `=`"
unfoldable pub length_at : List ℕ → ℕ → ℕ
length_at t p = length (word_from t p)

-- a run: it is not empty, and every byte of it passes the test
abbrev pub run_of : (ℕ → Bool) → List ℕ → Bool
run_of f w = both (ltb 0 (length w)) (all_of f w)

-- a run without blanks is a word, and a run of blanks stands between words
abbrev pub solid_word : List ℕ → Bool
solid_word w = run_of solid w

abbrev pub gap : List ℕ → Bool
gap s = run_of blank s

-- a run of the bytes that a word of the paper may have
abbrev pub plain_word : List ℕ → Bool
plain_word w = run_of plain w

-- words joined by single spaces
unfoldable pub line : List (List ℕ) → List ℕ
line [] = []
line (w ∷ []) = w
line (w ∷ v ∷ ws) = w ++ (code " " ∷ line (v ∷ ws))

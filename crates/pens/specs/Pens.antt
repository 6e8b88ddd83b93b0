-- A pen on a page: the place where the next byte goes, and the bytes of a lent buffer. The end of the page stops it.
-- Internal contract.
use Rattle.std.specs.Prelude.{List, [], ◌∷◌, ◌++◌, map, ◌≡◌, ℕ, ◌+◌, ltb, length, set}
use Prim.Native.Char.{code}
use Rattle.lists.specs.Choice.{pick}
use Rattle.lists.specs.Base.{places}
use Rattle.words.specs.Words.{line}

pub record Pen : Type 0 where
  pub at : ℕ
  pub page : List ℕ

abbrev pub pen : ℕ → List ℕ → Pen
pen at page = record { at = at; page = page }

-- one byte where the pen stands, and on to the next place; past the end of the page nothing is put, and the pen stays
unfoldable pub stroke : ℕ → Pen → Pen
stroke x p = pick (ltb p.at (length p.page)) (pen (p.at + 1) (set p.page p.at x)) p

-- the bytes of a text, one after the other
unfoldable pub strokes : List ℕ → Pen → Pen
strokes [] p = p
strokes (x ∷ xs) p = strokes xs (stroke x p)

-- a pen that stood at a place on a page has put a text, and stands at the next place on the page as it is then
pub record Puts (text : List ℕ) (at : ℕ) (page : List ℕ) (next : ℕ) (after : List ℕ) : Type 0 where
  pub says : strokes text (pen at page) ≡ pen next after

-- words, a space before each
unfoldable pub spaced : List (List ℕ) → List ℕ
spaced [] = []
spaced (w ∷ ws) = code " " ∷ (w ++ spaced ws)

-- the same of words, a space before each
pub record Words (words : List (List ℕ)) (at : ℕ) (page : List ℕ) (next : ℕ) (after : List ℕ) : Type 0 where
  pub says : strokes (spaced words) (pen at page) ≡ pen next after

-- the same of words joined by single spaces
pub record Line (words : List (List ℕ)) (at : ℕ) (page : List ℕ) (next : ℕ) (after : List ℕ) : Type 0 where
  pub says : strokes (line words) (pen at page) ≡ pen next after

-- the last k places of n in a base, each as a byte counted from `first`
abbrev pub shifted : ℕ → ℕ → ℕ → ℕ → List ℕ
shifted first base k n = map (λ (d : ℕ). d + first) (places base k n)

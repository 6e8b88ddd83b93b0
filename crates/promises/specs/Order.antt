-- 01, "Order: area, WS before WV, start, sequence padded with spaces on the right, end."
-- An identity keeps its letters and characters as numbers; the order is said of the characters, which are the bytes that the listing shows.
-- Believed.
use Rattle.std.specs.Prelude.{List, [], ◌∷◌, ◌++◌, ◌≡◌, ℕ, ◌-◌, ◌<◌, length, get_or, replicate}
use Prim.Native.Char.{code}
use Rattle.figures.specs.Letters.{in_letters}
use Rattle.message.specs.Words.{line_words, area_words}
use Rattle.message.specs.declared.Record.{Record}
use Rattle.places.specs.declared.Identity.{Identity}
use Rattle.places.specs.declared.Place.{Place}
use Rattle.promises.specs.Accepted.{IsReport}

-- of two texts, the first character in which they differ decides
pub data TextBefore : List ℕ → List ℕ → Type 0 where
  here : {x y : ℕ} {xs ys : List ℕ} → x < y → TextBefore (x ∷ xs) (y ∷ ys)
  further : {x : ℕ} {xs ys : List ℕ} → TextBefore xs ys → TextBefore (x ∷ xs) (x ∷ ys)

-- "area 4", "sequence 3 padded": a space stands before the digits and these before the letters, so 1, 10, 2, A1 is in the order
abbrev pub area_text : Identity → List ℕ
area_text i = in_letters 4 i.area

abbrev pub sequence_text : Identity → List ℕ
sequence_text i = in_letters 3 i.sequence

-- the first of the five in which two identities differ decides; "WS before WV": kinds 2 and 3
pub data ListedBefore (a b : Identity) : Type 0 where
  by-area : TextBefore (area_text a) (area_text b) → ListedBefore a b
  by-type : area_text a ≡ area_text b → a.kind < b.kind → ListedBefore a b
  by-start : area_text a ≡ area_text b → a.kind ≡ b.kind → a.start < b.start → ListedBefore a b
  by-sequence : area_text a ≡ area_text b → a.kind ≡ b.kind → a.start ≡ b.start → TextBefore (sequence_text a) (sequence_text b) → ListedBefore a b
  by_end : area_text a ≡ area_text b → a.kind ≡ b.kind → a.start ≡ b.start → sequence_text a ≡ sequence_text b → a.end < b.end → ListedBefore a b

-- the same of the rows that have them
abbrev pub InOrder : Place → Place → Type 0
InOrder p q = ListedBefore p.identity q.identity

-- "padded with spaces on the right", to so many characters
abbrev pub padded_to : ℕ → List ℕ → List ℕ
padded_to size word = word ++ replicate (size - length word) (code " ")

-- The characters are those as written: the area is the first word of the report's body, and the sequence the third of its first line.
pub record OrderAsWritten : Type 0 where
  pub area : (clock correction : ℕ) (r : Record) (i : Identity) → IsReport clock r i correction → area_text i ≡ get_or (area_words r.area) 0 []
  pub sequence : (clock correction : ℕ) (r : Record) (i : Identity) → IsReport clock r i correction
      → sequence_text i ≡ padded_to 3 (get_or (line_words r.line) 2 [])

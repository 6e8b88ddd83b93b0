-- 01, "For 4 to 12 the word is the first that, with those before it, begins no accepted message." What that says, of any list of words
-- and without the machine: an accepted message is the words of a good record and the `=`.
-- Believed.
use Rattle.std.specs.Prelude.{true, List, [], ◌∷◌, ◌++◌, map, ◌≡◌, ℕ, ◌≤◌, length}
use Rattle.words.specs.Words.{Word, equals_sign, bytes_of}
use Rattle.message.specs.Records.{good}
use Rattle.message.specs.Words.{words_of}
use Rattle.message.specs.declared.Record.{Record}
use Rattle.grammar.specs.Parts.{Marked, marked, message_parts}

-- the words of a message and its `=`
abbrev pub message_words : Record → List (List ℕ)
message_words r = words_of r ++ (equals_sign ∷ [])

-- these words are an accepted message
pub record Whole (ws : List (List ℕ)) : Type 0 where
  pub message : Record
  pub is_good : good message ≡ true
  pub words : ws ≡ message_words message

-- these words begin an accepted message
pub record Begins (ws : List (List ℕ)) : Type 0 where
  pub message : Record
  pub is_good : good message ≡ true
  pub rest : List (List ℕ)
  pub words : ws ++ rest ≡ message_words message

-- after these words, a word of that part comes in some accepted message
pub record ComesNext (ws : List (List ℕ)) (part : ℕ) : Type 0 where
  pub message : Record
  pub is_good : good message ≡ true
  pub before : List Marked
  pub word : List ℕ
  pub rest : List Marked
  pub parts : before ++ (marked part word ∷ rest) ≡ message_parts message
  pub words : map (λ (m : Marked). m.word) before ≡ ws

-- "Where a word stands after something optional and is not that thing, it is judged as the next required part. 12 goes before 4 to 11.":
-- of the parts that may come next, what is optional belongs to the part under way and the required one has the greatest number
pub record JudgedAs (ws : List (List ℕ)) (part : ℕ) : Type 0 where
  pub comes : ComesNext ws part
  pub greatest : (other : ℕ) → ComesNext ws other → other ≤ part

-- "refused by a number and the place our paper fixes for it": the word at that place is the first that, with those before it, begins no
-- accepted message; 02, CR 4: "a length: that of the word for 4 to 12, 1 for `=`", which is a word of one byte
pub record RefusedAt (ws : List Word) (number place long : ℕ) : Type 0 where
  pub before : List Word
  pub word : Word
  pub rest : List Word
  pub split : ws ≡ before ++ (word ∷ rest)
  pub there : word.place ≡ place
  pub as_long : length word.bytes ≡ long
  pub begins : Begins (bytes_of before)
  pub ends : Begins (bytes_of before ++ (word.bytes ∷ [])) → ⊥
  pub judged : JudgedAs (bytes_of before) number

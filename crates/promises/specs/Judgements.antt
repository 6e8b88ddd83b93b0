-- 01, "Refusal numbers", of 4 to 12: "Where a word stands after something optional and is not that thing, it is judged as the next required
-- part. 12 goes before 4 to 11." `JudgedAs` takes the greatest part that may come next; that this is what the paper says is promised here.
-- Believed.
use Rattle.std.specs.Prelude.{true, ◌↔◌, ◌≡◌, ℕ, ◌≤◌}
use mathlib.Core.List.{List, [], ◌∷◌, ◌++◌, map, Memᴰ}
use Rattle.words.specs.Words.{Word, equals_sign, words_at, bytes_of}
use Rattle.message.specs.Records.{good}
use Rattle.message.specs.declared.Record.{Record}
use Rattle.grammar.specs.Bulletins.{text_within}
use Rattle.grammar.specs.Judged.{Whole, ComesNext, JudgedAs, RefusedAt}
use Rattle.grammar.specs.Parts.{Marked, marked, message_parts}
use Rattle.grammar.specs.declared.Reply.{Reply}
use Rattle.roundtrips.specs.Trips.{MayRead}

-- an accepted message begins with these words, and this is left of it
pub record GoesOn (ws : List (List ℕ)) (left : List Marked) : Type 0 where
  pub message : Record
  pub is_good : good message ≡ true
  pub seen : List Marked
  pub parts : seen ++ left ≡ message_parts message
  pub words : map (λ (m : Marked). m.word) seen ≡ ws

-- "the next required part" after these words: a word of it may come next, and every accepted message that begins with them still has one
pub record NextRequired (ws : List (List ℕ)) (part : ℕ) : Type 0 where
  pub next : ComesNext ws part
  pub required : (left : List Marked) → GoesOn ws left → (word : List ℕ) × Memᴰ (marked part word) left

-- how a word is judged that is refused after these words
pub record Judgement (before : List (List ℕ)) (number : ℕ) : Type 0 where
  -- "12 | a word where `=` would also be accepted": these words, with the `=`, are a whole message
  pub twelve : (number ≡ 12) ↔ Whole (before ++ (equals_sign ∷ []))
  -- "it is judged as the next required part"
  pub required : NextRequired before number

pub record Judgements : Type 0 where
  -- every word that is refused by 4 to 12, …
  pub judged : (ws : List Word) (number place long : ℕ) (r : RefusedAt ws number place long) → Judgement (bytes_of r.before) number
  -- … and so the word at which the reader refuses a bulletin by one of them
  pub judged-reading : (bulletin : List ℕ) (p : Reply) → MayRead bulletin p → 4 ≤ p.number
      → (r : RefusedAt (words_at (text_within bulletin) 0) p.number p.place p.length) × Judgement (bytes_of r.before) p.number
  -- the greatest part that may come next is the next required part, and no other part is
  pub greatest-required : (ws : List (List ℕ)) (part : ℕ) → JudgedAs ws part ↔ NextRequired ws part

-- 02, CR 4: "The desk screen underlines the fault, and underlined only its first letter. Every reader refusal shall also give a length: that of the
-- word for 4 to 12, 1 for `=`, 1 for number 2 and for a byte after `=`, 0 for number 1 and for a missing `=`."
-- Believed.
use Rattle.std.specs.Prelude.{true, false, List, [], ◌∷◌, ◌≡◌, ℕ, ◌+◌, ◌<◌, ◌≤◌, get_or}
use Rattle.lists.specs.Lists.{all_of, part}
use Rattle.words.specs.Bytes.{allowed, solid, equals, unequal}
use Rattle.words.specs.Check.{equals_at}
use Rattle.words.specs.Words.{words_at}
use Rattle.grammar.specs.Bulletins.{text_within}
use Rattle.grammar.specs.Judged.{RefusedAt}
use Rattle.grammar.specs.declared.Reply.{Reply}
use Rattle.roundtrips.specs.Trips.{MayRead}

-- the bytes of the bulletin that the screen underlines
abbrev pub underlined : List ℕ → Reply → List ℕ
underlined bulletin p = part p.place (p.place + p.length) bulletin

pub record Lengths : Type 0 where
  -- "that of the word for 4 to 12, 1 for `=`": what is underlined is the refused word, to its last byte
  pub word : (bulletin : List ℕ) (p : Reply) → MayRead bulletin p → 4 ≤ p.number
      → (r : RefusedAt (words_at (text_within bulletin) 0) p.number p.place p.length) × (underlined bulletin p ≡ r.word.bytes)
  pub sign : (bulletin : List ℕ) (p : Reply) → MayRead bulletin p → 4 ≤ p.number → equals (get_or bulletin p.place 0) ≡ true → p.length ≡ 1
  -- "1 for number 2": that of a byte that is not allowed
  pub barred : (bulletin : List ℕ) (p : Reply) → MayRead bulletin p → p.number ≡ 2
      → (p.length ≡ 1) × ((byte : ℕ) × (underlined bulletin p ≡ byte ∷ []) × (allowed byte ≡ false))
  -- "and for a byte after `=`": no space, CR or LF
  pub after : (bulletin : List ℕ) (p : Reply) → MayRead bulletin p → p.number ≡ 3 → all_of unequal bulletin ≡ false
      → (p.length ≡ 1) × (equals_at bulletin < p.place) × ((byte : ℕ) × (underlined bulletin p ≡ byte ∷ []) × (solid byte ≡ true))
  -- "0 for number 1 and for a missing `=`"
  pub unfit : (bulletin : List ℕ) (p : Reply) → MayRead bulletin p → p.number ≡ 1 → p.length ≡ 0
  pub missing : (bulletin : List ℕ) (p : Reply) → MayRead bulletin p → p.number ≡ 3 → all_of unequal bulletin ≡ true → p.length ≡ 0
  -- "0 on success"
  pub read : (bulletin : List ℕ) (p : Reply) → MayRead bulletin p → p.number ≡ 0 → p.length ≡ 0

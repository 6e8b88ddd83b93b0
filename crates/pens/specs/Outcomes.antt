-- What writing into a lent buffer comes to, the canonical text and the listing alike.
-- Believed.
use Rattle.std.specs.Prelude.{List, ◌++◌, ℕ, length, drop}
use Rattle.pens.specs.declared.Written.{Written}

-- the refusal number, 0 for none, the count written, and the buffer as it is afterwards
pub record Wrote : Type 0 where
  pub number : ℕ
  pub count : ℕ
  pub buffer : List ℕ

-- "Count 0, buffer untouched."
abbrev pub unwritten : ℕ → List ℕ → Wrote
unwritten number buffer = record { number = number; count = 0; buffer = buffer }

-- "On success of writer or listing the bytes past the count stay."
abbrev pub written : List ℕ → List ℕ → Wrote
written text buffer = record { number = 0; count = length text; buffer = text ++ drop (length text) buffer }

-- a reply with the buffer as it is then
abbrev pub wrote : Written → List ℕ → Wrote
wrote r buffer = record { number = r.number; count = r.count; buffer = buffer }

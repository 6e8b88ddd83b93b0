-- 01, "sequence as written" in an identity, "sequence padded with spaces on the right" in the order and "sequence 3 padded" in the listing:
-- the characters, filled up to three with spaces, as one number in base 256.
-- Believed.
use Rattle.std.specs.Prelude.{Bool, List, ◌++◌, ℕ, eqb, take}
use Prim.Native.Char.{code}
use Rattle.lists.specs.Choice.{both}
use Rattle.lists.specs.Lists.{index_of}
use Rattle.lists.specs.Base.{worth}
use Rattle.lists.specs.Text.{bytes}
use Rattle.figures.specs.Letters.{in_letters}
use Rattle.headings.specs.Sequences.{good_sequence, sequence_of, spell_sequence}
use Rattle.headings.specs.declared.Sequence.{Sequence}

-- three characters: the sequence as written, and spaces
unfoldable pub padded : List ℕ → ℕ
padded w = worth 256 (take 3 (w ++ bytes "   "))

abbrev pub padded_of : Sequence → ℕ
padded_of s = padded (spell_sequence s)

-- the characters of a padded number before its first space
unfoldable pub unpadded : ℕ → List ℕ
unpadded n = take (index_of (eqb (code " ")) (in_letters 3 n)) (in_letters 3 n)

-- "well-formed … sequence": the number is that of a sequence, padded
unfoldable pub held_sequence : ℕ → Bool
held_sequence n = both (good_sequence (sequence_of (unpadded n))) (eqb (padded (unpadded n)) n)

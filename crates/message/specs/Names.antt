-- 01, names in a record: "with single spaces it has at most 50 characters"; a mountain's "rules as above, 30 characters".
-- Believed.
use Rattle.std.specs.Prelude.{Bool, List, ℕ, eqb, length, take, drop, replicate}
use Rattle.lists.specs.Choice.{both}
use Rattle.lists.specs.Lists.{all_of}
use Rattle.words.specs.Bytes.{between}
use Rattle.names.specs.Names.{name_text, pieces}
use Rattle.message.specs.Limits.{name_bytes}
use Rattle.message.specs.declared.Name.{Name}

abbrev pub zero_byte : ℕ → Bool
zero_byte x = eqb x 0

-- "Places of a record that its form does not use are zero": the bytes past the name
abbrev pub unused_zero : Name → Bool
unused_zero n = both (eqb (length n.bytes) name_bytes) (all_of zero_byte (drop n.count n.bytes))

-- a good name, by whether it is a mountain's and by its greatest length
unfoldable pub good_name : Bool → ℕ → Name → Bool
good_name mountain limit n = both (between 1 limit n.count) (both (unused_zero n) (name_text mountain (take n.count n.bytes)))

unfoldable pub empty_name : Name → Bool
empty_name n = both (eqb n.count 0) (unused_zero n)

abbrev pub no_name : Name
no_name = record { bytes = replicate name_bytes 0; count = 0 }

-- the words of a name
abbrev pub name_words : Name → List (List ℕ)
name_words n = pieces (take n.count n.bytes)

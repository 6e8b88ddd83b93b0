-- docs/REPLAY.md: "A number is one or more decimal figures, leading zeros allowed, and at most 4,294,967,295."
-- Internal contract.
use Rattle.std.specs.Prelude.{Bool, true, false, not, List, [], ◌∷◌, ℕ, ◌+◌, ◌*◌, ◌%◌, ltb, eqb, length, drop, Option, Some, None}
use Rattle.lists.specs.Choice.{pick}
use Rattle.lists.specs.Lists.{index_from, part}
use Rattle.words.specs.Bytes.{digit}

-- a number that is looked for at a place: whether it is well-formed, its value, and where its figures end
pub record Number : Type 0 where
  pub formed : Bool
  pub value : ℕ
  pub next : ℕ

abbrev pub greatest : ℕ
greatest = 4294967295

-- where the figures from a place on end
abbrev pub no_figure : ℕ → Bool
no_figure x = not (digit x)

abbrev pub figures_end : List ℕ → ℕ → ℕ
figures_end s at = index_from no_figure at s

-- the value of figures behind those that have the value v; a figure's own value is its last four bits
unfoldable pub value_from : ℕ → List ℕ → ℕ
value_from v [] = v
value_from v (x ∷ xs) = value_from (v * 10 + x % 16) xs

abbrev pub no_number : ℕ → Number
no_number next = record { formed = false; value = 0; next = next }

abbrev pub a_number : ℕ → ℕ → Number
a_number value next = record { formed = true; value = value; next = next }

-- no figure is no number, and neither is a value past the greatest
unfoldable pub number_to : ℕ → ℕ → ℕ → Number
number_to at end value = pick (eqb end at) (no_number end) (pick (ltb greatest value) (no_number end) (a_number value end))

unfoldable pub number_at : List ℕ → ℕ → Number
number_at s at = number_to at (figures_end s at) (value_from 0 (part at (figures_end s at) s))

-- the number at the front of what is left of a script, where there is one, and what is left behind its figures
abbrev pub front_number : List ℕ → Option ℕ
front_number s = pick (number_at s 0).formed (Some (number_at s 0).value) None

abbrev pub behind_number : List ℕ → List ℕ
behind_number s = drop (number_at s 0).next s

-- the value of a run of figures: none of no figure, and none past the greatest
abbrev pub value_in : List ℕ → Option ℕ
value_in w = pick (eqb (length w) 0) None (pick (ltb greatest (value_from 0 w)) None (Some (value_from 0 w)))

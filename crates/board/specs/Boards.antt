-- 01, "A good board has clock 0 or one in range; each held place has …; no identity is held twice. The empty board has clock 0."
-- Believed.
use Rattle.std.specs.Prelude.{Bool, true, not, List, [], ◌∷◌, ℕ, ltb, eqb, length, replicate}
use Rattle.lists.specs.Choice.{pick, both, either}
use Rattle.lists.specs.Lists.{all_of}
use Rattle.words.specs.Bytes.{between}
use Rattle.places.specs.Places.{same_identity, no_place, empty_place, good_place}
use Rattle.places.specs.declared.Place.{Place}
use Rattle.board.specs.declared.Board.{Board}

-- "A board has 64 places"
abbrev pub place_count : ℕ
place_count = 64

-- "The clock given to a board call is 1,440 to 52,591,679."
abbrev pub earliest_clock : ℕ
earliest_clock = 1440

abbrev pub latest_clock : ℕ
latest_clock = 52591679

abbrev pub in_range : ℕ → Bool
in_range clock = between earliest_clock latest_clock clock

-- a place of another identity
abbrev pub differs : Place → Place → Bool
differs p q = not (same_identity p.identity q.identity)

-- "no identity is held twice": no later place has the identity of a held one
unfoldable pub distinct : List Place → Bool
distinct [] = true
distinct (p ∷ ps) = both (either (empty_place p) (all_of (differs p) ps)) (distinct ps)

-- 64 places, each empty or held as it should be at the board's clock
unfoldable pub good_places : ℕ → List Place → Bool
good_places clock ps = both (eqb (length ps) place_count) (all_of (good_place clock) ps)

-- "A good board has clock 0 or one in range; each held place has …; no identity is held twice."
unfoldable pub good_board : Board → Bool
good_board b = both (either (eqb b.clock 0) (in_range b.clock)) (both (good_places b.clock b.places) (distinct b.places))

-- "The empty board has clock 0."
abbrev pub empty_board : Board
empty_board = record { clock = 0; places = replicate place_count no_place }

-- "36 not a good board; 16 clock outside its range; 17 clock before the board's", 0 where none of these: of posts and listings alike
unfoldable pub refusal_at : Board → ℕ → ℕ
refusal_at b clock = pick (not (good_board b)) 36 (pick (not (in_range clock)) 16 (pick (ltb clock b.clock) 17 0))

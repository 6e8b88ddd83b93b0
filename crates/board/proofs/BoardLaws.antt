-- The tests of a board's places, in the shapes that the code's returns ask for.
use mathlib.Core.Bool.{Bool, true, false}
use mathlib.Core.List.{List}
use mathlib.Core.Path.{◌≡◌, ◌∙◌}
use Prim.Native.Nat.{ℕ, ◌+◌, ◌≤◌, ◌<◌}
use native.Mathlib.Numerals.{add-one}
use lib.ListN.{length, drop, get_or, drop_of_length-le}
use lib.Seq.{drop-cons}
use Rattle.lists.specs.Choice.{either}
use Rattle.lists.specs.Lists.{all_of}
use Rattle.places.specs.Places.{no_place, empty_place, good_place}
use Rattle.places.specs.declared.Place.{Place}
use Rattle.board.specs.Boards.{differs, distinct, good_places}

-- Passing over the places one by one.

pub distinct-past : (ps : List Place) (i : ℕ) → i < length ps → either (empty_place (get_or ps i no_place)) (all_of (differs (get_or ps i no_place)) (drop (i + 1) ps)) ≡ true
    → distinct (drop i ps) ≡ distinct (drop (i + 1) ps)
unfolding distinct
distinct-past ps i h e = let t = rw add-one at e in rw (add-one, drop-cons ps i no_place h, t)

pub distinct-stop : (ps : List Place) (i : ℕ) → i < length ps → either (empty_place (get_or ps i no_place)) (all_of (differs (get_or ps i no_place)) (drop (i + 1) ps)) ≡ false
    → distinct (drop i ps) ≡ false
unfolding distinct
distinct-stop ps i h e = let t = rw add-one at e in rw (drop-cons ps i no_place h, t)

pub distinct-end : (ps : List Place) (i : ℕ) → length ps ≤ i → distinct (drop i ps) ≡ true
unfolding distinct
distinct-end ps i h = rw (drop_of_length-le ps h)

-- The whole test.

pub places-all : (clock : ℕ) (ps : List Place) {r : Bool} → length ps ≡ 64 → r ≡ all_of (good_place clock) ps → r ≡ good_places clock ps
unfolding good_places
places-all clock ps l e = e ∙ rw l

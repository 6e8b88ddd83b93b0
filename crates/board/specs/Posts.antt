-- 01, "An accepted post sets the board's clock and first drops places whose end is at or before it. A report takes a place, or replaces the
-- one of its identity when its correction is later (none, then A to X). A cancellation marks its target's place, or takes a marked place
-- where none is held; …. Dropped places become empty where they stand, and a new place is the lowest empty one."
-- Tied: `any-board` (crates/promises/proofs/BoardAnswers.antt).
use Rattle.std.specs.Prelude.{Bool, not, List, map, ◌≡◌, ℕ, ◌<◌, leb, ltb, eqb, length, get_or, set, Result, Ok, Err}
use Rattle.lists.specs.Choice.{pick, both}
use Rattle.lists.specs.Lists.{index_of}
use Rattle.message.specs.declared.Record.{Record}
use Rattle.places.specs.Places.{same_identity, no_place, empty_place}
use Rattle.places.specs.Claims.{Claim, claim_of}
use Rattle.places.specs.Refusals.{number_of}
use Rattle.places.specs.declared.Identity.{Identity}
use Rattle.places.specs.declared.Place.{Place}
use Rattle.places.specs.declared.refusals.Refusal.{Refusal}
use Rattle.board.specs.Boards.{place_count, refusal_at}
use Rattle.board.specs.declared.Board.{Board}
use Rattle.board.specs.declared.Posted.{Posted}

-- "drops places whose end is at or before it"
abbrev pub kept : ℕ → Place → Place
kept clock p = pick (leb p.identity.end clock) no_place p

unfoldable pub dropped : ℕ → List Place → List Place
dropped clock ps = map (kept clock) ps

-- the place holds the identity
abbrev pub holds : Identity → Place → Bool
holds i p = same_identity i p.identity

-- "22 a report whose identity is marked; 21 a report held with the same or a later correction, or a cancellation whose target is marked":
-- what the place that holds the identity has against the one that comes, 0 for nothing
unfoldable pub objection : Place → Place → ℕ
objection held p =
    pick (both held.marked (not p.marked)) 22
    (pick held.marked 21 (pick (both (not p.marked) (leb p.correction held.correction)) 21 0))

-- a refusal number, or 0 and the place's number
pub record Spot : Type 0 where
  pub answer : ℕ
  pub at : ℕ

-- where a place goes among those left after the dropping: that of its identity, or else the lowest empty one;
-- "23 a new place needed and all 64 in use after the dropping"
unfoldable pub spot_of : List Place → Place → Spot
spot_of ps p =
    pick (ltb (index_of (holds p.identity) ps) (length ps))
    (record { answer = objection (get_or ps (index_of (holds p.identity) ps) no_place) p; at = index_of (holds p.identity) ps })
    (record { answer = pick (ltb (index_of empty_place ps) (length ps)) 0 23; at = index_of empty_place ps })

-- what the code's `spot_of` promises: the spot, which is one of the 64, or the refusal by its name
abbrev pub Finds : List Place → Place → Result ℕ Refusal → Type 0
Finds ps p (Ok at) = (spot_of ps p ≡ record { answer = 0; at = at }) × (at < place_count)
Finds ps p (Err e) = (spot_of ps p).answer ≡ number_of e

-- "Board unchanged, its clock too."
abbrev pub refused : ℕ → Board → Posted
refused number b = record { answer = number; board = b }

-- "An accepted post sets the board's clock"
abbrev pub accepted : ℕ → List Place → Posted
accepted clock ps = record { answer = 0; board = record { clock = clock; places = ps } }

-- what the code answers: the board as it is afterwards, or the refusal by its name
abbrev pub posted_on : Board → Result Board Refusal → Posted
posted_on b (Ok after) = record { answer = 0; board = after }
posted_on b (Err e) = refused (number_of e) b

-- the place is set at its spot, or refused: "22 …; 21 …; 23 …"
unfoldable pub place_at : Board → ℕ → Place → List Place → Spot → Posted
place_at b clock p ps s = pick (eqb s.answer 0) (accepted clock (set ps s.at p)) (refused s.answer b)

-- "first drops places whose end is at or before it"
unfoldable pub settled : Board → ℕ → Place → Posted
settled b clock p = place_at b clock p (dropped clock b.places) (spot_of (dropped clock b.places) p)

-- what the message asks for, or its refusal: "13; 15 …; 18 …; 19 …; 20 …"
unfoldable pub claimed_on : Board → ℕ → Claim → Posted
claimed_on b clock c = pick (eqb c.answer 0) (settled b clock c.place) (refused c.answer b)

-- "Post: 36 not a good board; 16 clock outside its range; 17 clock before the board's; 13; 15 …; 18 …; 19 …; 20 …; 22 …; 21 …; 23 …", in this order
unfoldable pub post_of : Board → ℕ → Record → Posted
post_of b clock r = pick (eqb (refusal_at b clock) 0) (claimed_on b clock (claim_of clock r)) (refused (refusal_at b clock) b)

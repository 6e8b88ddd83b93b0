-- 01, "Listing: 36, 16, 17, then 14 (count 0, buffer untouched).": the answer to a listing of a board, by its places.
-- Tied: `any-listing` (crates/promises/proofs/BoardListings.antt).
use Rattle.std.specs.Prelude.{List, ℕ, ltb, eqb, length}
use Rattle.lists.specs.Choice.{pick}
use Rattle.pens.specs.Outcomes.{Wrote, unwritten, written}
use Rattle.places.specs.declared.Place.{Place}
use Rattle.board.specs.Boards.{refusal_at}
use Rattle.board.specs.declared.Board.{Board}
use Rattle.listing.specs.Rows.{rows_of}
use Rattle.listing.specs.Listings.{listing}

-- what is listed of some places at a time
unfoldable pub listing_of : ℕ → List Place → List ℕ
listing_of time places = listing time (rows_of time places)

-- "Listing: 36, 16, 17, then 14 (count 0, buffer untouched)."
unfoldable pub list_of : Board → ℕ → List ℕ → Wrote
list_of b time buffer =
    pick (eqb (refusal_at b time) 0)
    (pick (ltb (length buffer) (length (listing_of time b.places))) (unwritten 14 buffer) (written (listing_of time b.places) buffer))
    (unwritten (refusal_at b time) buffer)

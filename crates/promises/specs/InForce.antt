-- Demand 3: "asked at a time in its range, no earlier than the last post it accepted, with room for the answer, the board lists exactly the
-- weather reports accepted so far, by latest accepted correction, whose period holds that time and which no accepted cancellation names. None
-- is listed twice, the order is fixed". And 01, "Listing: 36, 16, 17, then 14 (count 0, buffer untouched)."; 36 has no cause after a
-- history: none leads to a bad board.
-- Believed.
use Rattle.std.specs.Prelude.{false, ◌≡◌, ℕ, ◌≤◌, ◌<◌, length, drop}
use mathlib.Core.List.{List, ◌++◌, Memᴰ, Pairwise}
use Rattle.places.specs.declared.Place.{Place}
use Rattle.listing.specs.Listings.{listing}
use Rattle.promises.specs.Calls.{History}
use Rattle.promises.specs.Accepted.{Reported, Cancelled, last_clock}
use Rattle.promises.specs.Refusals.{Refuses, Accepts, InRange}
use Rattle.promises.specs.Order.{InOrder}

-- A row, an identity with a correction, is in force at the time: it was reported, with no later correction, no accepted cancellation names
-- it, and "start <= time < end". A `Place` also has a mark, which no record of a listing shows; a row has none.
pub record InForce (h : History) (time : ℕ) (p : Place) : Type 0 where
  pub reported : Reported p.identity p.correction h
  pub latest : (c : ℕ) → Reported p.identity c h → c ≤ p.correction
  pub unnamed : Cancelled p.identity h → ⊥
  pub begun : p.identity.start ≤ time
  pub lasting : time < p.identity.end
  pub unmarked : p.marked ≡ false

-- The rows listed: those that are shown and all of them, strictly in the order, and so none twice; `Memᴰ p rows`: p stands in the rows.
pub record AllInOrder (shown : Place → Type 0) (rows : List Place) : Type 0 where
  pub those : (p : Place) → Memᴰ p rows → shown p
  pub all : (p : Place) → shown p → Memᴰ p rows
  pub ordered : Pairwise InOrder rows

-- 14, "buffer shorter than what would be written"
pub record NoRoomFor (shown : Place → Type 0) (time : ℕ) (buffer : List ℕ) : Type 0 where
  pub rows : List Place
  pub listed : AllInOrder shown rows
  pub longer : length buffer < length (listing time rows)

-- "the count written is returned", and "the bytes past the count stay"
pub record FullListing (shown : Place → Type 0) (time : ℕ) (buffer : List ℕ) (count : ℕ) (after : List ℕ) : Type 0 where
  pub rows : List Place
  pub listed : AllInOrder shown rows
  pub counted : count ≡ length (listing time rows)
  pub leaves : after ≡ listing time rows ++ drop (length (listing time rows)) buffer

-- "Listing: 36, 16, 17, then 14": by what it finds, that the board is not good, its clock, and what is shown at the time. This is said of a
-- history below, and of a board in specs/AnyBoard.antt.
abbrev pub ListNumber : Type 0 → ℕ → (Place → Type 0) → ℕ → List ℕ → ℕ → Type 0
ListNumber bad clock shown time buffer =
    Refuses 36 bad (Refuses 16 (InRange time → ⊥) (Refuses 17 (time < clock) (Refuses 14 (NoRoomFor shown time buffer) Accepts)))

-- its number, its count and its buffer; "(count 0, buffer untouched)"
pub record Lists (bad : Type 0) (clock : ℕ) (shown : Place → Type 0) (time : ℕ) (buffer : List ℕ) (answer count : ℕ) (after : List ℕ) : Type 0 where
  pub number : ListNumber bad clock shown time buffer answer
  pub untouched : (answer ≡ 0 → ⊥) → (count ≡ 0) × (after ≡ buffer)
  pub whole : answer ≡ 0 → FullListing shown time buffer count after

-- the rows of a listing after the history, and its answer
abbrev pub IsListing : History → ℕ → List Place → Type 0
IsListing h time = AllInOrder (InForce h time)

abbrev pub ListAnswered : History → ℕ → List ℕ → ℕ → ℕ → List ℕ → Type 0
ListAnswered h time = Lists ⊥ (last_clock h) (InForce h time) time

-- 01, "An accepted post sets the board's clock and first drops places whose end is at or before it. A report takes a place, or replaces the one
-- of its identity when its correction is later (none, then A to X). A cancellation marks its target's place, or takes a marked place where none
-- is held; a marked place's correction is none. Dropped places become empty where they stand, and a new place is the lowest empty one."
-- Demand 3 speaks of the boards that calls lead to; this of any board, wherever it came from, by its clock and its 64 places.
-- Believed.
use Rattle.std.specs.Prelude.{true, false, List, ◌↔◌, ◌≡◌, ℕ, ◌≤◌, ◌<◌, leb, length, get_or}
use Rattle.lists.specs.Choice.{pick}
use Rattle.message.specs.declared.Record.{Record}
use Rattle.places.specs.Places.{no_place}
use Rattle.places.specs.declared.Identity.{Identity}
use Rattle.places.specs.declared.Place.{Place}
use Rattle.board.specs.Boards.{place_count, good_board}
use Rattle.board.specs.declared.Board.{Board}
use Rattle.promises.specs.Calls.{MayPost, MayList}
use Rattle.promises.specs.Accepted.{IsReport, IsCancellation}
use Rattle.promises.specs.Refusals.{Found, Answered}
use Rattle.promises.specs.InForce.{AllInOrder, Lists}

-- a place by its number, from 0 to 63
abbrev pub place_of : Board → ℕ → Place
place_of b k = get_or b.places k no_place

-- the identity is held at that place; no message has that of an empty place, all zero
pub record HeldAt (b : Board) (i : Identity) (k : ℕ) : Type 0 where
  pub within : k < place_count
  pub its : (place_of b k).identity ≡ i

-- "drops places whose end is at or before it"; "Dropped places become empty where they stand"
abbrev pub after_dropping : Board → ℕ → ℕ → Place
after_dropping b clock k = pick (leb (place_of b k).identity.end clock) no_place (place_of b k)

-- what a post at the clock finds
abbrev pub found_on : Board → ℕ → Found
found_on b clock =
    record {
      bad = good_board b ≡ false;
      clock = b.clock;
      marked = λ i. (k : ℕ) × HeldAt b i k × ((place_of b k).marked ≡ true);
      held = λ i c. (k : ℕ) × HeldAt b i k × ((place_of b k).marked ≡ false) × ((place_of b k).correction ≡ c);
      full = (k : ℕ) → k < place_count → after_dropping b clock k ≡ no_place → ⊥;
    }

-- the answer to a post of the record at the clock, on the board
abbrev pub AnsweredOn : Board → ℕ → Record → ℕ → Type 0
AnsweredOn b clock r = Answered (found_on b clock) clock r

-- What an accepted message becomes: a report a place with its identity and correction, a cancellation one with its target's identity and a mark;
-- "a marked place's correction is none".
pub data Becomes (clock : ℕ) (r : Record) : Place → Type 0 where
  reported : {i : Identity} {c : ℕ} → IsReport clock r i c → Becomes clock r (record { identity = i; correction = c; marked = false })
  named : {i : Identity} → IsCancellation clock r i → Becomes clock r (record { identity = i; correction = 0; marked = true })

-- Where that goes: "replaces the one of its identity", "marks its target's place"; else "a new place is the lowest empty one".
pub data GoesTo (b : Board) (clock : ℕ) (i : Identity) (k : ℕ) : Type 0 where
  where-held : HeldAt b i k → GoesTo b clock i k
  lowest-empty : ((j : ℕ) → HeldAt b i j → ⊥) → k < place_count → after_dropping b clock k ≡ no_place
      → ((j : ℕ) → j < k → after_dropping b clock j ≡ no_place → ⊥) → GoesTo b clock i k

-- "An accepted post sets the board's clock and first drops places": then the message stands where it goes, and every other place is as it was left.
pub record Takes (b : Board) (clock : ℕ) (r : Record) (after : Board) : Type 0 where
  pub sets-clock : after.clock ≡ clock
  pub places : length after.places ≡ place_count
  pub message : Place
  pub becomes : Becomes clock r message
  pub at : ℕ
  pub goes_to : GoesTo b clock message.identity at
  pub there : place_of after at ≡ message
  pub others : (k : ℕ) → k < place_count → (k ≡ at → ⊥) → place_of after k ≡ after_dropping b clock k

pub record PostsOnAnyBoard : Type 0 where
  -- a post keeps a good board good
  pub stays-good : (b after : Board) (clock : ℕ) (r : Record) (answer : ℕ) → MayPost b clock r answer after → good_board b ≡ true → good_board after ≡ true
  -- each number exactly for its cause, in the paper's order; 36 exactly on a board that is not good
  pub turned-away : (b after : Board) (clock : ℕ) (r : Record) (answer : ℕ) → MayPost b clock r answer after → (n : ℕ) → (answer ≡ n) ↔ AnsweredOn b clock r n
  -- "Board unchanged, its clock too.", as demand 1 has it
  pub refused : (b after : Board) (clock : ℕ) (r : Record) (answer : ℕ) → MayPost b clock r answer after → (answer ≡ 0 → ⊥) → after ≡ b
  -- accepted: the board takes the message, and no other board is what it then is
  pub takes : (b after : Board) (clock : ℕ) (r : Record) → MayPost b clock r 0 after → Takes b clock r after
  pub one-after : (b after other : Board) (clock : ℕ) (r : Record) → MayPost b clock r 0 after → Takes b clock r other → other ≡ after

-- Listings: "Listing changes no board.", so there is only the answer.

-- "A message is listed when start <= time < end." "Marked places are never listed": what one of the 64 places shows at the time; an empty one
-- ends at 0, and so shows nothing
pub record Shown (b : Board) (time : ℕ) (p : Place) : Type 0 where
  pub at : ℕ
  pub within : at < place_count
  pub there : place_of b at ≡ p
  pub unmarked : p.marked ≡ false
  pub begun : p.identity.start ≤ time
  pub lasting : time < p.identity.end

-- the rows of a listing of the board, and its answer
abbrev pub IsListingOn : Board → ℕ → List Place → Type 0
IsListingOn b time = AllInOrder (Shown b time)

abbrev pub ListAnsweredOn : Board → ℕ → List ℕ → ℕ → ℕ → List ℕ → Type 0
ListAnsweredOn b time = Lists (good_board b ≡ false) b.clock (Shown b time) time

pub record ListsOnAnyBoard : Type 0 where
  -- number, count and buffer are exactly those
  pub lists : (b : Board) (time : ℕ) (buffer : List ℕ) (answer count : ℕ) (after : List ℕ)
      → MayList b time buffer answer count after ↔ ListAnsweredOn b time buffer answer count after
  -- on a good board there are such rows, and only these
  pub some-rows : (b : Board) (time : ℕ) → good_board b ≡ true → (rows : List Place) × IsListingOn b time rows
  pub one-rows : (b : Board) (time : ℕ) → good_board b ≡ true → (xs ys : List Place) → IsListingOn b time xs → IsListingOn b time ys → xs ≡ ys

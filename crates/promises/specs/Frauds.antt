-- 01, "Four frauds must be provably excluded. A reader that refuses everything, or replies with one fixed record, breaks demand 2. A board that
-- refuses every post, does nothing, or obeys its first post and afterwards only reports success or refuses, breaks demand 3. A made-up listing
-- count breaks demand 3 as well". Of any reader, writer and board whatever: whoever meets the demands is no such fraud.
-- Believed.
use Rattle.std.specs.Prelude.{List, [], ◌∷◌, ◌↔◌, ◌≡◌, ℕ, length}
use Rattle.message.specs.declared.Record.{Record}
use Rattle.grammar.specs.declared.Reply.{Reply}
use Rattle.pens.specs.declared.Written.{Written}
use Rattle.places.specs.declared.Place.{Place}
use Rattle.promises.specs.Calls.{History, Happens}
use Rattle.promises.specs.Calls.Call.{posted, listed}
use Rattle.promises.specs.InForce.{IsListing}
use Rattle.listing.specs.Listings.{listing}
use Rattle.promises.specs.Demand2.{Demand2}
use Rattle.promises.specs.Demand3.{Demand3}

-- A reader that replies to everything and meets demand 2, with some writer.
pub record MeetsDemand2 (Reads : List ℕ → Reply → Type 0) (Writes : Record → List ℕ → Written → List ℕ → Type 0) : Type 0 where
  pub replies : (bulletin : List ℕ) → (p : Reply) × Reads bulletin p
  pub demand : Demand2 Reads Writes

-- every reply has a number
abbrev pub RefusesEverything : (List ℕ → Reply → Type 0) → Type 0
RefusesEverything Reads = (bulletin : List ℕ) (p : Reply) → Reads bulletin p → p.number ≡ 0 → ⊥

-- whatever is read, the record is this one
abbrev pub OneFixedRecord : (List ℕ → Reply → Type 0) → Record → Type 0
OneFixedRecord Reads r = (bulletin : List ℕ) (p : Reply) → Reads bulletin p → p.number ≡ 0 → p.message ≡ r

-- no post is answered 0
abbrev pub RefusesEveryPost : (History → Type 0) → Type 0
RefusesEveryPost Can = (h : History) (clock : ℕ) (r : Record) → Can (posted clock r 0 ∷ h) → ⊥

-- no post shows in any listing: kind 1 and the time are all that is ever listed
abbrev pub DoesNothing : (History → Type 0) → Type 0
DoesNothing Can = (h : History) (time : ℕ) (buffer : List ℕ) (count : ℕ) (after : List ℕ) → Can (listed time buffer 0 count after ∷ h) → count ≡ 5

-- after an accepted first post, a second one, whatever is answered to it, shows in no listing
abbrev pub ObeysTheFirstOnly : (History → Type 0) → Type 0
ObeysTheFirstOnly Can =
    (clock then : ℕ) (r s : Record) (answer time : ℕ) (buffer : List ℕ) (j k : ℕ) (x y : List ℕ)
    → Can (listed time buffer 0 j x ∷ (posted clock r 0 ∷ []))
    → Can (listed time buffer 0 k y ∷ (posted then s answer ∷ (posted clock r 0 ∷ []))) → x ≡ y

pub record FraudsExcluded : Type 1 where
  -- "A reader that refuses everything, or replies with one fixed record, breaks demand 2."
  pub refuses-everything : (Reads : List ℕ → Reply → Type 0) (Writes : Record → List ℕ → Written → List ℕ → Type 0)
      → MeetsDemand2 Reads Writes → RefusesEverything Reads → ⊥
  pub one-fixed-record : (Reads : List ℕ → Reply → Type 0) (Writes : Record → List ℕ → Written → List ℕ → Type 0)
      → MeetsDemand2 Reads Writes → (r : Record) → OneFixedRecord Reads r → ⊥
  -- "A board that refuses every post, does nothing, or obeys its first post and afterwards only reports success or refuses, breaks demand 3."
  pub refuses-every-post : (Can : History → Type 0) → Demand3 Can → RefusesEveryPost Can → ⊥
  pub does-nothing : (Can : History → Type 0) → Demand3 Can → DoesNothing Can → ⊥
  pub obeys-the-first-only : (Can : History → Type 0) → Demand3 Can → ObeysTheFirstOnly Can → ⊥
  -- "A made-up listing count breaks demand 3 as well, since the count is the length of the listing so defined."
  pub made-up-count : (Can : History → Type 0) → Demand3 Can → (h : History) (time : ℕ) (buffer : List ℕ) (count : ℕ) (after : List ℕ)
      → Can (listed time buffer 0 count after ∷ h) → (rows : List Place) → IsListing h time rows → count ≡ length (listing time rows)
  -- and there is no other fraud: a board that meets demand 3 gives every answer that ours gives, and no other
  pub no-other-board : (Can : History → Type 0) → Demand3 Can → (h : History) → Can h ↔ Happens h

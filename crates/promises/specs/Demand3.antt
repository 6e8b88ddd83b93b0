-- The customer's third demand: "From an empty board, over all sequences of calls: asked at a time in its range, no earlier than the last post it
-- accepted, with room for the answer, the board lists exactly the weather reports accepted so far, by latest accepted correction, whose period
-- holds that time and which no accepted cancellation names. None is listed twice, the order is fixed, and never more than 64 are listed. A post
-- is turned away exactly for the causes numbered in our paper, and room freed by ended messages is used again."
-- A board is known by the histories that can happen with it, and the demand is made of those alone. Ours are `Happens`.
-- Believed.
use mathlib.Core.List.{List, [], ◌∷◌, ◌++◌, Memᴰ, Nodup, Pairwise}
use Rattle.std.specs.Prelude.{◌↔◌, ◌≡◌, ℕ, ◌≤◌, ◌<◌, length, drop}
use Rattle.message.specs.declared.Record.{Record}
use Rattle.places.specs.declared.Identity.{Identity}
use Rattle.places.specs.declared.Place.{Place}
use Rattle.board.specs.Boards.{place_count}
use Rattle.promises.specs.Calls.{Call, History}
use Rattle.promises.specs.Calls.Call.{posted, listed}
use Rattle.promises.specs.Accepted.{IsReport, Reported, Known, last_clock}
use Rattle.promises.specs.Refusals.{Concerns}
use Rattle.promises.specs.Answers.{Timely, Full, PostAnswered}
use Rattle.promises.specs.InForce.{IsListing, ListAnswered}
use Rattle.listing.specs.Listings.{listing}

pub record Demand3 (Can : History → Type 0) : Type 0 where
  -- "From an empty board, over all sequences of calls": after every history, every post and every listing gets an answer …
  pub begins : Can []
  pub post-answered : (h : History) → Can h → (clock : ℕ) (r : Record) → (answer : ℕ) × Can (posted clock r answer ∷ h)
  pub listing-answered : (h : History) → Can h → (time : ℕ) (buffer : List ℕ)
      → (answer : ℕ) × (count : ℕ) × (after : List ℕ) × Can (listed time buffer answer count after ∷ h)
  pub earlier : (call : Call) (h : History) → Can (call ∷ h) → Can h
  -- … and one only
  pub one_answer : (h : History) (clock : ℕ) (r : Record) (m n : ℕ) → Can (posted clock r m ∷ h) → Can (posted clock r n ∷ h) → m ≡ n
  pub one-listing : (h : History) (time : ℕ) (buffer : List ℕ) (m n j k : ℕ) (x y : List ℕ)
      → Can (listed time buffer m j x ∷ h) → Can (listed time buffer n k y ∷ h) → (m ≡ n) × (j ≡ k) × (x ≡ y)
  -- "asked at a time in its range, no earlier than the last post it accepted, with room for the answer, the board lists exactly the weather
  -- reports accepted so far, by latest accepted correction, whose period holds that time and which no accepted cancellation names."
  pub lists-exactly : (h : History) (time : ℕ) (buffer : List ℕ) (answer count : ℕ) (after : List ℕ) → Can (listed time buffer answer count after ∷ h)
      → Timely h time → (rows : List Place) → IsListing h time rows → length (listing time rows) ≤ length buffer
      → (answer ≡ 0) × (count ≡ length (listing time rows)) × (after ≡ listing time rows ++ drop (length (listing time rows)) buffer)
  -- at any time and with any buffer: 16, 17, 14 or the listing; "At most 1,093 bytes"
  pub lists : (h : History) (time : ℕ) (buffer : List ℕ) (answer count : ℕ) (after : List ℕ) → Can (listed time buffer answer count after ∷ h)
      → ListAnswered h time buffer answer count after
  pub at-most-1093 : (h : History) (time : ℕ) (buffer : List ℕ) (answer count : ℕ) (after : List ℕ) → Can (listed time buffer answer count after ∷ h)
      → count ≤ 1093
  -- "None is listed twice, the order is fixed": there are such rows, and only these; no identity stands in two of them
  pub some-rows : (h : History) → Can h → (time : ℕ) → last_clock h ≤ time → (rows : List Place) × IsListing h time rows
  pub one-rows : (h : History) (time : ℕ) (xs ys : List Place) → IsListing h time xs → IsListing h time ys → xs ≡ ys
  pub none-twice : (h : History) (time : ℕ) (rows : List Place) → IsListing h time rows → Pairwise (λ (p q : Place). p.identity ≡ q.identity → ⊥) rows
  -- "and never more than 64 are listed"
  pub never-more : (h : History) → Can h → (time : ℕ) → last_clock h ≤ time → (rows : List Place) → IsListing h time rows → length rows ≤ place_count
  -- "by latest accepted correction": what is accepted later has the later letter, so the latest accepted is the greatest
  pub ever-later : (h : History) (clock : ℕ) (r : Record) → Can (posted clock r 0 ∷ h) → (i : Identity) (c : ℕ) → IsReport clock r i c
      → (d : ℕ) → Reported i d h → d < c
  -- "A post is turned away exactly for the causes numbered in our paper"; a message concerns one identity
  pub turned-away : (h : History) (clock : ℕ) (r : Record) (answer : ℕ) → Can (posted clock r answer ∷ h) → (n : ℕ) → (answer ≡ n) ↔ PostAnswered h clock r n
  pub one-identity : (clock : ℕ) (r : Record) (i j : Identity) → Concerns clock r i → Concerns clock r j → i ≡ j
  -- "room freed by ended messages is used again": a message of a new identity gets 23 exactly where 64 accepted identities, reported or
  -- cancelled, have not ended, and is accepted otherwise; and there are never more than 64
  pub room-again : (h : History) (clock : ℕ) (r : Record) (answer : ℕ) → Can (posted clock r answer ∷ h)
      → Timely h clock → (i : Identity) → Concerns clock r i → clock < i.end → (Known i h → ⊥)
      → ((answer ≡ 23) ↔ Full h clock) × ((answer ≡ 0) ↔ (Full h clock → ⊥))
  pub room-enough : (h : History) → Can h → (clock : ℕ) → last_clock h ≤ clock → (is : List Identity) → Nodup is
      → ((i : Identity) → Memᴰ i is → Known i h) → ((i : Identity) → Memᴰ i is → clock < i.end) → length is ≤ place_count

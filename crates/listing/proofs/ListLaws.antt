-- The reply of a listing: a refusal counts nothing and leaves the buffer as it was, and a listing counts its own bytes, which fit in the
-- buffer; what it lists is what is in force on a good board. What is left for `list`: one law for each reply.
use mathlib.Core.Bool.{true, false}
use mathlib.Core.List.{List, ◌++◌}
use mathlib.Core.Path.{◌≡◌, refl, ap, ◌∙◌}
use Prim.Native.Nat.{ℕ, ◌+◌, ◌*◌, ◌≤◌, ◌<◌}
use native.Mathlib.Omega.{arith}
use lib.Dec.{ltb, eqb}
use lib.ListN.{length, drop}
use borrow.Author.Tests.{ltb-false, lt-ltb, le-ltb, eqb-true, eqb-false, ne_eqb}
use Rattle.lists.proofs.Choice.{by}
use Rattle.places.specs.declared.Place.{Place}
use Rattle.board.specs.Boards.{refusal_at}
use Rattle.board.specs.declared.Board.{Board}
use Rattle.board.proofs.RefusalLaws.{unrefused-parts}
use Rattle.board.proofs.Invariant.{board-parts}
use Rattle.listing.specs.Rows.{IsRows, rows_of}
use Rattle.listing.specs.Holding.{PutsListing}
use Rattle.pens.specs.Outcomes.{wrote}
use Rattle.listing.specs.Answers.{listing_of, list_of}
use Rattle.pens.specs.declared.Written.{Written}
use Rattle.listing.proofs.RowLaws.{rows_are, listing-length, listing-most}

-- What the definition says.

module _ (b : Board) (time : ℕ) (buffer : List ℕ) where
  pub refused-untouched : ((list_of b time buffer).number ≡ 0 → ⊥) → ((list_of b time buffer).count ≡ 0) × ((list_of b time buffer).buffer ≡ buffer)
  unfolding list_of
  refused-untouched n =
      by (eqb (refusal_at b time) 0) (λ (z : eqb (refusal_at b time) 0 ≡ true). by (ltb (length buffer) (length (listing_of time b.places)))
      (λ (l : ltb (length buffer) (length (listing_of time b.places)) ≡ true). rw (z, l) (refl, refl))
      (λ (l : ltb (length buffer) (length (listing_of time b.places)) ≡ false). absurd (n (rw (z, l)))))
      (λ (z : eqb (refusal_at b time) 0 ≡ false). rw z (refl, refl))

  pub listed_then : (list_of b time buffer).number ≡ 0
      → ((list_of b time buffer).count ≡ length (listing_of time b.places))
      × ((list_of b time buffer).buffer ≡ listing_of time b.places ++ drop (length (listing_of time b.places)) buffer)
  unfolding list_of
  listed_then a =
      by (eqb (refusal_at b time) 0) (λ (z : eqb (refusal_at b time) 0 ≡ true). by (ltb (length buffer) (length (listing_of time b.places)))
      (λ (l : ltb (length buffer) (length (listing_of time b.places)) ≡ true). absurd (never (rw (z, l) at a)))
      (λ (l : ltb (length buffer) (length (listing_of time b.places)) ≡ false). rw (z, l) (refl, refl)))
      (λ (z : eqb (refusal_at b time) 0 ≡ false). absurd (eqb-false (refusal_at b time) 0 z (rw z at a)))
    where
      never : ◌≡◌ {A = ℕ} 14 0 → ⊥
      never e = omega arith

  unrefused : (list_of b time buffer).number ≡ 0 → refusal_at b time ≡ 0
  unfolding list_of
  unrefused a =
      by (eqb (refusal_at b time) 0) (λ (z : eqb (refusal_at b time) 0 ≡ true). eqb-true (refusal_at b time) 0 z)
      (λ (z : eqb (refusal_at b time) 0 ≡ false). absurd (eqb-false (refusal_at b time) 0 z (rw z at a)))

  pub count-is : (list_of b time buffer).number ≡ 0 → (list_of b time buffer).count ≡ length (listing_of time b.places)
  count-is a = (listed_then a).0

  pub within : (list_of b time buffer).count ≤ length buffer
  unfolding list_of
  within =
      by (eqb (refusal_at b time) 0) (λ (z : eqb (refusal_at b time) 0 ≡ true). by (ltb (length buffer) (length (listing_of time b.places)))
      (λ (l : ltb (length buffer) (length (listing_of time b.places)) ≡ true). rw (z, l) (omega arith))
      (λ (l : ltb (length buffer) (length (listing_of time b.places)) ≡ false). rw (z, l) (ltb-false (length buffer) (length (listing_of time b.places)) l)))
      (λ (z : eqb (refusal_at b time) 0 ≡ false). rw z (omega arith))

-- What is listed.

-- at answer 0 the board is good, so the rows listed are the places in force, each once, strictly in the order
pub listed-rows : (b : Board) (time : ℕ) (buffer : List ℕ) → (list_of b time buffer).number ≡ 0 → IsRows time b.places (rows_of time b.places)
listed-rows b time buffer a =
    rows_are time b.places (board-parts b (unrefused-parts b time (unrefused b time buffer a)).sound).distincts

-- "At most 1,093 bytes"
pub count_most : (b : Board) (time : ℕ) (buffer : List ℕ) → (list_of b time buffer).count ≤ 1093
count_most b time buffer =
    by (eqb (list_of b time buffer).number 0) (λ (z : eqb (list_of b time buffer).number 0 ≡ true).
    let a : (list_of b time buffer).number ≡ 0 = eqb-true (list_of b time buffer).number 0 z in
    let long : length b.places ≡ 64 = (board-parts b (unrefused-parts b time (unrefused b time buffer a)).sound).long in
    omega (arith, count-is b time buffer a, listing-most time b.places long)) (λ (z : eqb (list_of b time buffer).number 0 ≡ false).
    omega (arith, (refused-untouched b time buffer (eqb-false (list_of b time buffer).number 0 z)).0))

-- The replies.

wrote-is : (r : Written) (buffer : List ℕ) (number count : ℕ) → r.number ≡ number → r.count ≡ count
    → wrote r buffer ≡ record { number = number; count = count; buffer = buffer }
wrote-is r buffer number count a k = λ i. record { number = a i; count = k i; buffer = buffer }

pub board-refused : (b : Board) (time : ℕ) (r : Written) (buffer : List ℕ) (number : ℕ) → number ≡ refusal_at b time → (number ≡ 0 → ⊥)
    → (r.number ≡ number) × (r.count ≡ 0) → wrote r buffer ≡ list_of b time buffer
unfolding list_of
board-refused b time r buffer number e n w =
    rw (ne_eqb (refusal_at b time) 0 (λ (z : refusal_at b time ≡ 0). n (e ∙ z))) (wrote-is r buffer (refusal_at b time) 0 (w.0 ∙ e) w.1)

-- how long the listing is, by the rows that were found
found-bytes : (time : ℕ) (ps : List Place) {rows : List Place} → rows ≡ rows_of time ps → length (listing_of time ps) ≡ 5 + length rows * 17
found-bytes time ps e = omega (arith, listing-length time ps, ap length e)

pub no_room : (b : Board) (time : ℕ) (r : Written) (buffer : List ℕ) {rows : List Place} → 0 ≡ refusal_at b time
    → rows ≡ rows_of time b.places → length buffer < 5 + length rows * 17 → (r.number ≡ 14) × (r.count ≡ 0)
    → wrote r buffer ≡ list_of b time buffer
unfolding list_of
no_room b time r buffer z e h w =
    let long : length buffer < length (listing_of time b.places) = omega (arith, found-bytes time b.places e) in
    rw (← z, lt-ltb (length buffer) (length (listing_of time b.places)) long) (wrote-is r buffer 14 0 w.0 w.1)

-- all rows are on the page
listed-all : (time : ℕ) (ps : List Place) {page after : List ℕ} {n : ℕ} → PutsListing time (rows_of time ps) page n after
    → (n ≡ length (listing_of time ps)) × (after ≡ listing_of time ps ++ drop (length (listing_of time ps)) page)
unfolding listing_of
listed-all time ps l = (l.counted, l.leaves)

pub all_listed : (b : Board) (time : ℕ) (buffer : List ℕ) {rows : List Place} {count : ℕ} {after : List ℕ} → 0 ≡ refusal_at b time
    → rows ≡ rows_of time b.places → 5 + length rows * 17 ≤ length buffer → PutsListing time rows buffer count after
    → wrote (record { number = 0; count = count }) after ≡ list_of b time buffer
unfolding list_of
all_listed b time buffer {rows} {count} {after} z e h l =
    let fits : length (listing_of time b.places) ≤ length buffer = omega (arith, found-bytes time b.places e) in
    let all = listed-all time b.places (rw e at l) in
    rw (← z, le-ltb (length buffer) (length (listing_of time b.places)) fits)
    (λ i. record { number = 0; count = all.0 i; buffer = all.1 i })

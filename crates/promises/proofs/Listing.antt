-- The rows that are listed are all that is shown, in the order, and no other list is so; after a history, what is shown is what it has in force.
use mathlib.Core.Bool.{Bool, true, false, not}
use mathlib.Core.List.Memᴰ
use mathlib.Core.List.Pairwise
use mathlib.Core.List.{List, [], ◌∷◌, ◌++◌, Memᴰ, Pairwise, rel_of_Pairwise-cons}
use mathlib.Core.Logic.{◌⊎◌, inl, inr, ⊎_elim, ◌↔◌}
use mathlib.Core.Path.{◌≡◌, refl, sym, ap, subst, ◌∙◌}
use Prim.Native.Nat.{ℕ, zero, suc, ◌≤◌, ◌<◌, suc-le-suc, zero-le}
use native.Mathlib.Nat.{not-suc-le-zero, le_of_suc-le-suc}
use native.Mathlib.Omega.{arith}
use lib.Dec.{leb, ltb, eqb}
use lib.ListN.{length, get_or, drop}
use borrow.Author.Tests.{leb-true, ltb-true, ltb-false, le-leb, lt-ltb, eqb-true, eqb-false, ne_eqb, not-true}
use Rattle.lists.specs.Choice.{pick}
use Rattle.lists.proofs.Choice.{by, clash, both_true, both-three}
use Rattle.places.specs.Places.{no_place}
use Rattle.board.specs.Boards.{in_range, good_board, refusal_at}
use Rattle.board.specs.declared.Board.{Board}
use Rattle.places.specs.declared.Place.{Place}
use Rattle.board.proofs.Invariant.{board-parts}
use Rattle.board.proofs.RefusalLaws.{bad-refusal}
use Rattle.listing.specs.Order.{Before, precedes}
use Rattle.listing.specs.Rows.{in_force, selected, inserted, sorted_after, rows_of}
use Rattle.pens.specs.Outcomes.{Wrote, unwritten, written}
use Rattle.listing.specs.Answers.{listing_of, list_of}
use Rattle.listing.proofs.OrderLaws.{precedes-irreflexive, precedes-transitive}
use Rattle.listing.proofs.RowLaws.{rows-ordered, rows-most}
use Rattle.promises.specs.Calls.{History}
use Rattle.promises.specs.Accepted.{last_clock}
use Rattle.promises.specs.Accepted.Known.{by-report}
use Rattle.promises.specs.Refusals.{Refuses, Accepts, InRange}
use Rattle.promises.specs.Refusals.Refuses.{given, passed}
use Rattle.promises.specs.InForce.{InForce, AllInOrder, NoRoomFor, ListNumber, Lists, IsListing, ListAnswered}
use Rattle.listing.specs.Listings.{listing}
use Rattle.promises.proofs.Held.{On}
use Rattle.promises.proofs.Refusing.{one_number, past, range-in, in-range, outside, early, timely}
use Rattle.promises.proofs.OrderLaws.{formed, reported-formed, rows-in-order}
use Rattle.places.proofs.HeldLaws.{ends_some}
use Rattle.promises.proofs.Tracks.{Stands, Tracks, stands-later, stands-unnamed, stands-as}
use Rattle.promises.proofs.Tracks.Stands.{stands-marked, stands-reported}

-- The rows of a listing are the places selected, in another order: each of these laws goes along the definition.

inserted-those : (p x : Place) (qs : List Place) → Memᴰ x (inserted p qs) → Memᴰ x (p ∷ qs)
unfolding inserted
inserted-those p x [] = λ m. m
inserted-those p x (q ∷ qs) =
    by (precedes p.identity q.identity)
    (λ t. rw t (λ m. ⊎_elim (λ (e : x ≡ p). Memᴰ.head e) (λ (n : Memᴰ x (inserted q qs)). Memᴰ.tail (inserted-those q x qs n)) (Memᴰ.cases_cons m)))
    (λ f. rw f (λ m. ⊎_elim (λ (e : x ≡ q). Memᴰ.tail (Memᴰ.head e))
    (λ (n : Memᴰ x (inserted p qs)).
    ⊎_elim (λ (e : x ≡ p). Memᴰ.head e) (λ (k : Memᴰ x qs). Memᴰ.tail (Memᴰ.tail k)) (Memᴰ.cases_cons (inserted-those p x qs n))) (Memᴰ.cases_cons m)))

inserted-all : (p x : Place) (qs : List Place) → Memᴰ x (p ∷ qs) → Memᴰ x (inserted p qs)
unfolding inserted
inserted-all p x [] m = m
inserted-all p x (q ∷ qs) m =
    by (precedes p.identity q.identity)
    (λ t. rw t (⊎_elim (λ (e : x ≡ p). Memᴰ.head e) (λ (n : Memᴰ x (q ∷ qs)). Memᴰ.tail (inserted-all q x qs n)) (Memᴰ.cases_cons m)))
    (λ f. rw f (⊎_elim (λ (e : x ≡ p). Memᴰ.tail (inserted-all p x qs (Memᴰ.head e)))
    (λ (n : Memᴰ x (q ∷ qs)).
    ⊎_elim (λ (e : x ≡ q). Memᴰ.head e) (λ (k : Memᴰ x qs). Memᴰ.tail (inserted-all p x qs (Memᴰ.tail k))) (Memᴰ.cases_cons n)) (Memᴰ.cases_cons m)))

sorted-those : (x : Place) (rows ps : List Place) → Memᴰ x (sorted_after rows ps) → Memᴰ x rows ⊎ Memᴰ x ps
unfolding sorted_after
sorted-those x rows [] m = inl m
sorted-those x rows (p ∷ ps) m =
    ⊎_elim
    (λ (n : Memᴰ x (inserted p rows)).
    ⊎_elim (λ (e : x ≡ p). inr (Memᴰ.head e)) (λ (k : Memᴰ x rows). inl k) (Memᴰ.cases_cons (inserted-those p x rows n)))
    (λ (n : Memᴰ x ps). inr (Memᴰ.tail n))
    (sorted-those x (inserted p rows) ps m)

sorted_all : (x : Place) (rows ps : List Place) → Memᴰ x rows ⊎ Memᴰ x ps → Memᴰ x (sorted_after rows ps)
unfolding sorted_after
sorted_all x rows [] (inl m) = m
sorted_all x rows [] (inr m) = elim m [ ]
sorted_all x rows (p ∷ ps) (inl m) = sorted_all x (inserted p rows) ps (inl (inserted-all p x rows (Memᴰ.tail m)))
sorted_all x rows (p ∷ ps) (inr (Memᴰ.head e)) = sorted_all x (inserted p rows) ps (inl (inserted-all p x rows (Memᴰ.head e)))
sorted_all x rows (p ∷ ps) (inr (Memᴰ.tail m)) = sorted_all x (inserted p rows) ps (inr m)

-- In force: with no mark, begun, and not ended.

pub in-force-is : (time : ℕ) (x : Place) → (in_force time x ≡ true) ↔ ((x.marked ≡ false) × (x.identity.start ≤ time) × (time < x.identity.end))
unfolding in_force
in-force-is time x = (
  λ f.
      let parts = both-three (not x.marked) (leb x.identity.start time) (ltb time x.identity.end) f in
      (not-true x.marked parts.0, leb-true x.identity.start time parts.1, ltb-true time x.identity.end parts.2),
  λ k. both_true (ap not k.0) (both_true (le-leb x.identity.start time k.1) (lt-ltb time x.identity.end k.2)),
)

-- A place selected is one of the board's that is in force.

record Selected (time : ℕ) (ps : List Place) (x : Place) : Type 0 where
  at : ℕ
  within : at < length ps
  there : get_or ps at no_place ≡ x
  forced : in_force time x ≡ true

first-selected : {time : ℕ} {x : Place} (p : Place) (ps : List Place) → in_force time p ≡ true → x ≡ p → Selected time (p ∷ ps) x
first-selected {time} p ps t e = record { at = 0; within = suc-le-suc zero-le; there = sym e; forced = ap (in_force time) e ∙ t }

later-selected : {time : ℕ} {ps : List Place} {x : Place} (p : Place) → Selected time ps x → Selected time (p ∷ ps) x
later-selected p s = record { at = suc s.at; within = suc-le-suc s.within; there = s.there; forced = s.forced }

picked : {p x : Place} {qs : List Place} (t : Bool) → Memᴰ x (pick t (p ∷ qs) qs) → ((t ≡ true) × (x ≡ p)) ⊎ Memᴰ x qs
picked {p} {x} {qs} true m = ⊎_elim (λ (e : x ≡ p). inl (refl, e)) (λ (n : Memᴰ x qs). inr n) (Memᴰ.cases_cons m)
picked false m = inr m

selected-those : (time : ℕ) (x : Place) (ps : List Place) → Memᴰ x (selected time ps) → Selected time ps x
unfolding selected
selected-those time x [] m = elim m [ ]
selected-those time x (p ∷ ps) m =
    ⊎_elim (λ (k : (in_force time p ≡ true) × (x ≡ p)). first-selected p ps k.0 k.1)
    (λ (n : Memᴰ x (selected time ps)). later-selected p (selected-those time x ps n)) (picked (in_force time p) m)

selected-all : (time : ℕ) (ps : List Place) (k : ℕ) → k < length ps → in_force time (get_or ps k no_place) ≡ true → Memᴰ (get_or ps k no_place) (selected time ps)
unfolding selected
selected-all time [] k h t = absurd (not-suc-le-zero h)
selected-all time (p ∷ ps) zero h t = rw t (Memᴰ.head refl)
selected-all time (p ∷ ps) (suc k) h t =
    let rest = selected-all time ps k (le_of_suc-le-suc h) t in
    by (in_force time p) (λ e. rw e (Memᴰ.tail rest)) (λ e. rw e rest)

row-those : (time : ℕ) (x : Place) (ps : List Place) → Memᴰ x (rows_of time ps) → (On ps x) × (in_force time x ≡ true)
unfolding rows_of
row-those time x ps m =
    ⊎_elim (λ (n : Memᴰ x []). elim n [ ])
    (λ (n : Memᴰ x (selected time ps)).
    let s = selected-those time x ps n in
    (record { at = s.at; within = s.within; there = s.there; some = ends_some x (omega (arith, ((in-force-is time x).0 s.forced).2)) }, s.forced))
    (sorted-those x [] (selected time ps) m)

row-all : (time : ℕ) (x : Place) (ps : List Place) → On ps x → in_force time x ≡ true → Memᴰ x (rows_of time ps)
unfolding rows_of
row-all time x ps o f =
    sorted_all x [] (selected time ps) (inr (rw (← o.there) (selected-all time ps o.at o.within (rw o.there f))))

-- Two lists strictly in the order with the same rows are equal.

not_first : {x : Place} {xs : List Place} → Pairwise Before (x ∷ xs) → (y : Place) → Memᴰ y xs → y ≡ x → ⊥
not_first {x} {xs} o y m e = precedes-irreflexive (subst (λ (z : Place). Before x z) e (rel_of_Pairwise-cons o ∣ m ∣₁))

one-head : (x y : Place) (xs ys : List Place) → Pairwise Before (x ∷ xs) → Pairwise Before (y ∷ ys) → Memᴰ x (y ∷ ys) → Memᴰ y (x ∷ xs) → x ≡ y
one-head x y xs ys o u m n =
    ⊎_elim (λ (e : x ≡ y). e) (λ (k : Memᴰ x ys).
    ⊎_elim (λ (e : y ≡ x). sym e) (λ (j : Memᴰ y xs).
    absurd (precedes-irreflexive (precedes-transitive (rel_of_Pairwise-cons o ∣ j ∣₁) (rel_of_Pairwise-cons u ∣ k ∣₁)))) (Memᴰ.cases_cons n)) (Memᴰ.cases_cons m)

rest_in : {x y : Place} {xs ys : List Place} → x ≡ y → Pairwise Before (x ∷ xs) → ((z : Place) → Memᴰ z (x ∷ xs) → Memᴰ z (y ∷ ys)) → (z : Place) → Memᴰ z xs → Memᴰ z ys
rest_in {x} {y} {xs} {ys} e o f z m =
    ⊎_elim (λ (k : z ≡ y). absurd (not_first o z m (k ∙ sym e))) (λ (n : Memᴰ z ys). n) (Memᴰ.cases_cons (f z (Memᴰ.tail m)))

same_rows : (xs ys : List Place) → Pairwise Before xs → Pairwise Before ys → ((z : Place) → Memᴰ z xs → Memᴰ z ys) → ((z : Place) → Memᴰ z ys → Memᴰ z xs) → xs ≡ ys
same_rows [] [] o u f g = refl
same_rows [] (y ∷ ys) o u f g = elim (g y (Memᴰ.head refl)) [ ]
same_rows (x ∷ xs) [] o u f g = elim (f x (Memᴰ.head refl)) [ ]
same_rows (x ∷ xs) (y ∷ ys) o u f g =
    let e : x ≡ y = one-head x y xs ys o u (f x (Memᴰ.head refl)) (g y (Memᴰ.head refl)) in
    let rest : xs ≡ ys = same_rows xs ys (Pairwise.of_cons o) (Pairwise.of_cons u) (rest_in e o f) (rest_in (sym e) u g) in
    λ i. e i ∷ rest i

-- Rows that are well-formed stand in the order of the numbers too; so there is one list of all that is shown.

abbrev pub AllFormed : (Place → Type 0) → Type 0
AllFormed shown = (p : Place) → shown p → formed p.identity ≡ true

module _ {shown : Place → Type 0} (f : AllFormed shown) where
  pub in-numbers : {rows : List Place} → AllInOrder shown rows → Pairwise Before rows
  in-numbers {rows} i = (rows-in-order rows (λ x m. f x (i.those x m))).1 i.ordered

  pub one-rows : {xs ys : List Place} → AllInOrder shown xs → AllInOrder shown ys → xs ≡ ys
  one-rows {xs} {ys} a c = same_rows xs ys (in-numbers a) (in-numbers c) (λ z m. c.all z (a.those z m)) (λ z m. a.all z (c.those z m))

  -- a good board's rows are such a list, where what is shown is what it holds in force
  pub board-rows : (time : ℕ) (b : Board) → good_board b ≡ true → ((x : Place) → On b.places x → in_force time x ≡ true → shown x)
      → ((x : Place) → shown x → On b.places x) → ((x : Place) → shown x → in_force time x ≡ true) → AllInOrder shown (rows_of time b.places)
  board-rows time b g shows on forced =
      let those : (x : Place) → Memᴰ x (rows_of time b.places) → shown x = λ x m. let k = row-those time x b.places m in shows x k.0 k.1 in
      record {
        those = those;
        all = λ x s. row-all time x b.places (on x s) (forced x s);
        ordered = (rows-in-order (rows_of time b.places) (λ x m. f x (those x m))).0 (rows-ordered time b.places (board-parts b g).distincts);
      }

-- The answer to a listing, by whatever it finds: there is one, and it is what the definition gives.

abbrev Ends : Type 0 → ℕ → (Place → Type 0) → ℕ → List ℕ → Wrote → Type 0
Ends bad clock shown time buffer x = Lists bad clock shown time buffer x.number x.count x.buffer

module _ {bad : Type 0} {clock : ℕ} {shown : Place → Type 0} {time : ℕ} {buffer : List ℕ} where
  pub one_end : ((bad → ⊥) → AllFormed shown) → (x y : Wrote) → Ends bad clock shown time buffer x → Ends bad clock shown time buffer y → x ≡ y
  one_end f x y a c =
      let same : x.number ≡ y.number = one_number (one_number (one_number (one_number (λ m n u v. u ∙ sym v)))) x.number y.number a.number c.number in
      by (eqb x.number 0)
      (λ t.
      let z = eqb-true x.number 0 t in
      let u = a.whole z in
      let v = c.whole (sym same ∙ z) in
      let rows : u.rows ≡ v.rows = one-rows (f (past a.number (λ e. absurd (omega (arith, e, z)))).0) u.listed v.listed in
      let counts : x.count ≡ y.count = u.counted ∙ (ap (λ (r : List Place). length (listing time r)) rows ∙ sym v.counted) in
      let buffers : x.buffer ≡ y.buffer = u.leaves ∙ (ap (λ (r : List Place). listing time r ++ drop (length (listing time r)) buffer) rows ∙ sym v.leaves) in
      λ i. record { number = same i; count = counts i; buffer = buffers i })
      (λ t.
      let n = eqb-false x.number 0 t in
      let u = a.untouched n in
      let v = c.untouched (λ e. n (same ∙ e)) in
      λ i. record { number = same i; count = (u.0 ∙ sym v.0) i; buffer = (u.1 ∙ sym v.1) i })

  -- neither board nor clock speaks against it
  module _ (good : bad → ⊥) (ranged : InRange time) (l : clock ≤ time) where
    roomy : (n : ℕ) → Refuses 14 (NoRoomFor shown time buffer) Accepts n → ListNumber bad clock shown time buffer n
    roomy n x = passed good (passed (λ o. o ranged) (passed (λ e. absurd (omega (arith, e, l))) x))

    module _ {rows : List Place} (all : AllInOrder shown rows) where
      short-ends : length buffer < length (listing time rows) → Ends bad clock shown time buffer (unwritten 14 buffer)
      short-ends h =
          record {
            number = roomy 14 (given record { rows = rows; listed = all; longer = h });
            untouched = λ z. (refl, refl);
            whole = λ z. absurd (omega (arith, z));
          }

      pub whole-ends : AllFormed shown → length (listing time rows) ≤ length buffer → Ends bad clock shown time buffer (written (listing time rows) buffer)
      whole-ends f h =
          let fits : NoRoomFor shown time buffer → ⊥ = λ s. absurd (omega (arith, h, s.longer, ap (λ (r : List Place). length (listing time r)) (one-rows f all s.listed))) in
          record {
            number = roomy 0 (passed fits refl);
            untouched = λ z. absurd (z refl);
            whole = λ z. record { rows = rows; listed = all; counted = refl; leaves = refl };
          }

  module _ (b : Board) (bad-so : bad → good_board b ≡ false) (so-bad : good_board b ≡ false → bad) (same : clock ≡ b.clock) (f : good_board b ≡ true → AllFormed shown)
      (k : good_board b ≡ true → b.clock ≤ time → AllInOrder shown (rows_of time b.places)) where
    refused : {n : ℕ} → refusal_at b time ≡ n → 0 < n → ListNumber bad clock shown time buffer n → Ends bad clock shown time buffer (list_of b time buffer)
    unfolding list_of
    refused {n} e some x =
        let off : n ≡ 0 → ⊥ = λ z. absurd (omega (arith, z, some)) in
        rw (e, ne_eqb n 0 off) (record { number = x; untouched = λ z. (refl, refl); whole = λ z. absurd (off z) })

    unrefused : refusal_at b time ≡ 0 → good_board b ≡ true → InRange time → b.clock ≤ time → Ends bad clock shown time buffer (list_of b time buffer)
    unfolding list_of listing_of
    unrefused e g r l =
        let rows : List Place = rows_of time b.places in
        let good : bad → ⊥ = λ x. clash (good_board b) g (bad-so x) in
        let late : clock ≤ time = omega (arith, same, l) in
        rw e (by (ltb (length buffer) (length (listing time rows)))
        (λ u. rw u (short-ends good r late (k g l) (ltb-true (length buffer) (length (listing time rows)) u)))
        (λ u. rw u (whole-ends good r late (k g l) (f g) (ltb-false (length buffer) (length (listing time rows)) u))))

    pub list-ends : Ends bad clock shown time buffer (list_of b time buffer)
    list-ends =
        by (good_board b)
        (λ g.
        let good : bad → ⊥ = λ x. clash (good_board b) g (bad-so x) in
        by (in_range time)
        (λ t.
        let r = in-range time t in
        by (ltb time b.clock)
        (λ u. let l = ltb-true time b.clock u in refused (early b time g t l) (omega (arith)) (passed good (passed (λ o. o r) (given (rw same l)))))
        (λ u. let l = ltb-false time b.clock u in unrefused (timely b time g t l) g r l))
        (λ t. refused (outside b time g t) (omega (arith)) (passed good (given (λ r. clash (in_range time) (range-in time r) t)))))
        (λ g. refused (bad-refusal b time g) (omega (arith)) (given (so-bad g)))

-- After a history: what is in force was reported, and so is well-formed.

pub forced-formed : {h : History} {time : ℕ} → AllFormed (InForce h time)
forced-formed p f = reported-formed f.reported

pub one-listing : {h : History} {time : ℕ} {xs ys : List Place} → IsListing h time xs → IsListing h time ys → xs ≡ ys
one-listing = one-rows forced-formed

-- Of a board that tracks its history.

module _ {h : History} {b : Board} (t : Tracks h b) {time : ℕ} (l : last_clock h ≤ time) where
  is-forced : (x : Place) → InForce h time x → in_force time x ≡ true
  is-forced x f = (in-force-is time x).1 (f.unmarked, f.begun, f.lasting)

  -- the place that holds its identity is the row itself
  forced-place : (x : Place) → InForce h time x → (q : Place) → q.identity ≡ x.identity → Stands h q → q ≡ x
  forced-place x f q e (stands-marked m c) = absurd (f.unnamed (rw (← e) c))
  forced-place x f q e (stands-reported m r late u) =
      let most : q.correction ≤ x.correction = f.latest q.correction (rw (← e) r) in
      let least : x.correction ≤ q.correction = late x.correction (rw e f.reported) in
      let same : q.correction ≡ x.correction = omega (arith, most, least) in
      let marks : q.marked ≡ x.marked = m ∙ sym f.unmarked in
      λ i. record { identity = e i; correction = same i; marked = marks i }

  in-force : (x : Place) → On b.places x → in_force time x ≡ true → InForce h time x
  in-force x o f =
      let s = t.stands x o in
      let k = (in-force-is time x).0 f in
      record {
        reported = stands-as s k.0;
        latest = stands-later s k.0;
        unnamed = stands-unnamed s k.0;
        begun = k.1;
        lasting = k.2;
        unmarked = k.0;
      }

  forced-on : (x : Place) → InForce h time x → On b.places x
  forced-on x f =
      let o = t.finds x.identity (by-report x.correction f.reported) (omega (arith, l, f.lasting)) in
      subst (λ (q : Place). On b.places q) (forced-place x f o.place o.its (t.stands o.place o.on)) o.on

  pub rows-listed : IsListing h time (rows_of time b.places)
  rows-listed = board-rows forced-formed time b t.sound in-force forced-on is-forced

  pub listed-most : length (rows_of time b.places) ≤ 64
  listed-most = omega (arith, rows-most time b.places, (board-parts b t.sound).long)

pub list-cause : {h : History} {b : Board} → Tracks h b → (time : ℕ) (buffer : List ℕ)
    → ListAnswered h time buffer (list_of b time buffer).number (list_of b time buffer).count (list_of b time buffer).buffer
list-cause {h} {b} t time buffer =
    list-ends b (λ x. absurd x) (λ f. clash _ t.sound f) (sym t.clock) (λ g. forced-formed) (λ g l. rows-listed t (omega (arith, l, t.clock)))

-- What is held on a board, and what an accepted post does to it: the message's place comes in, what has ended goes, and all else stays.
use mathlib.Core.Bool.{true, false, not}
use mathlib.Core.List.{List}
use mathlib.Core.Logic.{◌⊎◌, inl, inr}
use mathlib.Core.Path.{◌≡◌, refl, sym, ap, ◌∙◌}
use Prim.Native.Nat.{ℕ, ◌≤◌, ◌<◌}
use native.Mathlib.Omega.{arith}
use lib.Dec.{leb, ltb, eqb}
use lib.ListN.{length, get_or, set, length-set}
use lib.Seq.{get_or-set_same, get_or-set_other}
use borrow.Author.Tests.{leb-false, ltb-true, ltb-false, lt-leb, eqb-true, eqb-false, not-true}
use Rattle.lists.specs.Lists.{index_of, all_of}
use Rattle.lists.proofs.Choice.{by, clash}
use Rattle.lists.proofs.Lists.{index-found, index-all, all-at}
use Rattle.message.specs.declared.Record.{Record}
use Rattle.places.specs.Places.{same_identity, no_place, empty_place}
use Rattle.board.specs.Boards.{distinct, good_board}
use Rattle.places.specs.Claims.{claim_of}
use Rattle.board.specs.Posts.{kept, dropped, holds, objection, spot_of, post_of}
use Rattle.board.specs.declared.Board.{Board}
use Rattle.places.specs.declared.Identity.{Identity}
use Rattle.places.specs.declared.Place.{Place}
use Rattle.places.proofs.HeldLaws.{same-identity-is, same-identity-refl, no-place-empty, ends_some}
use Rattle.board.proofs.DistinctLaws.{distinct-two}
use Rattle.board.proofs.Invariant.{board-parts, post-good, dropped-length}
use Rattle.board.proofs.PostLaws.{accepted-parts, dropped-at}
use Rattle.board.proofs.SettleLaws.{spot-within}

pub record On (ps : List Place) (p : Place) : Type 0 where
  pub at : ℕ
  pub within : at < length ps
  pub there : get_or ps at no_place ≡ p
  pub some : empty_place p ≡ false

pub record Holder (ps : List Place) (i : Identity) : Type 0 where
  pub place : Place
  pub on : On ps place
  pub its : place.identity ≡ i

-- No identity is held twice.

two-differ : (ps : List Place) → distinct ps ≡ true → (k j : ℕ) → k < length ps → j < length ps → (k ≡ j → ⊥)
    → empty_place (get_or ps k no_place) ≡ false → empty_place (get_or ps j no_place) ≡ false → (get_or ps k no_place).identity ≡ (get_or ps j no_place).identity → ⊥
two-differ ps d k j h l n x y e =
    by (ltb k j)
    (λ t. clash (same_identity (get_or ps j no_place).identity (get_or ps j no_place).identity) (same-identity-refl (get_or ps j no_place).identity)
    (rw e at (distinct-two ps d k j (ltb-true k j t) l x)))
    (λ f. clash (same_identity (get_or ps j no_place).identity (get_or ps j no_place).identity) (same-identity-refl (get_or ps j no_place).identity)
    (rw e at (distinct-two ps d j k (omega (arith, n, ltb-false k j f)) h y)))

pub one_at : {ps : List Place} {p q : Place} → distinct ps ≡ true → (x : On ps p) (y : On ps q) → p.identity ≡ q.identity → x.at ≡ y.at
one_at {ps} {p} {q} d x y e =
    by (eqb x.at y.at) (λ t. eqb-true x.at y.at t)
    (λ f. absurd (two-differ ps d x.at y.at x.within y.within (eqb-false x.at y.at f) (rw x.there x.some) (rw y.there y.some) (rw (x.there, y.there) e)))

pub one_place : {ps : List Place} {p q : Place} → distinct ps ≡ true → On ps p → On ps q → p.identity ≡ q.identity → p ≡ q
one_place {ps} d x y e = sym x.there ∙ (ap (λ (k : ℕ). get_or ps k no_place) (one_at d x y e) ∙ y.there)

-- Dropping.

pub kept-some : (clock : ℕ) (q : Place) → empty_place (kept clock q) ≡ false → (kept clock q ≡ q) × (clock < q.identity.end)
kept-some clock q =
    by (leb q.identity.end clock)
    (λ t. rw t (λ s. clash (empty_place no_place) no-place-empty s))
    (λ f. rw f (λ s. (refl, leb-false q.identity.end clock f)))

pub on-dropped : (clock : ℕ) (ps : List Place) (q : Place) → On (dropped clock ps) q → On ps q × (clock < q.identity.end)
on-dropped clock ps q o =
    let here : o.at < length ps = rw (dropped-length clock ps) at o.within in
    let was : kept clock (get_or ps o.at no_place) ≡ q = sym (dropped-at clock ps o.at here) ∙ o.there in
    let k = kept-some clock (get_or ps o.at no_place) (rw was o.some) in
    let same : get_or ps o.at no_place ≡ q = sym k.0 ∙ was in
    (record { at = o.at; within = here; there = same; some = o.some }, rw same at k.1)

pub dropped-on : (clock : ℕ) (ps : List Place) (q : Place) → On ps q → clock < q.identity.end → On (dropped clock ps) q
dropped-on clock ps q o h =
    let stays : kept clock q ≡ q = rw (lt-leb q.identity.end clock h) in
    record {
      at = o.at;
      within = rw (dropped-length clock ps) o.within;
      there = dropped-at clock ps o.at o.within ∙ (ap (kept clock) o.there ∙ stays);
      some = o.some;
    }

-- Where a place goes, by what is held.

abbrev pub Unheld : List Place → Identity → Type 0
Unheld ps i = (q : Place) → On ps q → q.identity ≡ i → ⊥

pub data Goes (left : List Place) (p : Place) : (answer at : ℕ) → Type 0 where
  has : {q : Place} (o : On left q) → q.identity ≡ p.identity → Goes left p (objection q p) o.at
  free : {k : ℕ} → Unheld left p.identity → k < length left → empty_place (get_or left k no_place) ≡ true → Goes left p 0 k
  full : {k : ℕ} → Unheld left p.identity → all_of (λ (q : Place). not (empty_place q)) left ≡ true → Goes left p 23 k

pub unheld : (left : List Place) (i : Identity) → length left ≤ index_of (holds i) left → Unheld left i
unheld left i h q o e =
    let none : not (holds i (get_or left o.at no_place)) ≡ true = all-at (λ (x : Place). not (holds i x)) left no_place (index-all (holds i) left h) o.at o.within in
    let here : (get_or left o.at no_place).identity ≡ i = ap (λ (x : Place). x.identity) o.there ∙ e in
    clash (same_identity i i) (same-identity-refl i) (not-true (same_identity i i) (rw here at none))

pub goes : (left : List Place) (p : Place) → 0 < p.identity.end → Goes left p (spot_of left p).answer (spot_of left p).at
unfolding spot_of
goes left p h =
    by (ltb (index_of (holds p.identity) left) (length left))
    (λ t.
    let k : ℕ = index_of (holds p.identity) left in
    let l = ltb-true k (length left) t in
    let same : p.identity ≡ (get_or left k no_place).identity = same-identity-is p.identity (get_or left k no_place).identity (index-found (holds p.identity) left no_place l) in
    rw t (has (record { at = k; within = l; there = refl; some = ends_some (get_or left k no_place) (rw same at h) }) (sym same)))
    (λ f.
    let none = unheld left p.identity (ltb-false (index_of (holds p.identity) left) (length left) f) in
    rw f (by (ltb (index_of empty_place left) (length left))
    (λ t. rw t (free none (ltb-true (index_of empty_place left) (length left) t) (index-found empty_place left no_place (ltb-true (index_of empty_place left) (length left) t))))
    (λ g. rw g (full none (index-all empty_place left (ltb-false (index_of empty_place left) (length left) g))))))

-- An accepted post.

pub record Step (before after : List Place) (clock : ℕ) (p : Place) : Type 0 where
  pub placed : On after p
  pub only : (q : Place) → On after q → (q ≡ p) ⊎ (On before q × (clock < q.identity.end) × (q.identity ≡ p.identity → ⊥))
  pub stays : (q : Place) → On before q → clock < q.identity.end → (q.identity ≡ p.identity → ⊥) → On after q
  pub unopposed : (q : Place) → On before q → clock < q.identity.end → q.identity ≡ p.identity → objection q p ≡ 0

module _ (clock : ℕ) (ps : List Place) (p : Place) where
  elsewhere : {n k : ℕ} → Goes (dropped clock ps) p n k → n ≡ 0 → (q : Place) (o : On (dropped clock ps) q) → (q.identity ≡ p.identity → ⊥) → o.at ≡ k → ⊥
  elsewhere (has {q = x} y same) z q o d e =
      d (ap (λ (u : Place). u.identity) (sym o.there ∙ (ap (λ (j : ℕ). get_or (dropped clock ps) j no_place) e ∙ y.there)) ∙ same)
  elsewhere (free none w m) z q o d e = clash (empty_place q) (rw (← o.there, e) m) o.some
  elsewhere (full none m) z q o d e = absurd (omega (arith, z))

  unopposed-by : distinct ps ≡ true → {n k : ℕ} → Goes (dropped clock ps) p n k → n ≡ 0 → (q : Place) → On (dropped clock ps) q → q.identity ≡ p.identity → objection q p ≡ 0
  unopposed-by d (has {q = x} y same) z q o e =
      let one : q ≡ x = one_place d (on-dropped clock ps q o).0 (on-dropped clock ps x y).0 (e ∙ sym same) in
      ap (λ (u : Place). objection u p) one ∙ z
  unopposed-by d (free none w m) z q o e = absurd (none q o e)
  unopposed-by d (full none m) z q o e = absurd (none q o e)

pub step : (b : Board) (clock : ℕ) (r : Record) → good_board b ≡ true → 0 < (claim_of clock r).place.identity.end → (post_of b clock r).answer ≡ 0
    → Step b.places (post_of b clock r).board.places clock (claim_of clock r).place
step b clock r g h z =
    let p : Place = (claim_of clock r).place in
    let left : List Place = dropped clock b.places in
    let a = accepted-parts b clock r z in
    let after : List Place = set left (spot_of left p).at p in
    let there : (post_of b clock r).board.places ≡ after = ap (λ (x : Board). x.places) a.board in
    let within : (spot_of left p).at < length left = spot-within left p a.free in
    let d : distinct (post_of b clock r).board.places ≡ true = (board-parts (post_of b clock r).board (post-good b clock r g)).distincts in
    let placed : On after p =
    record { at = (spot_of left p).at; within = rw length-set within; there = get_or-set_same left (spot_of left p).at p no_place within; some = ends_some p h } in
    let moved : (q : Place) (o : On left q) → (o.at ≡ (spot_of left p).at → ⊥) → On after q =
    λ q o n. record { at = o.at; within = rw length-set o.within; there = get_or-set_other left (spot_of left p).at o.at p no_place n ∙ o.there; some = o.some } in
    rw there record {
      placed = placed;
      only =
          λ q o.
          by (eqb o.at (spot_of left p).at)
          (λ t. inl (sym o.there ∙ (ap (λ (j : ℕ). get_or after j no_place) (eqb-true o.at (spot_of left p).at t) ∙ placed.there)))
          (λ f.
          let n = eqb-false o.at (spot_of left p).at f in
          let was : On left q = record { at = o.at; within = rw length-set at o.within; there = sym (get_or-set_other left (spot_of left p).at o.at p no_place n) ∙ o.there; some = o.some } in
          let k = on-dropped clock b.places q was in
          inr (k.0, k.1, λ e. n (one_at (rw there at d) o placed e)));
      stays = λ q o l n. let x = dropped-on clock b.places q o l in moved q x (elsewhere clock b.places p (goes left p h) a.free q x n);
      unopposed = λ q o l e. unopposed-by clock b.places p (board-parts b g).distincts (goes left p h) a.free q (dropped-on clock b.places q o l) e;
    }

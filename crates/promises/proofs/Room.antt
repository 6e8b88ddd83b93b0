-- Room: the places in use are as many as the accepted identities that have not ended.
use mathlib.Core.Bool.{true, false, not}
use mathlib.Core.List.Pairwise
use mathlib.Core.List.{List, [], ◌∷◌, map, Memᴰ, Nodup}
use mathlib.Core.Logic.{∥∥₁_elim}
use mathlib.Core.Path.{◌≡◌, refl, sym, ap, ◌∙◌}
use Prim.Native.Nat.{ℕ, zero, suc, ◌≤◌, ◌<◌, suc-le-suc, zero-le}
use native.Mathlib.Nat.{not-suc-le-zero, le_of_suc-le-suc}
use native.Mathlib.Omega.{arith}
use lib.ListN.{length, get_or}
use borrow.Author.Tests.{not-true}
use Rattle.lists.specs.Choice.{pick, either}
use Rattle.lists.specs.Lists.{all_of}
use Rattle.lists.proofs.Counting.{no_longer}
use Rattle.lists.proofs.Choice.{by, clash, both_left, both_right, either-cases}
use Rattle.places.specs.Places.{same_identity, no_place, empty_place}
use Rattle.board.specs.Boards.{differs, distinct}
use Rattle.board.specs.Posts.{kept, dropped}
use Rattle.board.specs.declared.Board.{Board}
use Rattle.places.specs.declared.Identity.{Identity}
use Rattle.places.specs.declared.Place.{Place}
use Rattle.places.proofs.HeldLaws.{same-identity-refl}
use Rattle.board.proofs.Invariant.{board-parts, dropped-length}
use Rattle.promises.specs.Calls.{History}
use Rattle.promises.specs.Accepted.{Known, last_clock}
use Rattle.promises.specs.Answers.{Full}
use Rattle.promises.proofs.Held.{Holder, kept-some, on-dropped, dropped-on}
use Rattle.promises.proofs.Tracks.{Tracks, stands-known}

-- The identities that are held.
unfoldable held_of : List Place → List Identity
held_of [] = []
held_of (q ∷ qs) = pick (empty_place q) (held_of qs) (q.identity ∷ held_of qs)

held-most : (ps : List Place) → length (held_of ps) ≤ length ps
unfolding held_of
held-most [] = zero-le
held-most (q ∷ qs) =
    by (empty_place q)
    (λ t. rw t (omega (arith, held-most qs)))
    (λ f. rw f (suc-le-suc (held-most qs)))

held-fewer : (ps : List Place) (k : ℕ) → k < length ps → empty_place (get_or ps k no_place) ≡ true → length (held_of ps) < length ps
unfolding held_of
held-fewer [] k h t = absurd (not-suc-le-zero h)
held-fewer (q ∷ qs) zero h t = rw t (suc-le-suc (held-most qs))
held-fewer (q ∷ qs) (suc k) h t =
    let rest = held-fewer qs k (le_of_suc-le-suc h) t in
    by (empty_place q) (λ e. rw e (omega (arith, rest))) (λ f. rw f (suc-le-suc rest))

held_at : (ps : List Place) (k : ℕ) → k < length ps → empty_place (get_or ps k no_place) ≡ false → Memᴰ (get_or ps k no_place).identity (held_of ps)
unfolding held_of
held_at [] k h f = absurd (not-suc-le-zero h)
held_at (q ∷ qs) zero h f = rw f (Memᴰ.head refl)
held_at (q ∷ qs) (suc k) h f =
    let rest = held_at qs k (le_of_suc-le-suc h) f in
    by (empty_place q) (λ t. rw t rest) (λ n. rw n (Memᴰ.tail rest))

held_in : {ps : List Place} {i : Identity} → Holder ps i → Memᴰ i (held_of ps)
held_in {ps} {i} o =
    let x = o.on in
    rw (← o.its, ← x.there) (held_at ps x.at x.within (rw x.there x.some))

-- identities that are all held, each once, are no more than the places
no_more : (ps : List Place) (is : List Identity) → Nodup is → ((i : Identity) → Memᴰ i is → Holder ps i) → length is ≤ length (held_of ps)
no_more ps is n f = no_longer is (held_of ps) n (λ i m. held_in (f i m))

-- Where no place is empty after the dropping, none was dropped, and the identities held are 64 accepted ones.

module _ (clock : ℕ) where
  all-kept : (ps : List Place) → all_of (λ (q : Place). not (empty_place q)) (dropped clock ps) ≡ true → dropped clock ps ≡ ps
  unfolding dropped all_of
  all-kept [] t = refl
  all-kept (q ∷ qs) t =
      let here : not (empty_place (kept clock q)) ≡ true = both_left (not (empty_place (kept clock q))) (all_of (λ (x : Place). not (empty_place x)) (dropped clock qs)) t in
      let same : kept clock q ≡ q = (kept-some clock q (not-true (empty_place (kept clock q)) here)).0 in
      let rest : dropped clock qs ≡ qs = all-kept qs (both_right (not (empty_place (kept clock q))) (all_of (λ (x : Place). not (empty_place x)) (dropped clock qs)) t) in
      λ i. same i ∷ rest i

abbrev identities : List Place → List Identity
identities ps = map (λ (p : Place). p.identity) ps

identities-length : (ps : List Place) → length (identities ps) ≡ length ps
identities-length [] = refl
identities-length (p ∷ ps) = ap suc (identities-length ps)

identity-at : (ps : List Place) → all_of (λ (q : Place). not (empty_place q)) ps ≡ true → (i : Identity) → Memᴰ i (identities ps) → Holder ps i
unfolding all_of
identity-at [] t i m = elim m [ ]
identity-at (p ∷ ps) t i (Memᴰ.head e) =
    let some : empty_place p ≡ false = not-true (empty_place p) (both_left (not (empty_place p)) (all_of (λ (q : Place). not (empty_place q)) ps) t) in
    record { place = p; on = record { at = 0; within = suc-le-suc zero-le; there = refl; some = some }; its = sym e }
identity-at (p ∷ ps) t i (Memᴰ.tail m) =
    let rest = identity-at ps (both_right (not (empty_place p)) (all_of (λ (q : Place). not (empty_place q)) ps) t) i m in
    record {
      place = rest.place;
      on = record { at = suc rest.on.at; within = suc-le-suc rest.on.within; there = rest.on.there; some = rest.on.some };
      its = rest.its;
    }

others-differ : (p : Place) (ps : List Place) → all_of (differs p) ps ≡ true → (i : Identity) → Memᴰ i (identities ps) → p.identity ≡ i → ⊥
unfolding all_of
others-differ p [] t i m e = elim m [ ]
others-differ p (q ∷ ps) t i (Memᴰ.head k) e =
    let far : same_identity p.identity q.identity ≡ false = not-true (same_identity p.identity q.identity) (both_left (differs p q) (all_of (differs p) ps) t) in
    clash (same_identity p.identity q.identity) (rw (e, k) (same-identity-refl q.identity)) far
others-differ p (q ∷ ps) t i (Memᴰ.tail m) e = others-differ p ps (both_right (differs p q) (all_of (differs p) ps) t) i m e

identities-once : (ps : List Place) → all_of (λ (q : Place). not (empty_place q)) ps ≡ true → distinct ps ≡ true → Nodup (identities ps)
unfolding all_of distinct
identities-once [] t d = Pairwise.nil
identities-once (p ∷ ps) t d =
    let some : empty_place p ≡ false = not-true (empty_place p) (both_left (not (empty_place p)) (all_of (λ (q : Place). not (empty_place q)) ps) t) in
    let far : all_of (differs p) ps ≡ true =
    either-cases (empty_place p) (all_of (differs p) ps) (both_left (either (empty_place p) (all_of (differs p) ps)) (distinct ps) d) (λ e. clash (empty_place p) e some) (λ a. a) in
    Pairwise.cons (λ i m e. ∥∥₁_elim m (λ x y. absurd x) (λ k. others-differ p ps far i k e))
    (identities-once ps (both_right (not (empty_place p)) (all_of (λ (q : Place). not (empty_place q)) ps) t) (both_right (either (empty_place p) (all_of (differs p) ps)) (distinct ps) d))

module _ {h : History} {b : Board} (t : Tracks h b) {clock : ℕ} (timely : last_clock h ≤ clock) where
  long : length (dropped clock b.places) ≡ 64
  long = dropped-length clock b.places ∙ (board-parts b t.sound).long

  -- what is accepted and has not ended is still held after the dropping
  pub holds_on : (i : Identity) → Known i h → clock < i.end → Holder (dropped clock b.places) i
  holds_on i k l =
      let f = t.finds i k (omega (arith, l, timely)) in
      record { place = f.place; on = dropped-on clock b.places f.place f.on (rw f.its l); its = f.its }

  pub not_full : (k : ℕ) → k < length (dropped clock b.places) → empty_place (get_or (dropped clock b.places) k no_place) ≡ true → Full h clock → ⊥
  not_full k l e f =
      let left : List Place = dropped clock b.places in
      let most = no_more left f.identities f.each-once (λ i m. holds_on i (f.known i m) (f.lasting i m)) in
      absurd (omega (arith, most, held-fewer left k l e, f.count, long))

  pub is-full : all_of (λ (q : Place). not (empty_place q)) (dropped clock b.places) ≡ true → Full h clock
  is-full a =
      let left : List Place = dropped clock b.places in
      record {
        identities = identities left;
        count = identities-length left ∙ long;
        each-once = identities-once left a (rw (all-kept clock b.places a) (board-parts b t.sound).distincts);
        known =
            λ i m.
            let o = identity-at left a i m in
            rw (← o.its) (stands-known (t.stands o.place (on-dropped clock b.places o.place o.on).0));
        lasting = λ i m. let o = identity-at left a i m in rw (← o.its) (on-dropped clock b.places o.place o.on).1;
      }

  -- never more than 64 accepted identities have not ended
  pub lasting-most : (is : List Identity) → Nodup is → ((i : Identity) → Memᴰ i is → Known i h) → ((i : Identity) → Memᴰ i is → clock < i.end) → length is ≤ 64
  lasting-most is n k l =
      let left : List Place = dropped clock b.places in
      omega (arith, no_more left is n (λ i m. holds_on i (k i m) (l i m)), held-most left, long)

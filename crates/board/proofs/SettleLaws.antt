-- Where a place goes, one law for each return of the code.
use mathlib.Core.Bool.{true, false, not}
use mathlib.Core.List.{List}
use mathlib.Core.Path.{◌≡◌, refl, ap, sym, ◌∙◌}
use Prim.Native.Nat.{ℕ, ◌≤◌, ◌<◌}
use native.Mathlib.Omega.{arith}
use lib.Dec.{leb, ltb}
use lib.ListN.{length, get_or, set}
use borrow.Author.Tests.{le-leb, lt-leb, ne_eqb, ltb-true}
use Rattle.lists.specs.Choice.{both, found}
use Rattle.lists.specs.Lists.{index_of}
use Rattle.lists.proofs.Choice.{by}
use Rattle.lists.proofs.Found.{found-is, found-out}
use Rattle.lists.proofs.Library.{position-found}
use Rattle.std.specs.Prelude.{Option, Some, None, Result, Ok, Err}
use Rattle.std.specs.List.{position}
use Rattle.std.specs.Option.{ok_or}
use Rattle.message.specs.declared.Record.{Record}
use Rattle.places.specs.Places.{no_place, empty_place}
use Rattle.places.specs.Refusals.{number_of}
use Rattle.places.specs.Claims.{unclaimed, claimed, claim_of}
use Rattle.places.specs.declared.Place.{Place}
use Rattle.places.specs.declared.refusals.Refusal.{Refusal}
use Rattle.places.specs.declared.refusals.Refusal.TheVariants.{Full}
use Rattle.places.proofs.RefusalLaws.{number_some}
use Rattle.board.specs.Boards.{place_count, refusal_at}
use Rattle.board.specs.Posts.{dropped, holds, objection, spot_of, Finds, posted_on, place_at, settled, claimed_on, post_of}
use Rattle.board.specs.declared.Board.{Board}

-- What speaks against a place, by marks and corrections.

module _ (q p : Place) where
  pub objection-22 : q.marked ≡ true → p.marked ≡ false → objection q p ≡ 22
  unfolding objection
  objection-22 m n = rw (m, n)

  pub objection-again : q.marked ≡ true → p.marked ≡ true → objection q p ≡ 21
  unfolding objection
  objection-again m n = rw (m, n)

  pub objection-21 : q.marked ≡ false → p.marked ≡ false → p.correction ≤ q.correction → objection q p ≡ 21
  unfolding objection
  objection-21 m n l = rw (m, n, le-leb p.correction q.correction l)

  pub objection-none : q.marked ≡ false → p.marked ≡ false → q.correction < p.correction → objection q p ≡ 0
  unfolding objection
  objection-none m n l = rw (m, n, lt-leb p.correction q.correction l)

  pub objection-marks : q.marked ≡ false → p.marked ≡ true → objection q p ≡ 0
  unfolding objection
  objection-marks m n = rw (m, n)

-- Where a place goes: one law for each return of the code.

pub spot-held : (ps : List Place) (p : Place) {o : Option ℕ} {k : ℕ} → length ps ≡ place_count → o ≡ position (holds p.identity) ps → o ≡ Some k
    → 0 ≡ objection (get_or ps k no_place) p → Finds ps p (Ok k)
unfolding spot_of
spot-held ps p {k = k} l e f z =
    let w = found-is {v = index_of (holds p.identity) ps} (λ i. ltb i (length ps)) (sym (position-found (holds p.identity) ps) ∙ sym e ∙ f) in
    let h : ltb k (length ps) ≡ true = ap (λ i. ltb i (length ps)) (sym w.0) ∙ w.1 in
    (rw (w.0, h, ← z), omega (arith, ltb-true k (length ps) h))

pub spot-refused : (ps : List Place) (p : Place) {o : Option ℕ} {k : ℕ} → o ≡ position (holds p.identity) ps → o ≡ Some k
    → (e : Refusal) → number_of e ≡ objection (get_or ps k no_place) p → Finds ps p (Err e)
unfolding spot_of
spot-refused ps p {k = k} e f x z =
    let w = found-is {v = index_of (holds p.identity) ps} (λ i. ltb i (length ps)) (sym (position-found (holds p.identity) ps) ∙ sym e ∙ f) in
    rw (w.0, ap (λ i. ltb i (length ps)) (sym w.0) ∙ w.1, z)

pub spot-new : (ps : List Place) (p : Place) {o free : Option ℕ} {r : Result ℕ Refusal} → length ps ≡ place_count → o ≡ position (holds p.identity) ps → o ≡ None
    → free ≡ position empty_place ps → r ≡ ok_or free Full → Finds ps p r
unfolding spot_of
spot-new ps p {r = r} l e f g h =
    let w = found-out {v = index_of (holds p.identity) ps} (λ i. ltb i (length ps)) (sym (position-found (holds p.identity) ps) ∙ sym e ∙ f) in
    let x : r ≡ ok_or (found (λ i. ltb i (length ps)) (index_of empty_place ps)) Full = rw (h, g, position-found empty_place ps) refl in
    by (ltb (index_of empty_place ps) (length ps))
    (λ t. rw (x, t) (rw (w, t) refl, omega (arith, ltb-true _ _ t)))
    (λ t. rw (x, t) (rw (w, t) refl))

-- a place that is found lies on the board
pub spot-within : (ps : List Place) (p : Place) → (spot_of ps p).answer ≡ 0 → (spot_of ps p).at < length ps
unfolding spot_of
spot-within ps p z =
    by (ltb (index_of (holds p.identity) ps) (length ps))
    (λ t. rw t (ltb-true _ _ t))
    (λ f. by (ltb (index_of empty_place ps) (length ps))
    (λ t. rw f (ltb-true _ _ t))
    (λ g. let w = rw (f, g) at z in absurd (omega (arith, w))))

-- 36 is none of these numbers
pub objection-36 : (q p : Place) → objection q p ≡ 36 → ⊥
unfolding objection
objection-36 q p =
    by (both q.marked (not p.marked))
    (λ t. rw t (λ e. absurd (omega (arith, e))))
    (λ t. rw t (by q.marked
    (λ u. rw u (λ e. absurd (omega (arith, e))))
    (λ u. rw u (by (both (not p.marked) (leb p.correction q.correction)) (λ v. rw v (λ e. absurd (omega (arith, e)))) (λ v. rw v (λ e. absurd (omega (arith, e))))))))

pub spot-36 : (ps : List Place) (p : Place) → (spot_of ps p).answer ≡ 36 → ⊥
unfolding spot_of
spot-36 ps p =
    by (ltb (index_of (holds p.identity) ps) (length ps))
    (λ t. rw t (objection-36 (get_or ps (index_of (holds p.identity) ps) no_place) p))
    (λ t. rw t (by (ltb (index_of empty_place ps) (length ps)) (λ u. rw u (λ e. absurd (omega (arith, e)))) (λ u. rw u (λ e. absurd (omega (arith, e))))))

-- Posting: one law for each return of the code.

module _ (b : Board) (clock : ℕ) (r : Record) where
  pub posts-not : (e : Refusal) → number_of e ≡ refusal_at b clock → posted_on b (Err e) ≡ post_of b clock r
  unfolding post_of
  posts-not e n = rw (← n, ne_eqb (number_of e) 0 (number_some e))

  module _ (free : 0 ≡ refusal_at b clock) where
    pub claims-not : (e : Refusal) → unclaimed (number_of e) ≡ claim_of clock r → posted_on b (Err e) ≡ post_of b clock r
    unfolding post_of claimed_on
    claims-not e k = rw (← free, ← k, ne_eqb (number_of e) 0 (number_some e))

    module _ {p : Place} (claims : claimed p ≡ claim_of clock r) {left : List Place} (drops : left ≡ dropped clock b.places) where
      pub settles-not : (e : Refusal) → Finds left p (Err e) → posted_on b (Err e) ≡ post_of b clock r
      unfolding post_of claimed_on settled place_at
      settles-not e f = rw (← free, ← claims, ← drops, f, ne_eqb (number_of e) 0 (number_some e))

      pub settles : {at : ℕ} → Finds left p (Ok at) → record { answer = 0; board = record { clock = clock; places = set left at p } } ≡ post_of b clock r
      unfolding post_of claimed_on settled place_at
      settles f = rw (← free, ← claims, ← drops, f.0)

-- What a post does to the board: nothing where it is refused; else it sets the clock, and each other place stays or is dropped where it stands.
use mathlib.Core.Bool.{true, false, not}
use mathlib.Core.List.{List, [], ◌∷◌}
use mathlib.Core.Path.{◌≡◌, refl, sym, ap, ◌∙◌}
use Prim.Native.Nat.{ℕ, zero, suc, ◌<◌}
use native.Mathlib.Nat.{not-suc-le-zero, le_of_suc-le-suc}
use native.Mathlib.Omega.{arith}
use lib.Dec.{ltb, eqb}
use lib.ListN.{length, get_or, set}
use lib.Seq.{get_or-set_same, get_or-set_other}
use borrow.Author.Tests.{eqb-true, eqb-false, lt-leb, ltb-true, not-true}
use Rattle.lists.specs.Choice.{both}
use Rattle.lists.specs.Lists.{index_of}
use Rattle.lists.proofs.Choice.{by, clash, both_right}
use Rattle.lists.proofs.Lists.{index-found}
use Rattle.groups.specs.declared.Group.{Group}
use Rattle.headings.specs.declared.Sequence.{Sequence}
use Rattle.message.specs.declared.Form.TheVariants.{Cancellation}
use Rattle.message.specs.declared.Record.{Record}
use Rattle.places.specs.Places.{same_identity, no_identity, no_place, empty_place}
use Rattle.places.specs.Claims.{is_test, claim_of}
use Rattle.places.specs.declared.Place.{Place}
use Rattle.places.proofs.ClaimLaws.{cancelled-claim, test-unclaimed}
use Rattle.board.specs.Boards.{refusal_at}
use Rattle.board.specs.Posts.{kept, dropped, holds, objection, spot_of, place_at, settled, claimed_on, post_of}
use Rattle.board.specs.declared.Board.{Board}
use Rattle.board.proofs.SettleLaws.{spot-within}

-- "Board unchanged, its clock too."
pub refused-unchanged : (b : Board) (clock : ℕ) (r : Record) → ((post_of b clock r).answer ≡ 0 → ⊥) → (post_of b clock r).board ≡ b
unfolding post_of claimed_on settled place_at
refused-unchanged b clock r =
    by (eqb (refusal_at b clock) 0)
    (λ t. rw t (by (eqb (claim_of clock r).answer 0)
    (λ u. rw u (by (eqb (spot_of (dropped clock b.places) (claim_of clock r).place).answer 0) (λ v. rw v (λ n. absurd (n refl))) (λ v. rw v (λ n. refl))))
    (λ u. rw u (λ n. refl))))
    (λ t. rw t (λ n. refl))

-- An accepted post: the board after it.
pub record Accepted (b : Board) (clock : ℕ) (r : Record) : Type 0 where
  pub unrefused : refusal_at b clock ≡ 0
  pub claimed : (claim_of clock r).answer ≡ 0
  pub free : (spot_of (dropped clock b.places) (claim_of clock r).place).answer ≡ 0
  pub board : (post_of b clock r).board ≡ record { clock = clock; places = set (dropped clock b.places) (spot_of (dropped clock b.places) (claim_of clock r).place).at (claim_of clock r).place }

pub accepted-parts : (b : Board) (clock : ℕ) (r : Record) → (post_of b clock r).answer ≡ 0 → Accepted b clock r
unfolding post_of claimed_on settled place_at
accepted-parts b clock r =
    by (eqb (refusal_at b clock) 0)
    (λ t. rw t (by (eqb (claim_of clock r).answer 0)
    (λ u. rw u (by (eqb (spot_of (dropped clock b.places) (claim_of clock r).place).answer 0)
    (λ v. rw v (λ z. record { unrefused = eqb-true _ 0 t; claimed = eqb-true _ 0 u; free = eqb-true _ 0 v; board = rw (t, u, v) }))
    (λ v. rw v (λ z. absurd (eqb-false _ 0 v z)))))
    (λ u. rw u (λ z. absurd (eqb-false _ 0 u z)))))
    (λ t. rw t (λ z. absurd (eqb-false _ 0 t z)))

-- Dropped places become empty where they stand.
pub dropped-at : (clock : ℕ) (ps : List Place) (k : ℕ) → k < length ps → get_or (dropped clock ps) k no_place ≡ kept clock (get_or ps k no_place)
unfolding dropped
dropped-at clock [] k h = absurd (not-suc-le-zero h)
dropped-at clock (p ∷ ps) zero h = refl
dropped-at clock (p ∷ ps) (suc k) h = dropped-at clock ps k (le_of_suc-le-suc h)

-- A place is never given where a mark stands.
pub unmarked-spot : (ps : List Place) (p : Place) → (spot_of ps p).answer ≡ 0 → (get_or ps (spot_of ps p).at no_place).marked ≡ false
unfolding spot_of objection empty_place
unmarked-spot ps p =
    by (ltb (index_of (holds p.identity) ps) (length ps))
    (λ t. rw t (by (get_or ps (index_of (holds p.identity) ps) no_place).marked
    (λ m. rw m (by p.marked (λ n. rw n (λ z. absurd (omega (arith, z)))) (λ n. rw n (λ z. absurd (omega (arith, z))))))
    (λ m z. m)))
    (λ f. rw f (by (ltb (index_of empty_place ps) (length ps))
    (λ t z.
    let q : Place = get_or ps (index_of empty_place ps) no_place in
    let e = index-found empty_place ps no_place (ltb-true _ _ t) in
    not-true _ (both_right (eqb q.correction 0) (not q.marked) (both_right (same_identity q.identity no_identity) (both (eqb q.correction 0) (not q.marked)) e)))
    (λ g. rw g (λ z. absurd (omega (arith, z))))))

-- Every place but the one that is given stays, or is dropped where it stands.
pub others-stay : (b : Board) (clock : ℕ) (r : Record) → (post_of b clock r).answer ≡ 0 → (k : ℕ) → k < length b.places
    → (k ≡ (spot_of (dropped clock b.places) (claim_of clock r).place).at → ⊥) → get_or (post_of b clock r).board.places k no_place ≡ kept clock (get_or b.places k no_place)
others-stay b clock r z k h n =
    let a = accepted-parts b clock r z in
    rw a.board (get_or-set_other (dropped clock b.places) (spot_of (dropped clock b.places) (claim_of clock r).place).at k (claim_of clock r).place no_place n ∙ dropped-at clock b.places k h)

-- "Marked places … keep their mark until their end."
pub mark-stays : (b : Board) (clock : ℕ) (r : Record) → (post_of b clock r).answer ≡ 0 → (k : ℕ) → k < length b.places → (get_or b.places k no_place).marked ≡ true
    → clock < (get_or b.places k no_place).identity.end → get_or (post_of b clock r).board.places k no_place ≡ get_or b.places k no_place
mark-stays b clock r z k h m l =
    let held : Place = get_or b.places k no_place in
    let stays : kept clock held ≡ held = rw (lt-leb held.identity.end clock l) in
    others-stay b clock r z k h
    (λ e.
    let p : Place = (claim_of clock r).place in
    let free = unmarked-spot (dropped clock b.places) p (accepted-parts b clock r z).free in
    let there : get_or (dropped clock b.places) (spot_of (dropped clock b.places) p).at no_place ≡ held =
    ap (λ (j : ℕ). get_or (dropped clock b.places) j no_place) (sym e) ∙ (dropped-at clock b.places k h ∙ stays) in
    clash held.marked m (ap (λ (q : Place). q.marked) (sym there) ∙ free))
    ∙ stays

-- The place that an accepted message is given holds what it claims.
pub given : (b : Board) (clock : ℕ) (r : Record) → (post_of b clock r).answer ≡ 0
    → get_or (post_of b clock r).board.places (spot_of (dropped clock b.places) (claim_of clock r).place).at no_place ≡ (claim_of clock r).place
given b clock r z =
    let a = accepted-parts b clock r z in
    rw a.board (get_or-set_same (dropped clock b.places) (spot_of (dropped clock b.places) (claim_of clock r).place).at (claim_of clock r).place no_place (spot-within (dropped clock b.places) (claim_of clock r).place a.free))

-- "A cancellation marks its target's place, or takes a marked place where none is held"
pub cancelled-marked : (b : Board) (clock : ℕ) (r : Record) (s : Sequence) (from : Group) → r.form ≡ Cancellation s from → (post_of b clock r).answer ≡ 0
    → (get_or (post_of b clock r).board.places (spot_of (dropped clock b.places) (claim_of clock r).place).at no_place).marked ≡ true
cancelled-marked b clock r s from e z =
    ap (λ (p : Place). p.marked) (given b clock r z) ∙ cancelled-claim clock r s from e (accepted-parts b clock r z).claimed

-- "15 a test": no test reaches the board.
pub test-stays : (b : Board) (clock : ℕ) (r : Record) → is_test r.form ≡ true → (post_of b clock r).board ≡ b
test-stays b clock r t =
    refused-unchanged b clock r (λ z. test-unclaimed clock r t (accepted-parts b clock r z).claimed)

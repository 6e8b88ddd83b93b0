-- The invariant: the empty board is good, and every post leaves a good board good.
use mathlib.Core.Bool.{true, false}
use mathlib.Core.List.{List, [], ◌∷◌, map}
use mathlib.Core.Path.{◌≡◌, refl, ap, ◌∙◌}
use Prim.Native.Nat.{ℕ, suc, ◌≤◌, ◌<◌}
use native.Mathlib.Omega.{arith}
use lib.Dec.{leb, ltb, eqb}
use lib.ListN.{length, get_or, set, length-set}
use borrow.Author.Tests.{eq-eqb, eqb-true, leb-false, ltb-true, ltb-false}
use Rattle.lists.specs.Choice.{both, either}
use Rattle.lists.specs.Lists.{all_of, index_of}
use Rattle.lists.proofs.Choice.{by, clash, both_left, both_right, both_true, both-three, either_left, either-right, either-cases}
use Rattle.lists.proofs.Lists.{all_set, all_map, all-weaken, index-found, index-before}
use Rattle.message.specs.declared.Record.{Record}
use Rattle.places.specs.Places.{same_identity, no_identity, no_place, empty_place, held_identity, held_correction, held_place, good_place}
use Rattle.places.specs.Claims.{claim_of}
use Rattle.places.specs.declared.Place.{Place}
use Rattle.places.proofs.HeldLaws.{same-identity-is, identity-parts, identity-held, held-some, no-place-empty, empty-good, empty-identity, held-good-place}
use Rattle.places.proofs.ClaimLaws.{claim-held}
use Rattle.board.specs.Boards.{place_count, in_range, differs, distinct, good_places, good_board, empty_board, refusal_at}
use Rattle.board.specs.Posts.{kept, dropped, holds, spot_of, place_at, settled, claimed_on, post_of}
use Rattle.board.specs.declared.Board.{Board}
use Rattle.board.proofs.RefusalLaws.{unrefused-parts}
use Rattle.board.proofs.DistinctLaws.{distinct-two, distinct-set}

-- The empty board is good.
pub new-good : good_board empty_board ≡ true
unfolding good_board good_places good_place empty_place same_identity distinct all_of
new-good = refl

-- The parts of a good board.

pub record GoodBoard (b : Board) : Type 0 where
  pub long : length b.places ≡ place_count
  pub places : all_of (good_place b.clock) b.places ≡ true
  pub distincts : distinct b.places ≡ true

pub board-parts : (b : Board) → good_board b ≡ true → GoodBoard b
unfolding good_board good_places
board-parts b g =
    let t = both-three (either (eqb b.clock 0) (in_range b.clock)) (both (eqb (length b.places) place_count) (all_of (good_place b.clock) b.places)) (distinct b.places) g in
    record {
      long = eqb-true (length b.places) place_count (both_left (eqb (length b.places) place_count) (all_of (good_place b.clock) b.places) t.1);
      places = both_right (eqb (length b.places) place_count) (all_of (good_place b.clock) b.places) t.1;
      distincts = t.2;
    }

pub whole-board : (clock : ℕ) (ps : List Place) → in_range clock ≡ true → length ps ≡ place_count → all_of (good_place clock) ps ≡ true → distinct ps ≡ true
    → good_board (record { clock = clock; places = ps }) ≡ true
unfolding good_board good_places
whole-board clock ps r l a d =
    both_true (either-right (eqb clock 0) r) (both_true (both_true (eq-eqb (length ps) place_count l) a) d)

-- Dropping.

kept-good : (before clock : ℕ) (p : Place) → good_place before p ≡ true → good_place clock (kept clock p) ≡ true
unfolding good_place held_place
kept-good before clock p t =
    by (leb p.identity.end clock)
    (λ e. rw e (empty-good clock))
    (λ e. rw e (either-cases (empty_place p) (held_place before p) t
    (λ m. either_left (held_place clock p) m)
    (λ h.
    let u = both_left (held_identity before p.identity) (held_correction p.marked p.correction) h in
    let i = identity-parts before p.identity u in
    either-right (empty_place p) (both_true
    (identity-held clock p.identity (record { formed = i.formed; starts = i.starts; short = i.short; lasts = leb-false p.identity.end clock e; timely = i.timely }))
    (both_right (held_identity before p.identity) (held_correction p.marked p.correction) h)))))

dropped-good : (before clock : ℕ) (ps : List Place) → all_of (good_place before) ps ≡ true → all_of (good_place clock) (dropped clock ps) ≡ true
unfolding dropped
dropped-good before clock ps t =
    all_map (good_place clock) (kept clock) ps ∙ all-weaken (good_place before) (λ (p : Place). good_place clock (kept clock p)) (kept-good before clock) ps t

pub dropped-length : (clock : ℕ) (ps : List Place) → length (dropped clock ps) ≡ length ps
unfolding dropped
dropped-length clock [] = refl
dropped-length clock (p ∷ ps) = ap suc (dropped-length clock ps)

-- what differs from a held place still does where it is dropped
still-differs : (before clock : ℕ) (p q : Place) → held_place before p ≡ true → differs p q ≡ true → differs p (kept clock q) ≡ true
still-differs before clock p q h d =
    by (leb q.identity.end clock)
    (λ e. rw (e, held-some before p h))
    (λ e. rw e d)

dropped-distinct : (before clock : ℕ) (ps : List Place) → all_of (good_place before) ps ≡ true → distinct ps ≡ true → distinct (dropped clock ps) ≡ true
unfolding dropped distinct all_of good_place
dropped-distinct before clock [] t d = refl
dropped-distinct before clock (p ∷ ps) t d =
    both_true head
    (dropped-distinct before clock ps (both_right (either (empty_place p) (held_place before p)) (all_of (good_place before) ps) t) (both_right (either (empty_place p) (all_of (differs p) ps)) (distinct ps) d))
  where
    stays : either (empty_place p) (all_of (differs p) (map (kept clock) ps)) ≡ true
    stays =
        either-cases (empty_place p) (held_place before p) (both_left (either (empty_place p) (held_place before p)) (all_of (good_place before) ps) t)
        (λ m. either_left (all_of (differs p) (map (kept clock) ps)) m)
        (λ h. either-cases (empty_place p) (all_of (differs p) ps) (both_left (either (empty_place p) (all_of (differs p) ps)) (distinct ps) d)
        (λ m. either_left (all_of (differs p) (map (kept clock) ps)) m)
        (λ a. either-right (empty_place p) (all_map (differs p) (kept clock) ps ∙ all-weaken (differs p) (λ (q : Place). differs p (kept clock q)) (λ q. still-differs before clock p q h) ps a)))

    head : either (empty_place (kept clock p)) (all_of (differs (kept clock p)) (map (kept clock) ps)) ≡ true
    head =
        by (leb p.identity.end clock)
        (λ e. rw e (either_left (all_of (differs no_place) (map (kept clock) ps)) no-place-empty))
        (λ e. rw e stays)

-- Setting the place where it goes.

-- no other place has the identity of the one that holds it first
others : (ps : List Place) (p : Place) → same_identity p.identity no_identity ≡ false → distinct ps ≡ true
    → (j : ℕ) → j < length ps → (j ≡ index_of (holds p.identity) ps → ⊥) → same_identity p.identity (get_or ps j no_place).identity ≡ false
others ps p s d j l n =
    by (ltb j (index_of (holds p.identity) ps))
    (λ t. index-before (holds p.identity) ps no_place j (ltb-true j (index_of (holds p.identity) ps) t))
    (λ f.
    let k : ℕ = index_of (holds p.identity) ps in
    let past : k ≤ j = ltb-false j k f in
    let found : k < length ps = omega (arith, past, l) in
    let same : p.identity ≡ (get_or ps k no_place).identity = same-identity-is p.identity (get_or ps k no_place).identity (index-found (holds p.identity) ps no_place found) in
    let some : empty_place (get_or ps k no_place) ≡ false =
    by (empty_place (get_or ps k no_place)) (λ m. clash (same_identity p.identity no_identity) (rw same (empty-identity (get_or ps k no_place) m)) s) (λ m. m) in
    rw same (distinct-two ps d k j (omega (arith, past, n)) l some))

spot-distinct : (ps : List Place) (p : Place) → same_identity p.identity no_identity ≡ false → distinct ps ≡ true → distinct (set ps (spot_of ps p).at p) ≡ true
unfolding spot_of
spot-distinct ps p s d =
    by (ltb (index_of (holds p.identity) ps) (length ps))
    (λ t. rw t (distinct-set ps (index_of (holds p.identity) ps) p d (others ps p s d)))
    (λ f. rw f (distinct-set ps (index_of empty_place ps) p d (λ j l n. others ps p s d j l (λ e. absurd (omega (arith, e, l, ltb-false (index_of (holds p.identity) ps) (length ps) f))))))

settled-good : (b : Board) (clock : ℕ) (p : Place) → good_board b ≡ true → in_range clock ≡ true → held_place clock p ≡ true → good_board (settled b clock p).board ≡ true
unfolding settled place_at
settled-good b clock p g r h =
    by (eqb (spot_of (dropped clock b.places) p).answer 0)
    (λ t.
    let parts = board-parts b g in
    let left : List Place = dropped clock b.places in
    let some : same_identity p.identity no_identity ≡ false = held-some clock p h in
    let long : length (set left (spot_of left p).at p) ≡ place_count = length-set left (spot_of left p).at p ∙ (dropped-length clock b.places ∙ parts.long) in
    rw t (whole-board clock (set left (spot_of left p).at p) r long
    (all_set (good_place clock) left (spot_of left p).at p (dropped-good b.clock clock b.places parts.places) (held-good-place clock p h))
    (spot-distinct left p some (dropped-distinct b.clock clock b.places parts.places parts.distincts))))
    (λ f. rw f g)

-- Every post leaves a good board good; a listing changes none.
pub post-good : (b : Board) (clock : ℕ) (r : Record) → good_board b ≡ true → good_board (post_of b clock r).board ≡ true
unfolding post_of claimed_on
post-good b clock r g =
    by (eqb (refusal_at b clock) 0)
    (λ t. rw t (by (eqb (claim_of clock r).answer 0)
    (λ u. rw u (settled-good b clock (claim_of clock r).place g (unrefused-parts b clock (eqb-true (refusal_at b clock) 0 t)).ranged (claim-held clock r (eqb-true (claim_of clock r).answer 0 u))))
    (λ u. rw u g)))
    (λ f. rw f g)

-- What a post answers on any board, and what it leaves.
use mathlib.Core.Bool.{true, false, not}
use mathlib.Core.List.{List}
use mathlib.Core.Path.{◌≡◌, refl, sym, ap, subst, ◌∙◌}
use Prim.Native.Nat.{ℕ, ◌<◌}
use native.Mathlib.Omega.{arith}
use lib.Dec.{ltb, eqb}
use lib.ListN.{length, get_or}
use lib.Seq.{ext_get_or}
use borrow.Author.Tests.{eqb-true, eqb-false, ltb-true, ltb-false, not-true}
use Rattle.lists.specs.Lists.{index_of}
use Rattle.lists.proofs.Choice.{by, clash, both-three}
use Rattle.lists.proofs.Lists.{index-found, index-before, all-at}
use Rattle.message.specs.declared.Record.{Record}
use Rattle.places.specs.Places.{same_identity, no_identity, no_place, empty_place}
use Rattle.places.specs.Claims.{claim_of}
use Rattle.places.specs.declared.Identity.{Identity}
use Rattle.places.specs.declared.Place.{Place}
use Rattle.places.proofs.HeldLaws.{same-identity-is, no-place-empty, ends_some}
use Rattle.board.specs.Boards.{place_count, good_board}
use Rattle.board.specs.Posts.{dropped, holds, spot_of, post_of}
use Rattle.board.specs.declared.Board.{Board}
use Rattle.board.specs.declared.Posted.{Posted}
use Rattle.board.proofs.Invariant.{board-parts, dropped-length, post-good}
use Rattle.board.proofs.RefusalLaws.{unrefused-parts}
use Rattle.board.proofs.PostLaws.{refused-unchanged, accepted-parts, dropped-at, given, others-stay}
use Rattle.promises.specs.Calls.{MayPost}
use Rattle.promises.specs.Refusals.Concerns.{reports, cancels}
use Rattle.promises.specs.AnyBoard.{place_of, HeldAt, after_dropping, found_on, AnsweredOn, Becomes, GoesTo, Takes, PostsOnAnyBoard}
use Rattle.promises.specs.AnyBoard.Becomes.{reported, named}
use Rattle.promises.specs.AnyBoard.GoesTo.{where-held, lowest-empty}
use Rattle.promises.proofs.Messages.{Asks, unfit-range, no_both, one-identity, asks}
use Rattle.promises.proofs.Messages.Asks.{unfit, report, cancellation}
use Rattle.promises.proofs.Held.{On, one_at, one_place, unheld, kept-some, on-dropped, dropped-on}
use Rattle.promises.proofs.Refusing.{one_answer, Knows, answered}
use Rattle.promises.proofs.Tracks.{asked-lasts}
use Rattle.promises.proofs.Histories.{posts-so}

-- "empty (all zero)"
empty-is : (p : Place) → empty_place p ≡ true → p ≡ no_place
unfolding empty_place
empty-is p t =
    let u = both-three (same_identity p.identity no_identity) (eqb p.correction 0) (not p.marked) t in
    let identities = same-identity-is p.identity no_identity u.0 in
    λ i. record { identity = identities i; correction = eqb-true p.correction 0 u.1 i; marked = not-true p.marked u.2 i }

-- What a post finds.

module _ (b : Board) (g : good_board b ≡ true) (clock : ℕ) where
  abbrev left : List Place
  left = dropped clock b.places

  long : length b.places ≡ place_count
  long = (board-parts b g).long

  left-long : length left ≡ place_count
  left-long = dropped-length clock b.places ∙ long

  left_at : (k : ℕ) → k < place_count → get_or left k no_place ≡ after_dropping b clock k
  left_at k h = dropped-at clock b.places k (omega (arith, long, h))

  -- a place that is left stood there before
  stood : {q : Place} (o : On left q) → place_of b o.at ≡ q
  stood {q} o =
      let was = left_at o.at (omega (arith, o.within, left-long)) in
      sym (kept-some clock (place_of b o.at) (rw (sym was ∙ o.there) o.some)).0 ∙ (sym was ∙ o.there)

  held-is : {q : Place} (o : On left q) → HeldAt b q.identity o.at
  held-is o = record { within = omega (arith, o.within, left-long); its = ap (λ (p : Place). p.identity) (stood o) }

  is-on : {i : Identity} {k : ℕ} → HeldAt b i k → clock < i.end → On b.places (place_of b k)
  is-on {i} {k} h l =
      record { at = k; within = omega (arith, long, h.within); there = refl; some = ends_some (place_of b k) (rw h.its (omega (arith, l))) }

  still-on : {i : Identity} {k : ℕ} → HeldAt b i k → clock < i.end → On left (place_of b k)
  still-on {i} {k} h l = dropped-on clock b.places (place_of b k) (is-on h l) (rw h.its l)

  -- and no other place has its identity
  the_one : {q : Place} {k : ℕ} → On left q → HeldAt b q.identity k → place_of b k ≡ q
  the_one {q} o h =
      let was = on-dropped clock b.places q o in
      one_place (board-parts b g).distincts (is-on h was.1) was.0 h.its

  empty-after : (k : ℕ) → k < place_count → empty_place (get_or left k no_place) ≡ true → after_dropping b clock k ≡ no_place
  empty-after k h e = sym (left_at k h) ∙ empty-is (get_or left k no_place) e

  not-empty : (k : ℕ) → k < place_count → not (empty_place (get_or left k no_place)) ≡ true → after_dropping b clock k ≡ no_place → ⊥
  not-empty k h n z = clash (empty_place (get_or left k no_place)) (rw (left_at k h, z) no-place-empty) (not-true (empty_place (get_or left k no_place)) n)

  knows : Knows left clock (found_on b clock)
  knows =
      record {
        marked = λ q o t. (o.at, held-is o, ap (λ (p : Place). p.marked) (stood o) ∙ t);
        unmarked = λ q o t x. clash (place_of b x.0).marked x.2 (ap (λ (p : Place). p.marked) (the_one o x.1) ∙ t);
        held =
            λ q o t.
            (o.at, held-is o, ap (λ (p : Place). p.marked) (stood o) ∙ t, ap (λ (p : Place). p.correction) (stood o));
        latest = λ q o t c x. omega (arith, x.3, ap (λ (p : Place). p.correction) (the_one o x.1));
        marked-on = λ i l x. record { place = place_of b x.0; on = still-on x.1 l; its = x.1.its };
        held_on = λ i c l x. record { place = place_of b x.0; on = still-on x.1 l; its = x.1.its };
        room = λ k w e f. let h : k < place_count = omega (arith, w, left-long) in f k h (empty-after k h e);
        full = λ a k h z. not-empty k h (all-at (λ (x : Place). not (empty_place x)) left no_place a k (omega (arith, h, left-long))) z;
      }

answered-on : (b : Board) (clock : ℕ) (r : Record) → AnsweredOn b clock r (post_of b clock r).answer
answered-on b clock r = answered b clock r (found_on b clock) (λ f. f) (λ f. f) refl (λ g l. knows b g clock)

-- The board after an accepted post.

becomes : {clock n : ℕ} {r : Record} {p : Place} → Asks clock r n p → n ≡ 0 → Becomes clock r p
becomes {clock} {n} {r} (unfit x) z = absurd (omega (arith, z, (unfit-range clock r x).0))
becomes (report m l) z = reported m
becomes (cancellation m l) z = named m

goes_to : (b : Board) (g : good_board b ≡ true) (clock : ℕ) (p : Place) → clock < p.identity.end → (spot_of (dropped clock b.places) p).answer ≡ 0
    → GoesTo b clock p.identity (spot_of (dropped clock b.places) p).at
unfolding spot_of
goes_to b g clock p l z =
    let ps : List Place = dropped clock b.places in
    let k : ℕ = index_of (holds p.identity) ps in
    let e : ℕ = index_of empty_place ps in
    by (ltb k (length ps))
    (λ t.
    let w = ltb-true k (length ps) t in
    let same : p.identity ≡ (get_or ps k no_place).identity = same-identity-is p.identity (get_or ps k no_place).identity (index-found (holds p.identity) ps no_place w) in
    let some : 0 < (get_or ps k no_place).identity.end = rw (← same) (omega (arith, l)) in
    let o : On ps (get_or ps k no_place) = record { at = k; within = w; there = refl; some = ends_some (get_or ps k no_place) some } in
    let here : HeldAt b p.identity k = subst (λ (i : Identity). HeldAt b i k) (sym same) (held-is b g clock o) in
    rw t (where-held here))
    (λ f.
    let none = unheld ps p.identity (ltb-false k (length ps) f) in
    rw f (by (ltb e (length ps))
    (λ t.
    let w = ltb-true e (length ps) t in
    let h : e < place_count = omega (arith, w, left-long b g clock) in
    lowest-empty (λ j o. none (place_of b j) (still-on b g clock o l) o.its) h
    (empty-after b g clock e h (index-found empty_place ps no_place w))
    (λ j a. not-empty b g clock j (omega (arith, a, h)) (rw (index-before empty_place ps no_place j a))))
    (λ u. let y = rw (f, u) at z in absurd (omega (arith, y)))))

takes : (b : Board) (clock : ℕ) (r : Record) → (post_of b clock r).answer ≡ 0 → Takes b clock r (post_of b clock r).board
takes b clock r z =
    let a = accepted-parts b clock r z in
    let g = (unrefused-parts b clock a.unrefused).sound in
    let p : Place = (claim_of clock r).place in
    record {
      sets-clock = ap (λ (x : Board). x.clock) a.board;
      places = (board-parts (post_of b clock r).board (post-good b clock r g)).long;
      message = p;
      becomes = becomes (asks clock r) a.claimed;
      at = (spot_of (dropped clock b.places) p).at;
      goes_to = goes_to b g clock p (asked-lasts (asks clock r) a.claimed) a.free;
      there = given b clock r z;
      others = λ k h n. others-stay b clock r z k (omega (arith, h, long b g clock)) n;
    }

-- There is one such board.

one-message : {clock : ℕ} {r : Record} {p q : Place} → Becomes clock r p → Becomes clock r q → p ≡ q
one-message (reported {c = c} m) (reported {c = d} n) =
    let same = one-identity (reports c m) (reports d n) in
    λ k. record { identity = same k; correction = (m.corrected ∙ sym n.corrected) k; marked = false }
one-message (reported m) (named n) = absurd (no_both m n)
one-message (named m) (reported n) = absurd (no_both n m)
one-message (named m) (named n) = let same = one-identity (cancels m) (cancels n) in λ k. record { identity = same k; correction = 0; marked = true }

module _ (b : Board) (g : good_board b ≡ true) (clock : ℕ) (i : Identity) (l : clock < i.end) where
  one_spot : {k j : ℕ} → GoesTo b clock i k → GoesTo b clock i j → k ≡ j
  unfolding is-on
  one_spot (where-held x) (where-held y) = one_at (board-parts b g).distincts (is-on b g clock x l) (is-on b g clock y l) (x.its ∙ sym y.its)
  one_spot {k} (where-held x) (lowest-empty u h e low) = absurd (u k x)
  one_spot {k} {j} (lowest-empty u h e low) (where-held y) = absurd (u j y)
  one_spot {k} {j} (lowest-empty u h e low) (lowest-empty v n f far) =
      by (ltb k j)
      (λ t. absurd (far k (ltb-true k j t) e))
      (λ s. by (ltb j k) (λ t. absurd (low j (ltb-true j k t) f)) (λ t. omega (arith, ltb-false k j s, ltb-false j k t)))

  in-places : {k : ℕ} → GoesTo b clock i k → k < place_count
  in-places (where-held x) = x.within
  in-places (lowest-empty u h e low) = h

one-after : (b x y : Board) (clock : ℕ) (r : Record) → good_board b ≡ true → (t : Takes b clock r x) → clock < t.message.identity.end → Takes b clock r y → y ≡ x
one-after b x y clock r g t l u = λ i. record { clock = clocks i; places = places i }
  where
    same : u.message ≡ t.message
    same = one-message u.becomes t.becomes

    spot : u.at ≡ t.at
    spot = one_spot b g clock t.message.identity l (rw (← same) u.goes_to) t.goes_to

    clocks : y.clock ≡ x.clock
    clocks = u.sets-clock ∙ sym t.sets-clock

    each : (k : ℕ) → k < place_count → place_of y k ≡ place_of x k
    each k h =
        by (eqb k t.at)
        (λ e.
        let here = eqb-true k t.at e in
        ap (place_of y) (here ∙ sym spot) ∙ (u.there ∙ (same ∙ (sym t.there ∙ ap (place_of x) (sym here)))))
        (λ e.
        let n = eqb-false k t.at e in
        u.others k h (λ z. n (z ∙ spot)) ∙ sym (t.others k h n))

    places : y.places ≡ x.places
    places = ext_get_or no_place y.places x.places (u.places ∙ sym t.places) (λ k h. each k (omega (arith, h, u.places)))

module _ {b after : Board} {clock answer : ℕ} {r : Record} (m : MayPost b clock r answer after) where
  board-so : after ≡ (post_of b clock r).board
  board-so = ap (λ (p : Posted). p.board) (posts-so m)

  answer-so : answer ≡ (post_of b clock r).answer
  answer-so = ap (λ (p : Posted). p.answer) (posts-so m)

only-after : (b after other : Board) (clock : ℕ) (r : Record) → MayPost b clock r 0 after → Takes b clock r other → other ≡ after
unfolding takes
only-after b after other clock r m u =
    let z = sym (answer-so m) in
    let a = accepted-parts b clock r z in
    one-after b (post_of b clock r).board other clock r (unrefused-parts b clock a.unrefused).sound (takes b clock r z) (asked-lasts (asks clock r) a.claimed) u
    ∙ sym (board-so m)

pub any-board : PostsOnAnyBoard
any-board =
    record {
      stays-good = λ b after clock r answer m g. rw (board-so m) (post-good b clock r g);
      turned-away =
          λ b after clock r answer m n. (
            λ e. subst (AnsweredOn b clock r) (sym (answer-so m) ∙ e) (answered-on b clock r),
            λ x. answer-so m ∙ one_answer (found_on b clock) clock r (post_of b clock r).answer n (answered-on b clock r) x,
          );
      refused = λ b after clock r answer m n. board-so m ∙ refused-unchanged b clock r (λ e. n (answer-so m ∙ e));
      takes = λ b after clock r m. subst (λ (x : Board). Takes b clock r x) (sym (board-so m)) (takes b clock r (sym (answer-so m)));
      one-after = only-after;
    }

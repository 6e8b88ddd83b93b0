-- The number of a post is the first one whose cause holds, by whatever is known of the places; and there is one such number.
use mathlib.Core.Bool.{true, false, not}
use mathlib.Core.List.{List}
use mathlib.Core.Path.{◌≡◌, refl, sym, ap, subst, ◌∙◌}
use Prim.Native.Nat.{ℕ, ◌≤◌, ◌<◌}
use native.Mathlib.Omega.{arith}
use lib.Dec.{leb, ltb, eqb}
use lib.ListN.{length, get_or}
use borrow.Author.Tests.{leb-true, leb-false, ltb-true, ltb-false, eqb-true, le-leb, lt-ltb, le-ltb, ne_eqb}
use Rattle.lists.specs.Lists.{all_of}
use Rattle.lists.proofs.Choice.{by, clash, both_true}
use Rattle.words.proofs.Ranges.{between-low, between-high}
use Rattle.message.specs.declared.Record.{Record}
use Rattle.places.specs.Places.{no_place, empty_place}
use Rattle.places.specs.Claims.{claim_of}
use Rattle.places.specs.declared.Identity.{Identity}
use Rattle.places.specs.declared.Place.{Place}
use Rattle.board.specs.Boards.{in_range, good_board, refusal_at}
use Rattle.board.specs.Posts.{dropped, spot_of, place_at, settled, claimed_on, post_of}
use Rattle.board.specs.declared.Board.{Board}
use Rattle.board.proofs.SettleLaws.{objection-22, objection-again, objection-21, objection-none, objection-marks}
use Rattle.promises.specs.Accepted.{IsReport, IsCancellation}
use Rattle.promises.specs.Refusals.{Refuses, InRange, Unfit, Found, Already, Unplaced, Answered}
use Rattle.promises.specs.Refusals.Refuses.{given, passed}
use Rattle.promises.specs.Refusals.Concerns.{reports, cancels}
use Rattle.promises.specs.Refusals.Already.{held, again}
use Rattle.promises.proofs.Messages.{Asks, None, reported_place, marked_place, unfit-range, no_both, one-identity, fit, asks}
use Rattle.promises.proofs.Messages.Asks.{unfit, report, cancellation}
use Rattle.promises.proofs.Held.{On, Holder, Unheld, Goes, goes}
use Rattle.promises.proofs.Held.Goes.{has, free, full}

-- One number.

module _ {number : ℕ} {cause : Type 0} {behind : ℕ → Type 0} where
  pub one_number : ((m n : ℕ) → behind m → behind n → m ≡ n) → (m n : ℕ) → Refuses number cause behind m → Refuses number cause behind n → m ≡ n
  one_number one m n (given c) (given d) = refl
  one_number one m n (given c) (passed u y) = absurd (u c)
  one_number one m n (passed u x) (given c) = absurd (u c)
  one_number one m n (passed u x) (passed v y) = one m n x y

  -- another number is one behind it
  pub past : {n : ℕ} → Refuses number cause behind n → (n ≡ number → ⊥) → (cause → ⊥) × behind n
  past (given c) d = absurd (d refl)
  past (passed u x) d = (u, x)

  wider : {other : ℕ → Type 0} → ((n : ℕ) → behind n → other n) → (n : ℕ) → Refuses number cause behind n → Refuses number cause other n
  wider f n (given c) = given c
  wider f n (passed u x) = passed u (f n x)

pub one_answer : (f : Found) (clock : ℕ) (r : Record) (m n : ℕ) → Answered f clock r m → Answered f clock r n → m ≡ n
one_answer f clock r =
    one_number (one_number (one_number (one_number (one_number (one_number (one_number (one_number (one_number (one_number (one_number (λ m n x y. x ∙ sym y)))))))))))

-- an unfit message is refused, whatever comes behind
unfit-anyhow : (clock : ℕ) (r : Record) {behind : ℕ → Type 0} (n : ℕ) → Unfit clock r None n → Unfit clock r behind n
unfit-anyhow clock r = wider (wider (wider (wider (wider (λ n x. absurd x)))))

-- The range.

pub range-in : (clock : ℕ) → InRange clock → in_range clock ≡ true
range-in clock r = both_true (le-leb 1440 clock r.from) (le-leb clock 52591679 r.until)

pub in-range : (clock : ℕ) → in_range clock ≡ true → InRange clock
in-range clock t = record { from = between-low 1440 52591679 clock t; until = between-high 1440 52591679 clock t }

-- What is known of the places that are left after the dropping.
pub record Knows (left : List Place) (clock : ℕ) (f : Found) : Type 0 where
  pub marked : (q : Place) → On left q → q.marked ≡ true → f.marked q.identity
  pub unmarked : (q : Place) → On left q → q.marked ≡ false → f.marked q.identity → ⊥
  pub held : (q : Place) → On left q → q.marked ≡ false → f.held q.identity q.correction
  pub latest : (q : Place) → On left q → q.marked ≡ false → (c : ℕ) → f.held q.identity c → c ≤ q.correction
  pub marked-on : (i : Identity) → clock < i.end → f.marked i → Holder left i
  pub held_on : (i : Identity) (c : ℕ) → clock < i.end → f.held i c → Holder left i
  pub room : (k : ℕ) → k < length left → empty_place (get_or left k no_place) ≡ true → f.full → ⊥
  pub full : all_of (λ (q : Place). not (empty_place q)) left ≡ true → f.full

module _ {left : List Place} {clock : ℕ} {f : Found} (k : Knows left clock f) (r : Record) (i : Identity) (l : clock < i.end) where
  -- where no place has the identity, it is neither marked nor held
  unmarked-so : Unheld left i → {j : Identity} → j ≡ i → f.marked j → ⊥
  unmarked-so none e x = let h = k.marked-on i l (rw (← e) x) in none h.place h.on h.its

  unheld-so : Unheld left i → {j : Identity} → j ≡ i → (c : ℕ) → f.held j c → ⊥
  unheld-so none e c x = let h = k.held_on i c l (rw (← e) x) in none h.place h.on h.its

  module _ {c : ℕ} (m : IsReport clock r i c) where
    one-report : {j : Identity} {d : ℕ} → IsReport clock r j d → j ≡ i
    one-report {j} {d} n = one-identity (reports d n) (reports c m)

    new-report : Unheld left i → Already f clock r → ⊥
    new-report none (held {d = d} n x le) = unheld-so none (one-report n) d x
    new-report none (again n x) = no_both m n

    later-report : {q : Place} → On left q → q.identity ≡ i → q.marked ≡ false → q.correction < c → Already f clock r → ⊥
    later-report {q} o e t lt (held {i = j} {d = d} n x le) =
        let same : f.held q.identity d = rw (e, ← (one-report n)) x in
        absurd (omega (arith, lt, le, k.latest q o t d same, n.corrected, m.corrected))
    later-report o e t lt (again n x) = no_both m n

    report-goes : {n at : ℕ} → Goes left (reported_place i c) n at → Unplaced f clock r n
    report-goes (has {q = q} o same) =
        by q.marked
        (λ t. subst (Unplaced f clock r) (sym (objection-22 q (reported_place i c) t refl)) (given (i, c, m, rw (← same) (k.marked q o t))))
        (λ t.
        let unmarked : (j : Identity) × (d : ℕ) × IsReport clock r j d × f.marked j → ⊥ = λ x. k.unmarked q o t (rw (same, ← (one-report x.2)) x.3) in
        let here : f.held i q.correction = rw (← same) (k.held q o t) in
        by (leb c q.correction)
        (λ u.
        let le = leb-true c q.correction u in
        subst (Unplaced f clock r) (sym (objection-21 q (reported_place i c) t refl le)) (passed unmarked (given (held m here le))))
        (λ u.
        let lt = leb-false c q.correction u in
        subst (Unplaced f clock r) (sym (objection-none q (reported_place i c) t refl lt))
        (passed unmarked (passed (later-report o same t lt) (passed (λ x. x.unheld q.correction (rw (one-identity x.concerned (reports c m)) here)) refl)))))
    report-goes (free {k = at} none w e) =
        passed (λ x. unmarked-so none (one-report x.2) x.3) (passed (new-report none) (passed (λ x. k.room at w e x.full) refl))
    report-goes (full none a) =
        passed (λ x. unmarked-so none (one-report x.2) x.3)
        (passed (new-report none) (given record { identity = i; concerned = reports c m; unmarked = unmarked-so none refl; unheld = unheld-so none refl; full = k.full a }))

  module _ (m : IsCancellation clock r i) where
    new-cancellation : (f.marked i → ⊥) → Already f clock r → ⊥
    new-cancellation none (held n x le) = no_both n m
    new-cancellation none (again n x) = none (rw (← (one-identity (cancels n) (cancels m))) x)

    cancellation-goes : {n at : ℕ} → Goes left (marked_place i) n at → Unplaced f clock r n
    cancellation-goes (has {q = q} o same) =
        by q.marked
        (λ t. subst (Unplaced f clock r) (sym (objection-again q (marked_place i) t refl)) (passed (λ x. no_both x.2 m) (given (again m (rw (← same) (k.marked q o t))))))
        (λ t.
        let here : f.held i q.correction = rw (← same) (k.held q o t) in
        subst (Unplaced f clock r) (sym (objection-marks q (marked_place i) t refl))
        (passed (λ x. no_both x.2 m) (passed (new-cancellation (λ x. k.unmarked q o t (rw same x)))
        (passed (λ x. x.unheld q.correction (rw (one-identity x.concerned (cancels m)) here)) refl))))
    cancellation-goes (free {k = at} none w e) =
        passed (λ x. no_both x.2 m) (passed (new-cancellation (unmarked-so none refl)) (passed (λ x. k.room at w e x.full) refl))
    cancellation-goes (full none a) =
        passed (λ x. no_both x.2 m) (passed (new-cancellation (unmarked-so none refl))
        (given record { identity = i; concerned = cancels m; unmarked = unmarked-so none refl; unheld = unheld-so none refl; full = k.full a }))

-- The stages of a post.

module _ (b : Board) (clock : ℕ) where
  broken : good_board b ≡ false → refusal_at b clock ≡ 36
  unfolding refusal_at
  broken g = rw g

  pub outside : good_board b ≡ true → in_range clock ≡ false → refusal_at b clock ≡ 16
  unfolding refusal_at
  outside g t = rw (g, t)

  pub early : good_board b ≡ true → in_range clock ≡ true → clock < b.clock → refusal_at b clock ≡ 17
  unfolding refusal_at
  early g t l = rw (g, t, lt-ltb clock b.clock l)

  pub timely : good_board b ≡ true → in_range clock ≡ true → b.clock ≤ clock → refusal_at b clock ≡ 0
  unfolding refusal_at
  timely g t l = rw (g, t, le-ltb clock b.clock l)

module _ (b : Board) (clock : ℕ) (r : Record) where
  refused-answer : (refusal_at b clock ≡ 0 → ⊥) → (post_of b clock r).answer ≡ refusal_at b clock
  unfolding post_of
  refused-answer n = rw (ne_eqb (refusal_at b clock) 0 n)

  claim-answer : refusal_at b clock ≡ 0 → ((claim_of clock r).answer ≡ 0 → ⊥) → (post_of b clock r).answer ≡ (claim_of clock r).answer
  unfolding post_of claimed_on
  claim-answer z n = rw (z, ne_eqb (claim_of clock r).answer 0 n)

  spot-answer : refusal_at b clock ≡ 0 → (claim_of clock r).answer ≡ 0 → (post_of b clock r).answer ≡ (spot_of (dropped clock b.places) (claim_of clock r).place).answer
  unfolding post_of claimed_on settled place_at
  spot-answer z e =
      rw (z, e) (by (eqb (spot_of (dropped clock b.places) (claim_of clock r).place).answer 0)
      (λ t. rw t (sym (eqb-true (spot_of (dropped clock b.places) (claim_of clock r).place).answer 0 t)))
      (λ f. rw f))

  -- where neither board nor clock speaks against it: 13 to 20 by the message, the others by its place
  module _ {f : Found} (z : refusal_at b clock ≡ 0) (k : Knows (dropped clock b.places) clock f) where
    abbrev Says : ℕ → Type 0
    Says = Unfit clock r (Unplaced f clock r)

    abbrev left : List Place
    left = dropped clock b.places

    spot-so : {p : Place} → 0 ≡ (claim_of clock r).answer → p ≡ (claim_of clock r).place → Says (spot_of left p).answer → Says (post_of b clock r).answer
    spot-so {p} e s x = subst Says (ap (λ (q : Place). (spot_of left q).answer) s ∙ sym (spot-answer z (sym e))) x

    message-answer : {n : ℕ} {p : Place} → Asks clock r n p → n ≡ (claim_of clock r).answer → p ≡ (claim_of clock r).place → Says (post_of b clock r).answer
    message-answer {n} (unfit x) e s =
        let some = (unfit-range clock r x).0 in
        subst Says (e ∙ sym (claim-answer z (λ y. absurd (omega (arith, y, e, some))))) (unfit-anyhow clock r n x)
    message-answer (report {i} {c} m l) e s = spot-so e s (fit (reports c m) l (report-goes k r i l m (goes left (reported_place i c) (omega (arith, l)))))
    message-answer (cancellation {i} m l) e s = spot-so e s (fit (cancels m) l (cancellation-goes k r i l m (goes left (marked_place i) (omega (arith, l)))))

  refused_as : (f : Found) {n : ℕ} → refusal_at b clock ≡ n → 0 < n → Answered f clock r n → Answered f clock r (post_of b clock r).answer
  refused_as f e some x = subst (Answered f clock r) (sym (refused-answer (λ z. absurd (omega (arith, z, e, some))) ∙ e)) x

  -- The number of a post is the first whose cause holds.
  pub answered : (f : Found) → (f.bad → good_board b ≡ false) → (good_board b ≡ false → f.bad) → f.clock ≡ b.clock
      → (good_board b ≡ true → b.clock ≤ clock → Knows (dropped clock b.places) clock f) → Answered f clock r (post_of b clock r).answer
  answered f bad-so so-bad same k =
      by (good_board b)
      (λ g.
      let good : f.bad → ⊥ = λ x. clash (good_board b) g (bad-so x) in
      by (in_range clock)
      (λ t.
      let ranged : (InRange clock → ⊥) → ⊥ = λ x. x (in-range clock t) in
      by (ltb clock b.clock)
      (λ u.
      let l = ltb-true clock b.clock u in
      refused_as f (early b clock g t l) (omega (arith)) (passed good (passed ranged (given (rw same l)))))
      (λ u.
      let no-earlier = ltb-false clock b.clock u in
      passed good (passed ranged (passed (λ x. absurd (omega (arith, x, same, no-earlier))) (message-answer (timely b clock g t no-earlier) (k g no-earlier) (asks clock r) refl refl)))))
      (λ t. refused_as f (outside b clock g t) (omega (arith)) (passed good (given (λ x. clash (in_range clock) (range-in clock x) t)))))
      (λ g. refused_as f (broken b clock g) (omega (arith)) (given (so-bad g)))

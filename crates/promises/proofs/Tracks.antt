-- After every history the board holds what the history has accepted and has not ended: by induction over the calls.
use mathlib.Core.Bool.{true, false}
use mathlib.Core.List.{List, [], ◌∷◌}
use mathlib.Core.Logic.{◌⊎◌, inl, inr, ⊎_elim}
use mathlib.Core.Path.{◌≡◌, refl, sym, ap, subst, ◌∙◌}
use Prim.Native.Nat.{ℕ, ◌≤◌, ◌<◌}
use native.Mathlib.Omega.{arith}
use lib.Dec.{leb, eqb}
use borrow.Author.Tests.{leb-false, eqb-true, eqb-false, eq-eqb, ne_eqb}
use Rattle.lists.specs.Lists.{all_of}
use Rattle.lists.proofs.Choice.{by, clash}
use Rattle.lists.proofs.Lists.{all-at}
use Rattle.message.specs.declared.Record.{Record}
use Rattle.places.specs.Places.{same_identity, no_place, empty_place}
use Rattle.board.specs.Boards.{good_board, empty_board}
use Rattle.places.specs.Claims.{claim_of}
use Rattle.board.specs.Posts.{objection, post_of}
use Rattle.board.specs.declared.Board.{Board}
use Rattle.places.specs.declared.Identity.{Identity}
use Rattle.places.specs.declared.Place.{Place}
use Rattle.places.proofs.HeldLaws.{same-identity-is, same-identity-refl}
use Rattle.board.proofs.Invariant.{new-good, post-good}
use Rattle.board.proofs.RefusalLaws.{unrefused-parts}
use Rattle.board.proofs.PostLaws.{accepted-parts, refused-unchanged}
use Rattle.promises.specs.Calls.{History, Run}
use Rattle.promises.specs.Calls.Call.{posted, listed}
use Rattle.promises.specs.Calls.Run.{begun, then-posted, then-listed}
use Rattle.promises.specs.Accepted.{IsReport, IsCancellation, Reported, Cancelled, Known, last_clock}
use Rattle.promises.specs.Accepted.Reported.{report-now, report-before}
use Rattle.promises.specs.Accepted.Cancelled.{cancelled-now, cancelled-before}
use Rattle.promises.specs.Accepted.Known.{by-report, by-cancellation}
use Rattle.promises.specs.Refusals.Concerns.{reports, cancels}
use Rattle.promises.proofs.Messages.{Asks, reported_place, marked_place, unfit-range, no_both, one-identity, asks}
use Rattle.promises.proofs.Messages.Asks.{unfit, report, cancellation}
use Rattle.promises.proofs.Held.{On, Holder, Step, step}

-- What a held place says of the history.
pub data Stands (h : History) (p : Place) : Type 0 where
  stands-marked : p.marked ≡ true → Cancelled p.identity h → Stands h p
  stands-reported : p.marked ≡ false → Reported p.identity p.correction h → ((c : ℕ) → Reported p.identity c h → c ≤ p.correction)
      → (Cancelled p.identity h → ⊥) → Stands h p

pub record Tracks (h : History) (b : Board) : Type 0 where
  pub sound : good_board b ≡ true
  pub clock : b.clock ≡ last_clock h
  pub stands : (p : Place) → On b.places p → Stands h p
  pub finds : (i : Identity) → Known i h → last_clock h < i.end → Holder b.places i

-- The empty board.

unreported : {i : Identity} {c : ℕ} → Reported i c [] → ⊥
unreported m = elim m [ ]

uncancelled : {i : Identity} → Cancelled i [] → ⊥
uncancelled m = elim m [ ]

unknown : {i : Identity} → Known i [] → ⊥
unknown (by-report c m) = unreported m
unknown (by-cancellation m) = uncancelled m

all-empty : all_of empty_place empty_board.places ≡ true
unfolding all_of empty_place same_identity
all-empty = refl

empty-tracks : Tracks [] empty_board
unfolding last_clock
empty-tracks =
    record {
      sound = new-good;
      clock = refl;
      stands = λ p o. clash (empty_place p) (rw (← o.there) (all-at empty_place empty_board.places no_place all-empty o.at o.within)) o.some;
      finds = λ i k l. absurd (unknown k);
    }

-- A call that is not an accepted post changes nothing.

record Same (h g : History) : Type 0 where
  clock : last_clock g ≡ last_clock h
  report : (i : Identity) (c : ℕ) → Reported i c g → Reported i c h
  reported : (i : Identity) (c : ℕ) → Reported i c h → Reported i c g
  cancel : (i : Identity) → Cancelled i g → Cancelled i h
  cancelled : (i : Identity) → Cancelled i h → Cancelled i g

known_same : {h g : History} → Same h g → {i : Identity} → Known i g → Known i h
known_same s {i} (by-report c m) = by-report c (s.report i c m)
known_same s {i} (by-cancellation m) = by-cancellation (s.cancel i m)

stands_same : {h g : History} → Same h g → {p : Place} → Stands h p → Stands g p
stands_same s {p} (stands-marked m c) = stands-marked m (s.cancelled p.identity c)
stands_same s {p} (stands-reported m r l n) =
    stands-reported m (s.reported p.identity p.correction r) (λ c x. l c (s.report p.identity c x)) (λ x. n (s.cancel p.identity x))

tracks_same : {h g : History} {b : Board} → Same h g → Tracks h b → Tracks g b
tracks_same s t =
    record {
      sound = t.sound;
      clock = t.clock ∙ sym s.clock;
      stands = λ p o. stands_same s (t.stands p o);
      finds = λ i k l. t.finds i (known_same s k) (rw s.clock at l);
    }

report-listed : {i : Identity} {c time answer count : ℕ} {buffer after : List ℕ} {h : History} → Reported i c (listed time buffer answer count after ∷ h) → Reported i c h
report-listed (report-before m) = m

cancelled-listed : {i : Identity} {time answer count : ℕ} {buffer after : List ℕ} {h : History} → Cancelled i (listed time buffer answer count after ∷ h) → Cancelled i h
cancelled-listed (cancelled-before m) = m

listed_same : (time answer count : ℕ) (buffer after : List ℕ) (h : History) → Same h (listed time buffer answer count after ∷ h)
unfolding last_clock
listed_same time answer count buffer after h =
    record {
      clock = refl;
      report = λ i c m. report-listed m;
      reported = λ i c m. report-before m;
      cancel = λ i m. cancelled-listed m;
      cancelled = λ i m. cancelled-before m;
    }

report-refused : {i : Identity} {c clock answer : ℕ} {r : Record} {h : History} → (answer ≡ 0 → ⊥) → Reported i c (posted clock r answer ∷ h) → Reported i c h
report-refused n (report-now z m) = absurd (n z)
report-refused n (report-before m) = m

-- a cancellation is not forgotten at the next post
cancelled-still : {i : Identity} {clock answer : ℕ} {r : Record} {h : History} → Cancelled i h → Cancelled i (posted clock r answer ∷ h)
cancelled-still m = cancelled-before m

cancelled-refused : {i : Identity} {clock answer : ℕ} {r : Record} {h : History} → (answer ≡ 0 → ⊥) → Cancelled i (posted clock r answer ∷ h) → Cancelled i h
cancelled-refused n (cancelled-now z m) = absurd (n z)
cancelled-refused n (cancelled-before m) = m

refused-same : (clock answer : ℕ) (r : Record) (h : History) → (answer ≡ 0 → ⊥) → Same h (posted clock r answer ∷ h)
unfolding last_clock
refused-same clock answer r h n =
    record {
      clock = rw (ne_eqb answer 0 n);
      report = λ i c m. report-refused n m;
      reported = λ i c m. report-before m;
      cancel = λ i m. cancelled-refused n m;
      cancelled = λ i m. cancelled-still m;
    }

-- An accepted post adds its message, and nothing else.

module _ {clock : ℕ} {r : Record} {i : Identity} where
  asked-report : {n c : ℕ} {p : Place} → Asks clock r n p → n ≡ 0 → IsReport clock r i c → p ≡ reported_place i c
  asked-report (unfit x) z m = absurd (omega (arith, z, (unfit-range clock r x).0))
  asked-report {c = c} (report {c = d} k l) z m =
      let same = one-identity (reports d k) (reports c m) in
      λ j. record { identity = same j; correction = (k.corrected ∙ sym m.corrected) j; marked = false }
  asked-report (cancellation k l) z m = absurd (no_both m k)

  asked-cancellation : {n : ℕ} {p : Place} → Asks clock r n p → n ≡ 0 → IsCancellation clock r i → p ≡ marked_place i
  asked-cancellation (unfit x) z m = absurd (omega (arith, z, (unfit-range clock r x).0))
  asked-cancellation (report k l) z m = absurd (no_both k m)
  asked-cancellation (cancellation k l) z m = ap marked_place (one-identity (cancels k) (cancels m))

module _ {clock answer : ℕ} {r : Record} {h : History} (z : (claim_of clock r).answer ≡ 0) where
  new-report : {i : Identity} {c : ℕ} → Reported i c (posted clock r answer ∷ h) → ((claim_of clock r).place ≡ reported_place i c) ⊎ Reported i c h
  new-report (report-now e m) = inl (asked-report (asks clock r) z m)
  new-report (report-before m) = inr m

  new-cancelled : {i : Identity} → Cancelled i (posted clock r answer ∷ h) → ((claim_of clock r).place ≡ marked_place i) ⊎ Cancelled i h
  new-cancelled (cancelled-now e m) = inl (asked-cancellation (asks clock r) z m)
  new-cancelled (cancelled-before m) = inr m

-- what a held place has not against one that comes
pub unmarked-then : (q p : Place) → objection q p ≡ 0 → q.marked ≡ false
unfolding objection
unmarked-then q p =
    by q.marked
    (λ m. rw m (by p.marked (λ n. rw n (λ z. absurd (omega (arith, z)))) (λ n. rw n (λ z. absurd (omega (arith, z))))))
    (λ m z. m)

pub later-then : (q p : Place) → objection q p ≡ 0 → p.marked ≡ false → q.correction < p.correction
unfolding objection
later-then q p z n =
    let m = unmarked-then q p z in
    by (leb p.correction q.correction)
    (λ t. let w = rw (m, n, t) at z in absurd (omega (arith, w)))
    (λ f. leb-false p.correction q.correction f)

pub asked-lasts : {clock n : ℕ} {r : Record} {p : Place} → Asks clock r n p → n ≡ 0 → clock < p.identity.end
asked-lasts {clock} {n} {r} (unfit x) z = absurd (omega (arith, z, (unfit-range clock r x).0))
asked-lasts (report m l) z = l
asked-lasts (cancellation m l) z = l

pub stands-later : {h : History} {q : Place} → Stands h q → q.marked ≡ false → (d : ℕ) → Reported q.identity d h → d ≤ q.correction
stands-later {h} {q} (stands-marked m c) n d x = clash q.marked m n
stands-later (stands-reported m r l u) n d x = l d x

pub stands-unnamed : {h : History} {q : Place} → Stands h q → q.marked ≡ false → Cancelled q.identity h → ⊥
stands-unnamed {h} {q} (stands-marked m c) n x = clash q.marked m n
stands-unnamed (stands-reported m r l u) n x = u x

pub stands-named : {h : History} {q : Place} → Stands h q → q.marked ≡ true → Cancelled q.identity h
stands-named (stands-marked m c) n = c
stands-named {h} {q} (stands-reported m r l u) n = clash q.marked n m

pub stands-as : {h : History} {q : Place} → Stands h q → q.marked ≡ false → Reported q.identity q.correction h
stands-as {h} {q} (stands-marked m c) n = clash q.marked m n
stands-as (stands-reported m r l u) n = r

pub stands-known : {h : History} {q : Place} → Stands h q → Known q.identity h
stands-known (stands-marked m c) = by-cancellation c
stands-known {h} {q} (stands-reported m r l u) = by-report q.correction r

module _ {h : History} {b : Board} (t : Tracks h b) (clock answer : ℕ) (r : Record) (z : (post_of b clock r).answer ≡ 0) (e : answer ≡ 0) where
  abbrev p : Place
  p = (claim_of clock r).place

  abbrev g : History
  g = posted clock r answer ∷ h

  claimed : (claim_of clock r).answer ≡ 0
  claimed = (accepted-parts b clock r z).claimed

  lasts : clock < p.identity.end
  lasts = asked-lasts (asks clock r) claimed

  timely : last_clock h ≤ clock
  timely = rw (← t.clock) (unrefused-parts b clock (accepted-parts b clock r z).unrefused).no-earlier

  stepped : Step b.places (post_of b clock r).board.places clock p
  stepped = step b clock r t.sound (omega (arith, lasts)) z

  -- what is held of the same identity gives way
  yields : Known p.identity h → (q : Place) × ((q.identity ≡ p.identity) × ((objection q p ≡ 0) × Stands h q))
  yields k =
      let f = t.finds p.identity k (omega (arith, lasts, timely)) in
      let q : Place = f.place in
      let soon : clock < q.identity.end = rw f.its lasts in
      (q, (f.its, (stepped.unopposed q f.on soon f.its, t.stands q f.on)))

  unnamed-before : Cancelled p.identity h → ⊥
  unnamed-before x =
      let y = yields (by-cancellation x) in
      stands-unnamed y.1.1.1 (unmarked-then y.0 p y.1.1.0) (rw y.1.0 x)

  later-before : p.marked ≡ false → (d : ℕ) → Reported p.identity d h → d < p.correction
  later-before n d x =
      let y = yields (by-report d x) in
      let most : d ≤ y.0.correction = stands-later y.1.1.1 (unmarked-then y.0 p y.1.1.0) d (rw y.1.0 x) in
      omega (arith, most, later-then y.0 p y.1.1.0 n)

  new-stands : {n : ℕ} {q : Place} → Asks clock r n q → n ≡ 0 → p ≡ q → Stands g q
  new-stands (unfit x) y s = absurd (omega (arith, y, (unfit-range clock r x).0))
  new-stands (report {i} {c} m l) y s =
      stands-reported refl (report-now e m)
      (λ d x. ⊎_elim
      (λ (k : p ≡ reported_place i d). omega (arith, ap (λ (q : Place). q.correction) (sym k ∙ s)))
      (λ (w : Reported i d h).
      let le = later-before (ap (λ (q : Place). q.marked) s) d (subst (λ (q : Place). Reported q.identity d h) (sym s) w) in
      omega (arith, le, ap (λ (q : Place). q.correction) s))
      (new-report claimed x))
      (λ x. ⊎_elim
      (λ (k : p ≡ marked_place i). clash p.marked (ap (λ (q : Place). q.marked) k) (ap (λ (q : Place). q.marked) s))
      (λ (w : Cancelled i h). unnamed-before (subst (λ (q : Place). Cancelled q.identity h) (sym s) w))
      (new-cancelled claimed x))
  new-stands (cancellation m l) y s = stands-marked refl (cancelled-now e m)

  still-stands : {q : Place} → (q.identity ≡ p.identity → ⊥) → Stands h q → Stands g q
  still-stands n (stands-marked m c) = stands-marked m (cancelled-still c)
  still-stands {q} n (stands-reported m x l u) =
      stands-reported m (report-before x)
      (λ d y. ⊎_elim (λ (k : p ≡ reported_place q.identity d). absurd (n (sym (ap (λ (v : Place). v.identity) k)))) (λ (w : Reported q.identity d h). l d w) (new-report claimed y))
      (λ y. ⊎_elim (λ (k : p ≡ marked_place q.identity). n (sym (ap (λ (v : Place). v.identity) k))) (λ (w : Cancelled q.identity h). u w) (new-cancelled claimed y))

  new-known : {i : Identity} → Known i g → (p.identity ≡ i) ⊎ Known i h
  new-known {i} (by-report c m) =
      ⊎_elim (λ (k : p ≡ reported_place i c). inl (ap (λ (v : Place). v.identity) k)) (λ (w : Reported i c h). inr (by-report c w)) (new-report claimed m)
  new-known {i} (by-cancellation m) =
      ⊎_elim (λ (k : p ≡ marked_place i). inl (ap (λ (v : Place). v.identity) k)) (λ (w : Cancelled i h). inr (by-cancellation w)) (new-cancelled claimed m)

  new-holder : (i : Identity) → p.identity ≡ i → Holder (post_of b clock r).board.places i
  new-holder i k = record { place = p; on = stepped.placed; its = k }

  new-finds : (i : Identity) → Known i g → clock < i.end → Holder (post_of b clock r).board.places i
  new-finds i k l =
      ⊎_elim (new-holder i)
      (λ (m : Known i h).
      let f = t.finds i m (omega (arith, l, timely)) in
      by (same_identity p.identity i)
      (λ s. new-holder i (same-identity-is p.identity i s))
      (λ s. record {
        place = f.place;
        on =
            stepped.stays f.place f.on (rw f.its l)
            (λ x. clash (same_identity p.identity i) (rw (← x, f.its) (same-identity-refl i)) s);
        its = f.its;
      }))
      (new-known k)

  accepted-tracks : Tracks g (post_of b clock r).board
  unfolding last_clock
  accepted-tracks =
      record {
        sound = post-good b clock r t.sound;
        clock = rw (eq-eqb answer 0 e) (ap (λ (x : Board). x.clock) (accepted-parts b clock r z).board);
        stands =
            λ q o.
            ⊎_elim
            (λ (k : q ≡ p). subst (λ (x : Place). Stands g x) (sym k) (new-stands (asks clock r) claimed refl))
            (λ (k : On b.places q × (clock < q.identity.end) × (q.identity ≡ p.identity → ⊥)). still-stands k.2 (t.stands q k.0))
            (stepped.only q o);
        finds = λ i k l. new-finds i k (rw (eq-eqb answer 0 e) at l);
      }

-- Every history.

posted-tracks : {h : History} {b : Board} (clock : ℕ) (r : Record) → Tracks h b → Tracks (posted clock r (post_of b clock r).answer ∷ h) (post_of b clock r).board
posted-tracks {h} {b} clock r t =
    by (eqb (post_of b clock r).answer 0)
    (λ z. let y = eqb-true (post_of b clock r).answer 0 z in accepted-tracks t clock (post_of b clock r).answer r y y)
    (λ f.
    let n = eqb-false (post_of b clock r).answer 0 f in
    subst (λ (x : Board). Tracks (posted clock r (post_of b clock r).answer ∷ h) x) (sym (refused-unchanged b clock r n)) (tracks_same (refused-same clock (post_of b clock r).answer r h n) t))

pub tracked : {h : History} {b : Board} → Run h b → Tracks h b
tracked (begun m) = subst (λ (x : Board). Tracks [] x) (sym m.allowed) empty-tracks
tracked (then-posted {h} {b} {after} {clock} {answer} {message} run m) =
    subst (λ x. Tracks (posted clock message x.answer ∷ h) x.board) (sym m.allowed) (posted-tracks clock message (tracked run))
tracked (then-listed {h} {b} {time} {answer} {count} {buffer} {after} run m) = tracks_same (listed_same time answer count buffer after h) (tracked run)

-- Demands 1 and 2 hold: what crates grammar, roundtrips, board and listing have proved of the contracts, gathered.
use mathlib.Core.Bool.{false}
use mathlib.Core.List.{List, []}
use mathlib.Core.Logic.{◌↔◌}
use mathlib.Core.Path.{◌≡◌, refl, sym, ap, subst, ◌∙◌}
use Prim.Native.Nat.{ℕ, ◌<◌}
use native.Mathlib.Omega.{arith}
use lib.Dec.{ltb, eqb}
use lib.ListN.{length}
use Rattle.lists.proofs.Choice.{by, determined}
use Rattle.message.specs.declared.Record.{Record}
use Rattle.grammar.specs.Bulletins.{acceptance}
use Rattle.grammar.specs.Reads.{read_of}
use Rattle.grammar.specs.Replies.{Replied}
use Rattle.grammar.specs.Replies.Replied.{unreadable, read_as, refused_with}
use Rattle.pens.specs.Outcomes.{Wrote}
use Rattle.grammar.specs.declared.Reply.{Reply}
use Rattle.grammar.proofs.Theorems as grammar
use Rattle.pens.specs.Outcomes.{wrote}
use Rattle.pens.specs.declared.Written.{Written}
use Rattle.roundtrips.specs.Trips.{MayRead, MayWrite}
use Rattle.roundtrips.proofs.Outcomes.{reads, writes}
use Rattle.roundtrips.proofs.RoundTrips as trips
use Rattle.places.specs.Claims.{claim_of}
use Rattle.places.specs.declared.Place.{Place}
use Rattle.board.specs.Boards.{good_board, empty_board, refusal_at}
use Rattle.board.specs.Posts.{dropped, spot_of, place_at, settled, claimed_on, post_of}
use Rattle.board.specs.declared.Board.{Board}
use Rattle.board.specs.declared.Posted.{Posted}
use Rattle.board.proofs.RefusalLaws.{bad-refusal, good-refusal}
use Rattle.board.proofs.SettleLaws.{spot-36}
use Rattle.board.proofs.PostLaws.{refused-unchanged}
use Rattle.pens.specs.Outcomes.{Wrote}
use Rattle.listing.specs.Answers.{listing_of, list_of}
use Rattle.listing.proofs.ListLaws.{refused-untouched}
use Rattle.promises.specs.Calls.{MayPost, MayList}
use Rattle.promises.specs.Demand1.{Demand1}
use Rattle.promises.specs.Demand2.{Says, Demand2}
use Rattle.promises.proofs.Messages.{Asks, unfit-range, asks}
use Rattle.promises.proofs.Messages.Asks.{unfit, report, cancellation}
use Rattle.promises.proofs.Histories.{may-begin, may-post, may-list, begins-so, posts-so, lists-so}

pub may_read : (bulletin : List ℕ) → MayRead bulletin (read_of bulletin)
may_read b = record { lent = ([], tt); address = (0, 0); allowed = refl }

-- Demand 1.

fixed : (bulletin : List ℕ) (p : Reply) → MayRead bulletin p ↔ Replied bulletin p
fixed b p = (λ m. subst (Replied b) (sym (reads m)) (grammar.read-replied b), λ h. record { lent = ([], tt); address = (0, 0); allowed = grammar.replied-only b p h })

one-writing : (r : Record) (buffer x y : List ℕ) (w v : Written) → MayWrite r buffer w x → MayWrite r buffer v y → (w ≡ v) × (x ≡ y)
one-writing r buffer x y w v m n =
    let same : wrote w x ≡ wrote v y = writes m ∙ sym (writes n) in
    (λ i. record { number = (same i).number; count = (same i).count }, ap (λ (z : Wrote). z.buffer) same)

one-posting : (b x y : Board) (clock : ℕ) (r : Record) (m n : ℕ) → MayPost b clock r m x → MayPost b clock r n y → (m ≡ n) × (x ≡ y)
one-posting b x y clock r m n p q =
    let same : ◌≡◌ {A = Posted} (record { answer = m; board = x }) (record { answer = n; board = y }) = posts-so p ∙ sym (posts-so q) in
    (ap (λ (z : Posted). z.answer) same, ap (λ (z : Posted). z.board) same)

one-listing : (b : Board) (time : ℕ) (buffer x y : List ℕ) (m n j k : ℕ) → MayList b time buffer m j x → MayList b time buffer n k y → (m ≡ n) × (j ≡ k) × (x ≡ y)
one-listing b time buffer x y m n j k p q =
    let same : ◌≡◌ {A = Wrote} (record { number = m; count = j; buffer = x }) (record { number = n; count = k; buffer = y }) = lists-so p ∙ sym (lists-so q) in
    (ap (λ (z : Wrote). z.number) same, ap (λ (z : Wrote). z.count) same, ap (λ (z : Wrote). z.buffer) same)

refused-writing : (r : Record) (buffer after : List ℕ) (w : Written) → MayWrite r buffer w after → (w.number ≡ 0 → ⊥) → (w.count ≡ 0) × (after ≡ buffer)
refused-writing r buffer after w m n = let some : 0 < w.number = omega (arith, n) in trips.refused-untouched m some

refused_post : (b after : Board) (clock : ℕ) (r : Record) (answer : ℕ) → MayPost b clock r answer after → (answer ≡ 0 → ⊥) → after ≡ b
refused_post b after clock r answer m n =
    ap (λ (z : Posted). z.board) (posts-so m) ∙ refused-unchanged b clock r (λ e. n (ap (λ (z : Posted). z.answer) (posts-so m) ∙ e))

refused-listing : (b : Board) (time : ℕ) (buffer after : List ℕ) (answer count : ℕ) → MayList b time buffer answer count after → (answer ≡ 0 → ⊥) → (count ≡ 0) × (after ≡ buffer)
refused-listing b time buffer after answer count m n =
    let same : ◌≡◌ {A = Wrote} (record { number = answer; count = count; buffer = after }) (list_of b time buffer) = lists-so m in
    let k = refused-untouched b time buffer (λ e. n (ap (λ (z : Wrote). z.number) same ∙ e)) in
    (ap (λ (z : Wrote). z.count) same ∙ k.0, ap (λ (z : Wrote). z.buffer) same ∙ k.1)

-- 36: a board that is not good, and nothing else.

asked-36 : {clock n : ℕ} {r : Record} {p : Place} → Asks clock r n p → n ≡ 36 → ⊥
asked-36 {clock} {n} {r} (unfit x) e = omega (arith, e, (unfit-range clock r x).1)
asked-36 (report m l) e = omega (arith, e)
asked-36 (cancellation m l) e = omega (arith, e)

post-36 : (b : Board) (clock : ℕ) (r : Record) → ((post_of b clock r).answer ≡ 36) ↔ (good_board b ≡ false)
unfolding post_of claimed_on settled place_at
post-36 b clock r = (forth, λ f. rw (bad-refusal b clock f))
  where
    forth : (post_of b clock r).answer ≡ 36 → good_board b ≡ false
    forth =
        by (good_board b)
        (λ g. by (eqb (refusal_at b clock) 0)
        (λ t. rw t (by (eqb (claim_of clock r).answer 0)
        (λ u. rw u (by (eqb (spot_of (dropped clock b.places) (claim_of clock r).place).answer 0)
        (λ v. rw v (λ e. absurd (omega (arith, e))))
        (λ v. rw v (λ e. absurd (spot-36 (dropped clock b.places) (claim_of clock r).place e)))))
        (λ u. rw u (λ e. absurd (asked-36 (asks clock r) e)))))
        (λ t. rw t (λ e. absurd (good-refusal b clock g e))))
        (λ f e. f)

list-36 : (b : Board) (time : ℕ) (buffer : List ℕ) → ((list_of b time buffer).number ≡ 36) ↔ (good_board b ≡ false)
unfolding list_of
list-36 b time buffer = (forth, λ f. rw (bad-refusal b time f))
  where
    forth : (list_of b time buffer).number ≡ 36 → good_board b ≡ false
    forth =
        by (good_board b)
        (λ g. by (eqb (refusal_at b time) 0)
        (λ t. rw t (by (ltb (length buffer) (length (listing_of time b.places))) (λ u. rw u (λ e. absurd (omega (arith, e)))) (λ u. rw u (λ e. absurd (omega (arith, e))))))
        (λ t. rw t (λ e. absurd (good-refusal b time g e))))
        (λ f e. f)

pub demand-1 : Demand1
demand-1 =
    record {
      reading = trips.some-reading;
      writing = trips.some-writing;
      beginning = (empty_board, may-begin);
      posting = λ b clock r. ((post_of b clock r).answer, (post_of b clock r).board, may-post b clock r);
      listing = λ b time buffer. ((list_of b time buffer).number, (list_of b time buffer).count, (list_of b time buffer).buffer, may-list b time buffer);
      one-reading = λ b p q m n. determined (reads m) (reads n);
      one-writing = one-writing;
      one-beginning = λ b c m n. determined (begins-so m) (begins-so n);
      one-posting = one-posting;
      one-listing = one-listing;
      fixed = fixed;
      written = λ r buffer after w m. trips.three-outcomes m;
      bad-board-post =
          λ b after clock r answer m.
          let same : answer ≡ (post_of b clock r).answer = ap (λ (z : Posted). z.answer) (posts-so m) in
          (λ e. (post-36 b clock r).0 (sym same ∙ e), λ f. same ∙ (post-36 b clock r).1 f);
      bad-board-list =
          λ b time buffer after answer count m.
          let same : answer ≡ (list_of b time buffer).number = ap (λ (z : Wrote). z.number) (lists-so m) in
          (λ e. (list-36 b time buffer).0 (sym same ∙ e), λ f. same ∙ (list-36 b time buffer).1 f);
      refused-writing = refused-writing;
      refused_post = refused_post;
      refused-listing = refused-listing;
    }

-- Demand 2.

taken : {bulletin : List ℕ} {p : Reply} → Replied bulletin p → p.number ≡ 0 → Says bulletin p.message
taken (unreadable h) e = absurd (omega (arith, h, e))
taken (read_as c g ws) e = record { readable = c; sound = g; words = ws }
taken (refused_with c low high at) e = absurd (omega (arith, low, e))

takes_all : (bulletin : List ℕ) (p : Reply) → MayRead bulletin p → (r : Record) → Says bulletin r → p ≡ acceptance r
takes_all b p m r s = reads m ∙ sym (grammar.replied-only b (acceptance r) (read_as s.readable s.sound s.words))

pub demand-2 : Demand2 MayRead MayWrite
demand-2 =
    record {
      takes-only = λ b p m e. taken ((fixed b p).0 m) e;
      takes_all = takes_all;
      one-meaning = grammar.one-meaning;
      written-then-read = λ r buffer after w p g h m n. trips.written-then-read g h m n;
      read-then-written = λ t buffer after p w c m e h n. trips.read-then-written c m e h n;
      written-canonical = λ r buffer after w m e. trips.written-canonical m e;
      one-canonical =
          λ s t p c d m n e.
          let as_read : p ≡ acceptance p.message = (trips.read-good m e).0 in
          grammar.canonical-text s p.message (sym (reads m) ∙ as_read) c ∙ sym (grammar.canonical-text t p.message (sym (reads n) ∙ as_read) d);
    }

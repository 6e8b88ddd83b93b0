-- Demand 3 holds.
use mathlib.Core.List.Pairwise
use mathlib.Core.List.{List, [], ◌∷◌, ◌++◌}
use mathlib.Core.Logic.{◌↔◌}
use mathlib.Core.Path.{◌≡◌, refl, sym, ap, subst, ◌∙◌}
use Prim.Native.Nat.{ℕ, ◌≤◌, ◌<◌}
use native.Mathlib.Omega.{arith}
use lib.ListN.{length, drop}
use Rattle.lists.proofs.Choice.{determined}
use Rattle.message.specs.declared.Record.{Record}
use Rattle.board.specs.Boards.{empty_board}
use Rattle.board.specs.Posts.{post_of}
use Rattle.board.specs.declared.Board.{Board}
use Rattle.places.specs.declared.Identity.{Identity}
use Rattle.places.specs.declared.Place.{Place}
use Rattle.listing.specs.Order.{Precedes}
use Rattle.listing.specs.Rows.{rows_of}
use Rattle.pens.specs.Outcomes.{Wrote, written}
use Rattle.listing.specs.Answers.{list_of}
use Rattle.listing.proofs.ListLaws.{count_most}
use Rattle.listing.proofs.OrderLaws.{precedes-irreflexive}
use Rattle.promises.specs.Calls.{Call, History, MayBegin, MayPost, MayList, Run, Happens}
use Rattle.promises.specs.Calls.Call.{posted, listed}
use Rattle.promises.specs.Calls.Run.{begun, then-posted, then-listed}
use Rattle.promises.specs.Accepted.{Known}
use Rattle.promises.specs.Refusals.{Concerns}
use Rattle.promises.specs.Answers.{Timely, Full, PostAnswered}
use Rattle.promises.specs.InForce.{IsListing, ListAnswered}
use Rattle.listing.specs.Listings.{listing}
use Rattle.promises.specs.Demand3.{Demand3}
use Rattle.promises.proofs.Messages.{one-identity}
use Rattle.promises.proofs.Tracks.{tracked}
use Rattle.promises.proofs.Room.{lasting-most}
use Rattle.promises.proofs.Answering.{answer-cause, cause-answer, later, only-room, new-full, new-accepted}
use Rattle.promises.proofs.Listing.{in-numbers, one_end, whole-ends, forced-formed, one-listing, rows-listed, listed-most, list-cause}

-- What the contracts allow.

pub may-begin : MayBegin empty_board
may-begin = record { lent = tt; allowed = refl }

pub may-post : (b : Board) (clock : ℕ) (r : Record) → MayPost b clock r (post_of b clock r).answer (post_of b clock r).board
may-post b clock r = record { lent = tt; allowed = refl }

pub may-list : (b : Board) (time : ℕ) (buffer : List ℕ) → MayList b time buffer (list_of b time buffer).number (list_of b time buffer).count (list_of b time buffer).buffer
may-list b time buffer = record { lent = ([], tt); address = (0, 0); name = 0; allowed = refl }

pub begins-so : {b : Board} → MayBegin b → b ≡ empty_board
begins-so m = m.allowed

pub posts-so : {b after : Board} {clock answer : ℕ} {r : Record} → MayPost b clock r answer after → record { answer = answer; board = after } ≡ post_of b clock r
posts-so m = m.allowed

pub lists-so : {b : Board} {time answer count : ℕ} {buffer after : List ℕ} → MayList b time buffer answer count after
    → record { number = answer; count = count; buffer = after } ≡ list_of b time buffer
lists-so m = m.allowed

-- The last call of a history, and the board that it was made of.

record LastPost (h : History) (clock : ℕ) (r : Record) (answer : ℕ) : Type 0 where
  board : Board
  run : Run h board
  says : answer ≡ (post_of board clock r).answer

last-post : {h : History} {b : Board} {clock answer : ℕ} {r : Record} → Run (posted clock r answer ∷ h) b → LastPost h clock r answer
last-post (then-posted {b = b} run m) = record { board = b; run = run; says = ap (λ x. x.answer) (posts-so m) }

record LastList (h : History) (time : ℕ) (buffer : List ℕ) (answer count : ℕ) (after : List ℕ) : Type 0 where
  board : Board
  run : Run h board
  says : record { number = answer; count = count; buffer = after } ≡ list_of board time buffer

last-list : {h : History} {b : Board} {time answer count : ℕ} {buffer after : List ℕ} → Run (listed time buffer answer count after ∷ h) b → LastList h time buffer answer count after
last-list (then-listed {b = b} run m) = record { board = b; run = run; says = lists-so m }

-- one history, one board
one-board : {h : History} {b c : Board} → Run h b → Run h c → b ≡ c
one-board (begun m) (begun n) = determined (begins-so m) (begins-so n)
one-board (then-posted {clock = clock} {message = r} x m) (then-posted y n) =
    ap (λ p. p.board) (posts-so m) ∙ (ap (λ (u : Board). (post_of u clock r).board) (one-board x y) ∙ sym (ap (λ p. p.board) (posts-so n)))
one-board (then-listed x m) (then-listed y n) = one-board x y

-- Posts.

turned-away : (h : History) (clock : ℕ) (r : Record) (answer : ℕ) → Happens (posted clock r answer ∷ h) → (n : ℕ) → (answer ≡ n) ↔ PostAnswered h clock r n
turned-away h clock r answer hp n =
    let l = last-post hp.run in
    let t = tracked l.run in
    (λ e. subst (λ (k : ℕ). PostAnswered h clock r k) (sym l.says ∙ e) (answer-cause t clock r), λ a. l.says ∙ cause-answer t clock r n a)

-- Listings.

pub lists : (h : History) (time : ℕ) (buffer : List ℕ) (answer count : ℕ) (after : List ℕ) → Happens (listed time buffer answer count after ∷ h) → ListAnswered h time buffer answer count after
lists h time buffer answer count after hp =
    let l = last-list hp.run in
    subst (λ (x : Wrote). ListAnswered h time buffer x.number x.count x.buffer) (sym l.says) (list-cause (tracked l.run) time buffer)

module _ {h : History} {time : ℕ} {buffer : List ℕ} where
  exactly : {answer count : ℕ} {after : List ℕ} → ListAnswered h time buffer answer count after → Timely h time → (rows : List Place) → IsListing h time rows
      → length (listing time rows) ≤ length buffer → (answer ≡ 0) × (count ≡ length (listing time rows)) × (after ≡ listing time rows ++ drop (length (listing time rows)) buffer)
  exactly {answer} {count} {after} x y rows i room =
      let same : record { number = answer; count = count; buffer = after } ≡ written (listing time rows) buffer =
      one_end (λ n. forced-formed) (record { number = answer; count = count; buffer = after }) (written (listing time rows) buffer)
      x (whole-ends (λ z. z) y.ranged y.no-earlier i forced-formed room) in
      (ap (λ (u : Wrote). u.number) same, ap (λ (u : Wrote). u.count) same, ap (λ (u : Wrote). u.buffer) same)

earlier : (call : Call) (h : History) → Happens (call ∷ h) → Happens h
earlier (posted clock r answer) h hp = let l = last-post hp.run in record { board = l.board; run = l.run }
earlier (listed time buffer answer count after) h hp = let l = last-list hp.run in record { board = l.board; run = l.run }

one-listing-only : (h : History) (time : ℕ) (buffer : List ℕ) (m n j k : ℕ) (x y : List ℕ) → Happens (listed time buffer m j x ∷ h) → Happens (listed time buffer n k y ∷ h)
    → (m ≡ n) × (j ≡ k) × (x ≡ y)
one-listing-only h time buffer m n j k x y p q =
    let l = last-list p.run in
    let o = last-list q.run in
    let same : ◌≡◌ {A = Wrote} (record { number = m; count = j; buffer = x }) (record { number = n; count = k; buffer = y }) =
    l.says ∙ (ap (λ (b : Board). list_of b time buffer) (one-board l.run o.run) ∙ sym o.says) in
    (ap (λ (u : Wrote). u.number) same, ap (λ (u : Wrote). u.count) same, ap (λ (u : Wrote). u.buffer) same)

at_most : (h : History) (time : ℕ) (buffer : List ℕ) (answer count : ℕ) (after : List ℕ) → Happens (listed time buffer answer count after ∷ h) → count ≤ 1093
at_most h time buffer answer count after hp =
    let l = last-list hp.run in
    let same : count ≡ (list_of l.board time buffer).count = ap (λ (u : Wrote). u.count) l.says in
    omega (arith, same, count_most l.board time buffer)

room-again : (h : History) (clock : ℕ) (r : Record) (answer : ℕ) → Happens (posted clock r answer ∷ h) → Timely h clock → (i : Identity) → Concerns clock r i → clock < i.end
    → (Known i h → ⊥) → ((answer ≡ 23) ↔ Full h clock) × ((answer ≡ 0) ↔ (Full h clock → ⊥))
room-again h clock r answer hp y i c l u =
    let exact = turned-away h clock r answer hp in (
      (λ e. only-room h clock r ((exact 23).0 e), λ f. (exact 23).1 (new-full h clock r y c l u f)),
      (λ e f. absurd (omega (arith, e, (exact 23).1 (new-full h clock r y c l u f))), λ n. (exact 0).1 (new-accepted h clock r y c l u n)),
    )

pub demand-3 : Demand3 Happens
demand-3 =
    record {
      begins = record { board = empty_board; run = begun may-begin };
      post-answered =
          λ h hp clock r.
          ((post_of hp.board clock r).answer, record { board = (post_of hp.board clock r).board; run = then-posted hp.run (may-post hp.board clock r) });
      listing-answered =
          λ h hp time buffer.
          let wrote : Wrote = list_of hp.board time buffer in
          (wrote.number, wrote.count, wrote.buffer, record { board = hp.board; run = then-listed hp.run (may-list hp.board time buffer) });
      earlier = earlier;
      one_answer = λ h clock r m n x y. sym ((turned-away h clock r n y m).1 ((turned-away h clock r m x m).0 refl));
      one-listing = one-listing-only;
      lists-exactly = λ h time buffer answer count after hp. exactly (lists h time buffer answer count after hp);
      lists = lists;
      at-most-1093 = at_most;
      some-rows = λ h hp time l. (rows_of time hp.board.places, rows-listed (tracked hp.run) l);
      one-rows = λ h time xs ys. one-listing;
      none-twice =
          λ h time rows i.
          Pairwise.imp {S = λ (p q : Place). p.identity ≡ q.identity → ⊥} (λ p q o e. precedes-irreflexive (subst (λ (x : Identity). Precedes x q.identity) e o)) (in-numbers forced-formed i);
      never-more =
          λ h hp time l rows i.
          let t = tracked hp.run in
          subst (λ (xs : List Place). length xs ≤ 64) (one-listing (rows-listed t l) i) (listed-most t l);
      ever-later = λ h clock r hp i c m. later h clock r ((turned-away h clock r 0 hp 0).0 refl) i c m;
      turned-away = turned-away;
      one-identity = λ clock r i j. one-identity;
      room-again = room-again;
      room-enough = λ h hp clock l is n k e. lasting-most (tracked hp.run) l is n k e;
    }

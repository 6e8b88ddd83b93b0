-- The reply on every list of bytes: accepted or refused, as `Replied` says without the machine, and in no other way.
use mathlib.Core.Bool.{true}
use mathlib.Core.List.{List}
use mathlib.Core.Logic.{◌↔◌}
use mathlib.Core.Path.{◌≡◌, refl, ap, sym, subst, ◌∙◌}
use Prim.Native.Nat.{ℕ, zero-le}
use native.Mathlib.Omega.{arith}
use lib.Dec.{eqb}
use lib.ListN.{length}
use borrow.Author.Tests.{eq-eqb, ne_eqb, eqb-true, eqb-false}
use Rattle.lists.specs.Lists.{all_of}
use Rattle.lists.proofs.Choice.{by}
use Rattle.words.specs.Check.{check_of}
use Rattle.words.specs.Bytes.{allowed, unequal}
use Rattle.words.specs.Words.{words_at, words_in, word_from, length_at}
use Rattle.words.proofs.NextWord.{word-found}
use Rattle.words.proofs.Refusals.{Readable, check-readable}
use Rattle.words.proofs.Words.{Plains, words-plain}
use Rattle.message.specs.Records.{good}
use Rattle.message.specs.declared.Record.{Record}
use Rattle.grammar.specs.Judged.{message_words, RefusedAt}
use Rattle.grammar.specs.Bulletins.{text_within}
use Rattle.grammar.specs.Reads.{reply_of, read_of}
use Rattle.grammar.specs.Replies.{Replied}
use Rattle.grammar.specs.Replies.Replied.{unreadable, read_as, refused_with}
use Rattle.grammar.specs.Runs.{unfinished, walk, Ran, run_at}
use Rattle.grammar.specs.Runs.Ran.{accepted, refused}
use Rattle.grammar.specs.States.{State}
use Rattle.grammar.specs.States.Move.{goes, done}
use Rattle.grammar.specs.States.State.{at_designator}
use Rattle.grammar.specs.Steps.{step}
use Rattle.grammar.specs.declared.Reply.{Reply}
use Rattle.grammar.proofs.FirstDead.{breaks-refused, there-refused}
use Rattle.grammar.proofs.Invariant.{Ok}
use Rattle.grammar.proofs.Marks.{accepted-good, accepted-words}
use Rattle.grammar.proofs.Moves.{Fine, Next}
use Rattle.grammar.proofs.NumberLaws.{Range, number-range}
use Rattle.grammar.proofs.RunLaws.{Breaks, Settled, words-settle, run-walks, walk-runs}
use Rattle.grammar.proofs.RunLaws.Settled.{breaks}

-- the length is that of the word which the finder of words finds at the refused place
refused-long : (t : List ℕ) (n p long : ℕ) → RefusedAt (words_at t 0) n p long → long ≡ length_at t p
unfolding length_at
refused-long t n p long r =
    sym r.as_long ∙ ap (λ (w : List ℕ). length w) (sym (word-found t 0 zero-le r.before r.word r.rest r.split).word ∙ ap (word_from t) r.there)

module _ (sound : (s : State) (w : List ℕ) → Ok s → Fine s w (step s w)) where
  text-settles : (t : List ℕ) → all_of allowed t ≡ true → all_of unequal t ≡ true → Settled at_designator (words_at t 0) (run_at at_designator t 0)
  unfolding run_at
  text-settles t a f =
      let s : Plains (length t) (words_at t 0) = words-plain t a f in
      rw s.words (words-settle sound s.front (length t) s.plains at_designator tt)

  module _
      (next : (s : State) → Ok s → Next s)
      (forth : (r : Record) → good r ≡ true → walk (goes at_designator) (message_words r) ≡ done r)
    where
      -- accepted exactly as the words of a good record
      pub text-accepted : (t : List ℕ) (r : Record) → run_at at_designator t 0 ≡ accepted r → (good r ≡ true) × (words_in t ≡ message_words r)
      unfolding run_at
      text-accepted t r e =
          let w : walk (goes at_designator) (words_in t) ≡ done r = run-walks at_designator (words_at t 0) r e in
          (accepted-good sound (words_in t) r w, accepted-words sound (words_in t) r w)

      pub text-accepts : (t : List ℕ) (r : Record) → good r ≡ true → words_in t ≡ message_words r → run_at at_designator t 0 ≡ accepted r
      unfolding run_at
      text-accepts t r g e = walk-runs at_designator (words_at t 0) r (ap (walk (goes at_designator)) e ∙ forth r g)

      text-refused : (t : List ℕ) {n p : ℕ} (b : Breaks at_designator (words_at t 0) n p) → RefusedAt (words_at t 0) n p (length_at t p)
      text-refused t {n} {p} b =
          let r : RefusedAt (words_at t 0) n p (length b.word.bytes) = breaks-refused sound next forth (words_at t 0) n p b in
          subst (RefusedAt (words_at t 0) n p) (refused-long t n p (length b.word.bytes) r) r

      ran-replied : (b : List ℕ) → (check_of b).number ≡ 0 → (x : Ran) → run_at at_designator (text_within b) 0 ≡ x → Settled at_designator (words_at (text_within b) 0) x
          → Replied b (reply_of (text_within b) x)
      ran-replied b c (accepted r) e k = read_as c (text-accepted (text_within b) r e).0 (text-accepted (text_within b) r e).1
      ran-replied b c unfinished e k = elim k [ ]
      ran-replied b c (refused n p) e (breaks k) =
          let range : Range n = rw k.numbered (number-range k.state) in
          refused_with c range.low range.high (text-refused (text_within b) k)

      -- where the words can be read, the run is refused exactly there
      pub refused-exactly : (t : List ℕ) → all_of allowed t ≡ true → all_of unequal t ≡ true → (n p : ℕ)
          → (run_at at_designator t 0 ≡ refused n p) ↔ RefusedAt (words_at t 0) n p (length_at t p)
      unfolding run_at
      refused-exactly t a f n p =
          (λ e. go (subst (Settled at_designator (words_at t 0)) e (text-settles t a f)), there-refused sound next forth (words_at t 0) n p (length_at t p))
        where
          go : Settled at_designator (words_at t 0) (refused n p) → RefusedAt (words_at t 0) n p (length_at t p)
          go (breaks b) = text-refused t b

      -- every list of bytes gets such a reply …
      pub replied : (b : List ℕ) → Replied b (read_of b)
      unfolding read_of
      replied b = by (eqb (check_of b).number 0)
          (λ e.
          let c : (check_of b).number ≡ 0 = eqb-true (check_of b).number 0 e in
          let q : Readable b (check_of b).place = check-readable b c in
          rw e (ran-replied b c (run_at at_designator (text_within b) 0) refl (text-settles (text_within b) q.allowed-text q.no-equals)))
          (λ e. rw e (unreadable (let k : (check_of b).number ≡ 0 → ⊥ = eqb-false (check_of b).number 0 e in omega arith)))

      -- … and no other
      pub reply-only : (b : List ℕ) (q : Reply) → Replied b q → q ≡ read_of b
      unfolding read_of run_at
      reply-only b q (unreadable k) = rw (ne_eqb (check_of b).number 0 (λ e. omega arith))
      reply-only b q (read_as {r} c g w) = rw (eq-eqb (check_of b).number 0 c, text-accepts (text_within b) r g w)
      reply-only b q (refused_with {number} {place} {long} c low high r) =
          rw (eq-eqb (check_of b).number 0 c, there-refused sound next forth (words_at (text_within b) 0) number place long r, ← (refused-long (text_within b) number place long r))

-- The next word of a text from a place on: where it begins and ends, and its length; that a word of a text is found again at its own place; and
-- that it is what the bulletin has there.
use mathlib.Core.Bool.{true}
use mathlib.Core.List.{List, [], ◌∷◌, ◌++◌}
use mathlib.Core.Path.{◌≡◌, ap, sym, ◌∙◌}
use Prim.Native.Nat.{ℕ, ◌+◌, ◌-◌, ◌≤◌, ◌<◌}
use native.Mathlib.Omega.{arith}
use lib.Dec.{ltb}
use lib.ListN.{length, get_or, drop, length-drop, get_or-append}
use lib.Seq.{drop-append_seam, take-append-le, drop-append-le}
use borrow.Author.Tests.{lt-ltb, le-ltb, ltb-true, ltb-false, not-true}
use Rattle.lists.specs.Lists.{index_from, all_of, part}
use Rattle.lists.proofs.Choice.{by, clash}
use Rattle.lists.proofs.Lists.{part-long, length_part, all-at, from-again, from-none, from-within}
use Rattle.words.specs.Bytes.{blank, solid, equals, unequal}
use Rattle.words.specs.declared.Span.{Span}
use Rattle.words.specs.Words.{Word, equals_sign, words_at, span_of, word_from, length_at}
use Rattle.words.proofs.Words.{next-moves, next_word, last-start, last_word}

pub text-or-equals : {A : Type 0} (t : List ℕ) (p : ℕ) → ((span_of t p).start < length t → A) → (length t ≤ (span_of t p).start → A) → A
text-or-equals t p f g = by (ltb (span_of t p).start (length t)) (λ e. f (ltb-true _ _ e)) (λ e. g (ltb-false _ _ e))

-- Where it begins and ends.

pub span-starts : (t : List ℕ) (p : ℕ) → p ≤ length t → (span_of t p).start ≤ length t
unfolding span_of
span-starts t p h = from-within solid t p h

pub span-ordered : (t : List ℕ) (p : ℕ) → (span_of t p).start ≤ (span_of t p).end
unfolding span_of
span-ordered t p = omega arith

pub span-within : (t : List ℕ) (p : ℕ) → p ≤ length t → (span_of t p).end ≤ length t
unfolding span_of
span-within t p h = from-within blank t (index_from solid p t) (from-within solid t p h)

-- a word of the text has bytes, and the `=` has none there
pub span-moves : (t : List ℕ) (p : ℕ) → (span_of t p).start < length t → (span_of t p).start < (span_of t p).end
unfolding span_of
span-moves t p h = next-moves t p h

span-empty : (t : List ℕ) (p : ℕ) → length t ≤ (span_of t p).start → (span_of t p).end ≡ (span_of t p).start
unfolding span_of
span-empty t p h = from-none blank t (index_from solid p t) h

pub from-text : (t : List ℕ) (p : ℕ) → (span_of t p).start < length t → word_from t p ≡ part (span_of t p).start (span_of t p).end t
from-text t p h = rw (lt-ltb _ _ h)

pub from-equals : (t : List ℕ) (p : ℕ) → length t ≤ (span_of t p).start → word_from t p ≡ equals_sign
from-equals t p h = rw (le-ltb _ _ h)

-- Its length.

text-length : (t : List ℕ) (p : ℕ) → (span_of t p).start < length t → length_at t p ≡ (span_of t p).end - (span_of t p).start
unfolding length_at span_of
text-length t p h =
    ap length (from-text t p h)
    ∙ length_part (span_of t p).start (span_of t p).end t (span-ordered t p) (from-within blank t (index_from solid p t) (omega arith))

module _ (t : List ℕ) (p : ℕ) {r : Span} (e : r ≡ span_of t p) where
  pub length-ordered : r.start ≤ r.end
  length-ordered = rw e (span-ordered t p)

  pub length-equals : r.start ≡ r.end → 1 ≡ length_at t p
  unfolding length_at
  length-equals k = text-or-equals t p (λ h. absurd (omega (arith, rw (← e) at (span-moves t p h)))) (λ h. rw (from-equals t p h))

  pub length-word : (r.start ≡ r.end → ⊥) → r.end - r.start ≡ length_at t p
  length-word k = text-or-equals t p (λ h. rw e (sym (text-length t p h))) (λ h. absurd (k (rw e (sym (span-empty t p h)))))

-- what `length_at` answers
pub ruleset lengths = (length-ordered, length-equals, length-word)

-- A word of a text is found again at its own place.

pub span-again : (t : List ℕ) (p : ℕ) → span_of t (span_of t p).start ≡ span_of t p
unfolding span_of
span-again t p = ap (λ (i : ℕ). record { start = i; end = index_from blank i t }) (from-again solid t p 0)

-- the next word, and then the words behind it
pub next-is : (t : List ℕ) (p : ℕ) → (span_of t p).start < length t → words_at t p ≡ record { place = (span_of t p).start; bytes = word_from t p } ∷ words_at t (span_of t p).end
unfolding span_of
next-is t p h =
    next_word t p h ∙ ap (λ (w : List ℕ). record { place = (span_of t p).start; bytes = w } ∷ words_at t (span_of t p).end) (sym (from-text t p h))

-- … none behind the `=`
pub last-is : (t : List ℕ) (p : ℕ) → p ≤ length t → length t ≤ (span_of t p).start → words_at t p ≡ record { place = (span_of t p).start; bytes = word_from t p } ∷ []
unfolding span_of
last-is t p k h = rw (from-equals t p h, last-start t p k h) (last_word t p k h)

pub record Split (t : List ℕ) (p : ℕ) : Type 0 where
  pub rest : List Word
  pub words : words_at t p ≡ record { place = (span_of t p).start; bytes = word_from t p } ∷ rest

pub split : (t : List ℕ) (p : ℕ) → p ≤ length t → Split t p
split t p k = text-or-equals t p (λ h. record { rest = words_at t (span_of t p).end; words = next-is t p h }) (λ h. record { rest = []; words = last-is t p k h })

pub record Found (t : List ℕ) (w : Word) : Type 0 where
  pub within : w.place ≤ length t
  pub starts : (span_of t w.place).start ≡ w.place
  pub word : word_from t w.place ≡ w.bytes

first_found : (t : List ℕ) (p : ℕ) (w : Word) → p ≤ length t → record { place = (span_of t p).start; bytes = word_from t p } ≡ w → Found t w
first_found t p w k e =
    rw (← e) (record { within = span-starts t p k; starts = ap (λ (s : Span). s.start) (span-again t p); word = rw (span-again t p) })

head-same : {v w : Word} {vs ws : List Word} → v ∷ vs ≡ w ∷ ws → v ≡ w
head-same e = cc

tail-same : {v w : Word} {vs ws : List Word} → v ∷ vs ≡ w ∷ ws → vs ≡ ws
tail-same e = cc

pub word-found : (t : List ℕ) (p : ℕ) → p ≤ length t → (before : List Word) (w : Word) (rest : List Word) → words_at t p ≡ before ++ (w ∷ rest) → Found t w
word-found t p k [] w rest e = first_found t p w k (head-same (sym (split t p k).words ∙ e))
word-found t p k (v ∷ vs) w rest e = text-or-equals t p
    (λ h. word-found t (span_of t p).end (span-within t p k) vs w rest (tail-same (sym (next-is t p h) ∙ e)))
    (λ h. absurd (none-there vs (tail-same (sym (last-is t p k h) ∙ e))))
  where
    none-there : (us : List Word) → [] ≡ us ++ (w ∷ rest) → ⊥
    none-there [] q = let z : ◌≡◌ {A = ℕ} 0 1 = cc in omega arith
    none-there (u ∷ us) q = let z : ◌≡◌ {A = ℕ} 0 1 = cc in omega arith

-- What the bulletin has at a word's place: the text t, the `=` and s.

text-bytes : (t z : List ℕ) (p q : ℕ) → p ≤ q → q ≤ length t → part p (p + length (part p q t)) (t ++ z) ≡ part p q t
text-bytes t z p q h k =
    rw (length_part p q t h k, part-long p (q - p) (t ++ z), drop-append-le p t z (omega arith))
    (take-append-le (q - p) (drop p t) z (rw length-drop (omega arith)))

equals-bytes : (t s : List ℕ) → part (length t) (length t + 1) (t ++ (61 ∷ s)) ≡ equals_sign
equals-bytes t s = rw (part-long (length t) 1 (t ++ (61 ∷ s)), drop-append_seam t (61 ∷ s))

module _ (t s : List ℕ) (w : Word) (f : Found t w) where
  -- as many bytes as the word has are the word
  pub word_bytes : part w.place (w.place + length w.bytes) (t ++ (61 ∷ s)) ≡ w.bytes
  word_bytes = text-or-equals t w.place
      (λ h.
      let is : w.bytes ≡ part w.place (span_of t w.place).end t =
      sym f.word ∙ (from-text t w.place h ∙ ap (λ (i : ℕ). part i (span_of t w.place).end t) f.starts) in
      rw is (text-bytes t (61 ∷ s) w.place (span_of t w.place).end (omega (arith, span-moves t w.place h, f.starts)) (span-within t w.place f.within)))
      (λ h.
      let at : w.place ≡ length t = omega (arith, f.within, f.starts) in
      let is : w.bytes ≡ equals_sign = sym f.word ∙ from-equals t w.place h in
      rw (is, at) (equals-bytes t s))

  -- and where the text has no `=`, the word at a `=` is that `=`
  pub word-equals : all_of unequal t ≡ true → equals (get_or (t ++ (61 ∷ s)) w.place 0) ≡ true → length w.bytes ≡ 1
  word-equals free y = text-or-equals t w.place
      (λ h.
      let inside : w.place < length t = omega (arith, f.starts) in
      clash (equals (get_or t w.place 0)) (rw (get_or-append t (61 ∷ s) 0 w.place inside) at y) (not-true (equals (get_or t w.place 0)) (all-at unequal t 0 free w.place inside)))
      (λ h. ap length (sym f.word ∙ from-equals t w.place h))

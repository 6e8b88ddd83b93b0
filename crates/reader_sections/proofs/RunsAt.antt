-- One step of a run from a place of the text: the word there moves the machine on, or is refused at its place.
use mathlib.Core.Bool.{Bool, true, false}
use mathlib.Core.List.{List, []}
use mathlib.Core.Path.{◌≡◌, ap, sym, ◌∙◌}
use Prim.Native.Nat.{ℕ, ◌≤◌, ◌<◌}
use native.Mathlib.Omega.{arith}
use lib.ListN.{length}
use Rattle.lists.specs.Lists.{part}
use Rattle.lists.proofs.Choice.{clash}
use Rattle.lists.proofs.Lists.{part-empty}
use Rattle.words.specs.declared.Span.{Span}
use Rattle.words.specs.Words.{equals_sign, span_of, word_from}
use Rattle.words.proofs.NextWord.{text-or-equals, span-ordered, span-within, from-text, from-equals, span-again, split, next-is, last-is}
use Rattle.words.proofs.Words.{words-skip}
use Rattle.message.specs.declared.Record.{Record}
use Rattle.grammar.specs.Numbers.{number_of}
use Rattle.grammar.specs.Runs.Ran.{accepted, refused}
use Rattle.grammar.specs.Runs.{run, run_at}
use Rattle.grammar.specs.States.Move.{goes, done, dead}
use Rattle.grammar.specs.States.{State}
use Rattle.grammar.specs.Steps.{step}
use Rattle.reader_sections.specs.Standing.{WordAt}

pub word-at-within : (t : List ℕ) (at : ℕ) (r : Span) → r ≡ span_of t at → at ≤ length t → WordAt t at r.start r.end
word-at-within t at r e h =
    record { starts = ap (λ (s : Span). s.start) e; ends = ap (λ (s : Span). s.end) e; ordered = rw e (span-ordered t at); within = rw e (span-within t at h) }

-- What the text has of the word: the word itself, or nothing of the `=`.

-- a test that neither the empty word nor the `=` passes
pub record OnlyWords (f : List ℕ → Bool) : Type 0 where
  pub empty : f [] ≡ false
  pub sign : f equals_sign ≡ false

module _ {t : List ℕ} {at start end : ℕ} (h : at ≤ length t) (w : WordAt t at start end) where
  part-is : start < length t → part start end t ≡ word_from t at
  part-is k = rw (from-text t at (rw w.starts at k), w.starts, w.ends)

  -- the `=`
  part_none : length t ≤ start → part start end t ≡ []
  part_none k = part-empty start end t (omega (arith, w.ordered, w.within))

  -- what cannot tell the `=` from no word sees the word
  pub part-tells : {A : Type 0} (f : List ℕ → A) → f [] ≡ f equals_sign → f (part start end t) ≡ f (word_from t at)
  part-tells f blind = text-or-equals t at
      (λ k. ap f (part-is (rw w.starts k)))
      (λ k. ap f (part_none (rw w.starts k)) ∙ (blind ∙ ap f (sym (from-equals t at k))))

  module _ {f : List ℕ → Bool} (o : OnlyWords f) where
    pub part-test : f (part start end t) ≡ f (word_from t at)
    part-test = part-tells f (o.empty ∙ sym o.sign)

    -- a word that passes such a test is one of the text
    pub in-text : f (word_from t at) ≡ true → start < length t
    in-text y = text-or-equals t at (λ k. rw w.starts k) (λ k. clash (f equals_sign) (ap f (sym (from-equals t at k)) ∙ y) o.sign)

    pub part-passes : f (part start end t) ≡ true → part start end t ≡ word_from t at
    part-passes y = part-is (in-text (sym part-test ∙ y))

-- the word is refused at its place
pub dead-at : (s : State) (t : List ℕ) (at : ℕ) → at ≤ length t → step s (word_from t at) ≡ dead → run_at s t at ≡ refused (number_of s) (span_of t at).start
unfolding run_at run
dead-at s t at h k = rw ((split t at h).words, k)

-- two states that do the same with the word, and refuse it by the same number
pub same_at : (s s' : State) (t : List ℕ) (at : ℕ) → at ≤ length t → step s (word_from t at) ≡ step s' (word_from t at) → number_of s ≡ number_of s' → run_at s t at ≡ run_at s' t at
unfolding run_at run
same_at s s' t at h k n = rw ((split t at h).words, k, n)

-- a word that is not the `=` moves the machine on
pub goes_at : (s next : State) (t : List ℕ) (at : ℕ) → (span_of t at).start < length t → step s (word_from t at) ≡ goes next → run_at s t at ≡ run_at next t (span_of t at).end
unfolding run_at run
goes_at s next t at h k = rw (next-is t at h, k)

-- the `=` ends the message
pub done_at : (s : State) (r : Record) (t : List ℕ) (at : ℕ) → at ≤ length t → length t ≤ (span_of t at).start → step s equals_sign ≡ done r → run_at s t at ≡ accepted r
unfolding run_at run
done_at s r t at h l k = rw (last-is t at h l, from-equals t at l, k)

-- a `=` inside the text has words behind it, and is refused
pub undone-at : (s : State) (r : Record) (t : List ℕ) (at : ℕ) → at ≤ length t → (span_of t at).start < length t → step s (word_from t at) ≡ done r
    → run_at s t at ≡ refused (number_of s) (span_of t at).start
unfolding run_at run
undone-at s r t at g h k = rw (next-is t at h, k, (split t (span_of t at).end (span-within t at g)).words)

-- the word found again from where it begins
pub word-again : {t : List ℕ} {at start end : ℕ} → WordAt t at start end → WordAt t start start end
word-again {t} {at} {start} {end} w =
    let e : span_of t start ≡ span_of t at = ap (span_of t) w.starts ∙ span-again t at in
    record { starts = w.starts ∙ sym (ap (λ (s : Span). s.start) e); ends = w.ends ∙ sym (ap (λ (s : Span). s.end) e); ordered = w.ordered; within = w.within }

-- blanks before the next word do nothing
pub skip : (s : State) (t : List ℕ) (at : ℕ) → run_at s t at ≡ run_at s t (span_of t at).start
unfolding run_at span_of
skip s t at = ap (run s) (words-skip t at)

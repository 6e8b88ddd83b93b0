-- One word at a step, said as an equation of replies.
use mathlib.Core.Bool.{Bool, true, false}
use mathlib.Core.List.{List, [], ◌∷◌}
use mathlib.Core.Path.{◌≡◌, refl, ap, sym, ◌∙◌}
use Prim.Native.Nat.{ℕ, ◌≤◌, ◌<◌}
use native.Mathlib.Omega.{arith}
use lib.Dec.{eqb}
use lib.ListN.{length}
use borrow.Author.Tests.{eq-eqb, ne_eqb}
use Rattle.std.specs.Prelude.{Option, None, Some, Result, Ok, Err}
use Rattle.lists.specs.Choice.{found}
use Rattle.lists.specs.Lists.{same}
use Rattle.lists.proofs.Choice.{by, both-false-right}
use Rattle.lists.proofs.Found.{some-good, some-is, none-bad}
use Rattle.words.specs.Words.{equals_sign, span_of}
use Rattle.words.proofs.NextWord.{text-or-equals, span-moves}
use Rattle.figures.specs.Codes.{code_of, FixedWord}
use Rattle.figures.proofs.CodeLaws.{same_code}
use Rattle.message.specs.declared.Record.{Record}
use Rattle.grammar.specs.Bulletins.{acceptance, refusal}
use Rattle.grammar.specs.Numbers.{number_of}
use Rattle.grammar.specs.Reads.{reply_of}
use Rattle.grammar.specs.Runs.Ran.{refused}
use Rattle.grammar.specs.Runs.{run_at}
use Rattle.grammar.specs.States.Move.{goes, dead}
use Rattle.grammar.specs.States.State.{at_end}
use Rattle.grammar.specs.States.{State}
use Rattle.grammar.specs.Steps.{goes_if, step}
use Rattle.reader_sections.specs.declared.parts.Part.{Part}
use Rattle.reader_sections.specs.declared.step.Refused.{Refused}
use Rattle.reader_sections.specs.declared.step.Step.{Step}
use Rattle.reader_sections.specs.Parts.{part_number}
use Rattle.reader_sections.specs.Steps.{next_word, word_on, Next, Refuses, Required, Fixed, Long, Perhaps, Ended, reply_on, Reaches, Ends, Leads, Moves}
use Rattle.reader_sections.proofs.RunsAt.{OnlyWords, part-test, part-passes, in-text, dead-at, same_at, goes_at, done_at, undone-at, skip}

pub standing : (p : Step) → p.place ≤ length p.text.now
standing p = omega (arith, p.stands.ordered, p.stands.within)

-- A word of the text moves the machine on, …
pub reaches : {s next : State} {from to : Step} → Next from to → from.place < length from.text.now → step s (next_word from) ≡ goes next → Reaches s from next to
reaches {s} {next} {from} {to} n inside k =
    let t : List ℕ = from.text.now in
    record {
      says = ap (reply_of t) (goes_at s next t from.place (rw from.stands.starts at inside) k ∙ (ap (run_at next t) (sym from.stands.ends) ∙ (skip next t from.end ∙ ap (run_at next t) (sym n.is.placed))))
          ∙ ap (λ (u : List ℕ). reply_of u (run_at next u to.place)) (sym n.is.text);
    }

-- … stays for another state, …
pub stays : {s other : State} {from : Step} → number_of s ≡ number_of other → step s (next_word from) ≡ step other (next_word from) → Reaches s from other from
stays {s} {other} {from} n k = record { says = ap (reply_of from.text.now) (same_at s other from.text.now from.place (standing from) k n) }

-- … or is refused
pub ends : {s : State} {part : Part} {from : Step} {e : Refused} → Refuses part from e → number_of s ≡ part_number part → step s (next_word from) ≡ dead → Ends s from e
ends {s} {part} {from} {e} r n k =
    let t : List ℕ = from.text.now in
    record {
      says = ap (reply_of t) (dead-at s t from.place (standing from) k ∙ ap (refused (number_of s)) (sym from.stands.starts))
          ∙ λ i. refusal ((n ∙ ap part_number (sym r.kept)) i) (sym r.at i) (sym r.long i);
    }

-- A required word of a kind: what the machine does with it in a state.
pub record Accepts {A : Type 0} (s : State) (part : Part) (read : List ℕ → A) (good : A → Bool) (next : A → State) (w : List ℕ) : Type 0 where
  pub does : step s w ≡ goes_if (good (read w)) (next (read w))
  pub number : number_of s ≡ part_number part
  pub only : OnlyWords (λ (x : List ℕ). good (read x))

module _ {A : Type 0} {s : State} {part : Part} {read : List ℕ → A} {good : A → Bool} {next : A → State} (from : Step)
    (a : Accepts s part read good next (next_word from)) {w : List ℕ} {value : Option A} (e : w ≡ word_on from) (is : value ≡ found good (read w)) where
  test : good (read (word_on from)) ≡ good (read (next_word from))
  test = part-test (standing from) from.stands a.only

  pub took : {v : A} {to : Step} → Required part from value (Ok (v, to)) → Reaches s from (next v) to
  took {v} {to} r =
      let some : Some v ≡ found good (read w) = sym r.is.0 ∙ is in
      let yes : good (read (word_on from)) ≡ true = rw e at (some-good good some) in
      let word : word_on from ≡ next_word from = part-passes (standing from) from.stands a.only yes in
      let v-is : v ≡ read (next_word from) = some-is good some ∙ ap read (e ∙ word) in
      reaches r.is.1 (in-text (standing from) from.stands a.only (sym test ∙ yes)) (a.does ∙ rw (sym test ∙ yes, v-is))

  pub missed : {e : Refused} → Required part from value (Err e) → Ends s from e
  missed r = let no : good (read (word_on from)) ≡ false = rw e at (none-bad good (sym r.is.0 ∙ is)) in ends r.is.1 a.number (a.does ∙ rw (sym test ∙ no))

-- neither the empty word nor the `=` is a fixed one
only-fixed : {k : List ℕ} {m : ℕ} → FixedWord k m → OnlyWords (λ (w : List ℕ). same w k)
only-fixed x = record { empty = x.some; sign = x.no_sign }

-- A fixed word is told by its code.
module _ {k : List ℕ} {m : ℕ} (x : FixedWord k m) (from : Step) where
  tells : eqb (code_of (word_on from)) m ≡ same (next_word from) k
  tells = rw (sym x.has) (same_code (word_on from) k x.is-short) ∙ part-test (standing from) from.stands (only-fixed x)

  pub code-yes : code_of (word_on from) ≡ m → same (next_word from) k ≡ true
  code-yes y = sym tells ∙ eq-eqb _ m y

  pub code-no : (code_of (word_on from) ≡ m → ⊥) → same (next_word from) k ≡ false
  code-no y = sym tells ∙ ne_eqb _ m y

  pub with-word : {s next : State} {to : Step} → code_of (word_on from) ≡ m → Next from to → (same (next_word from) k ≡ true → step s (next_word from) ≡ goes next)
      → Reaches s from next to
  with-word y n i = reaches n (in-text (standing from) from.stands (only-fixed x) (code-yes y)) (i (code-yes y))

-- A required fixed word.
pub record AcceptsFixed (s : State) (part : Part) (code : ℕ) (next : State) (w : List ℕ) : Type 0 where
  pub word : List ℕ
  pub fixed : FixedWord word code
  pub does : step s w ≡ goes_if (same w word) next
  pub number : number_of s ≡ part_number part

module _ {s : State} {part : Part} {code : ℕ} {next : State} {from : Step} (a : AcceptsFixed s part code next (next_word from)) where
  pub took-fixed : {to : Step} → Fixed part code from (Ok to) → Reaches s from next to
  took-fixed r = with-word a.fixed from r.is.0 r.is.1 (λ y. a.does ∙ rw y)

  pub missed-fixed : {e : Refused} → Fixed part code from (Err e) → Ends s from e
  missed-fixed r = ends r.is.1 a.number (a.does ∙ rw (code-no a.fixed from r.is.0))

-- … of more than seven bytes: neither the empty word nor the `=` is one
only-long : (k : List ℕ) → 1 < length k → OnlyWords (λ (w : List ℕ). same w k)
unfolding same
only-long [] h = absurd (omega arith)
only-long (x ∷ []) h = absurd (omega arith)
only-long (x ∷ y ∷ k) h = record { empty = refl; sign = both-false-right (eqb 61 x) refl }

pub record AcceptsLong (s : State) (part : Part) (wanted : List ℕ) (next : State) (w : List ℕ) : Type 0 where
  pub does : step s w ≡ goes_if (same w wanted) next
  pub number : number_of s ≡ part_number part
  pub some : 1 < length wanted

module _ {s : State} {part : Part} {wanted : List ℕ} {next : State} (from : Step) (a : AcceptsLong s part wanted next (next_word from)) where
  test-long : same (word_on from) wanted ≡ same (next_word from) wanted
  test-long = part-test (standing from) from.stands (only-long wanted a.some)

  pub took-long : {to : Step} → Long part wanted from (Ok to) → Reaches s from next to
  took-long r =
      let yes : same (next_word from) wanted ≡ true = sym test-long ∙ r.is.0 in
      reaches r.is.1 (in-text (standing from) from.stands (only-long wanted a.some) yes) (a.does ∙ rw yes)

  pub missed-long : {e : Refused} → Long part wanted from (Err e) → Ends s from e
  missed-long r = ends r.is.1 a.number (a.does ∙ rw (sym test-long ∙ r.is.0))

-- Perhaps a fixed word.
module _ {k : List ℕ} {m : ℕ} (x : FixedWord k m) (from : Step) where
  pub given : {s next : State} {to : Step} → Perhaps m from (Some to) → (same (next_word from) k ≡ true → step s (next_word from) ≡ goes next) → Reaches s from next to
  given r i = with-word x from r.is.0 r.is.1 i

  pub left_out : {s other : State} → Perhaps m from None → number_of s ≡ number_of other
      → (same (next_word from) k ≡ false → step s (next_word from) ≡ step other (next_word from)) → Reaches s from other from
  left_out r n i = stays n (i (code-no x from r.is))

-- … which is not there
pub without : {k : List ℕ} {m : ℕ} → FixedWord k m → (from : Step) → Perhaps m from None → same (next_word from) k ≡ false
without x from r = code-no x from r.is

-- a fixed word is no other one
pub code-other : {k l : List ℕ} {m n : ℕ} → FixedWord k m → FixedWord l n → (from : Step) {to : Step} → Perhaps m from (Some to) → (m ≡ n → ⊥) → same (next_word from) l ≡ false
code-other x y from r apart = code-no y from (λ e. apart (sym r.is.0 ∙ e))

-- A word of a kind that may be left out: it is taken, or stays.
module _ {A : Type 0} (read : List ℕ → A) (good : A → Bool) (from : Step) (o : OnlyWords (λ (x : List ℕ). good (read x))) {w : List ℕ} (e : w ≡ word_on from) where
  pub taken : {v : A} {to : Step} {s next : State} → Some v ≡ found good (read w) → Next from to
      → (good (read (next_word from)) ≡ true → step s (next_word from) ≡ goes next) → Reaches s from next to
  taken is n i =
      let yes : good (read (next_word from)) ≡ true = sym (part-test (standing from) from.stands o) ∙ (ap (λ (x : List ℕ). good (read x)) (sym e) ∙ some-good good is) in
      reaches n (in-text (standing from) from.stands o yes) (i yes)

  pub value-is : {v : A} → Some v ≡ found good (read w) → v ≡ read (next_word from)
  value-is is =
      let yes : good (read (word_on from)) ≡ true = ap (λ (x : List ℕ). good (read x)) (sym e) ∙ some-good good is in
      some-is good is ∙ ap read (e ∙ part-passes (standing from) from.stands o yes)

  pub passed-over : {s other : State} → None ≡ found good (read w) → number_of s ≡ number_of other
      → (good (read (next_word from)) ≡ false → step s (next_word from) ≡ step other (next_word from)) → Reaches s from other from
  passed-over is n i = stays n (i (sym (part-test (standing from) from.stands o) ∙ (ap (λ (x : List ℕ). good (read x)) (sym e) ∙ none-bad good is)))

-- whatever comes of a required word
pub required-leads : {A : Type 0} {s : State} {judged : Part} {read : List ℕ → A} {good : A → Bool} {next : A → State} (from : Step) → Accepts s judged read good next (next_word from)
    → {w : List ℕ} {value : Option A} → w ≡ word_on from → value ≡ found good (read w) → {r : Result (A × Step) Refused} → Required judged from value r → Leads s from r next
required-leads {A} {s} {judged} {read} {good} {next} from a {w} {value} e is {r} = go r
  where
    go : (r : Result (A × Step) Refused) → Required judged from value r → Leads s from r next
    go (Ok v) q = record { says = took from a e is q }
    go (Err x) q = record { says = missed from a e is q }

pub long-moves : {s : State} {judged : Part} {wanted : List ℕ} {next : State} (from : Step) → AcceptsLong s judged wanted next (next_word from) → {r : Result Step Refused} → Long judged wanted from r
    → Moves s from r next
long-moves {s} {judged} {wanted} {next} from a {r} = go r
  where
    go : (r : Result Step Refused) → Long judged wanted from r → Moves s from r next
    go (Ok p) q = record { says = took-long from a q }
    go (Err x) q = record { says = missed-long from a q }

-- The `=`.
module _ {from : Step} (m : Record) where
  pub end-yes : {u : Unit} → Ended from (Ok u) → reply_on (at_end m) from ≡ acceptance m
  unfolding step same
  end-yes r =
      let t : List ℕ = from.text.now in
      ap (reply_of t) (text-or-equals t from.place
      (λ k. absurd (omega (arith, span-moves t from.place k, from.stands.starts, from.stands.ends, r.is)))
      (λ k. done_at (at_end m) m t from.place (standing from) k refl))

  pub end-no : {e : Refused} → Ended from (Err e) → Ends (at_end m) from e
  unfolding step
  end-no r =
      let t : List ℕ = from.text.now in
      let other : from.place ≡ from.end → ⊥ = r.is.0 in
      let inside : (span_of t from.place).start < length t = omega (arith, from.stands.ordered, from.stands.within, from.stands.starts) in
      record {
        says = ap (reply_of t)
            (by (same (next_word from) equals_sign) (λ y. undone-at (at_end m) m t from.place (standing from) inside (rw y)) (λ y. dead-at (at_end m) t from.place (standing from) (rw y))
            ∙ ap (refused 12) (sym from.stands.starts))
            ∙ λ i. refusal (ap part_number (sym r.is.1.kept) i) (sym r.is.1.at i) (sym r.is.1.long i);
      }

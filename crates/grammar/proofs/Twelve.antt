-- Theorem d, its first half: 12 exactly where the words before also make an accepted message with the `=`.
use mathlib.Core.Bool.{true}
use mathlib.Core.List.{List, [], ◌∷◌, ◌++◌}
use mathlib.Core.Logic.{◌↔◌}
use mathlib.Core.Path.{◌≡◌, refl, ap, sym, subst, ◌∙◌}
use Prim.Native.Nat.{ℕ, ◌≤◌}
use native.Mathlib.Omega.{arith}
use Rattle.words.specs.Words.{Word, equals_sign, bytes_of}
use Rattle.message.specs.Records.{good}
use Rattle.message.specs.Words.{words_of}
use Rattle.message.specs.declared.Record.{Record}
use Rattle.grammar.specs.Judged.{message_words, Whole, ComesNext, RefusedAt}
use Rattle.grammar.specs.Numbers.{number_of}
use Rattle.grammar.specs.Parts.{marked, parts_of}
use Rattle.grammar.specs.Runs.{walk}
use Rattle.grammar.specs.States.{State}
use Rattle.grammar.specs.States.Move.{goes, done}
use Rattle.grammar.specs.States.State.{at_designator}
use Rattle.grammar.specs.Steps.{step}
use Rattle.grammar.proofs.Invariant.{Ok}
use Rattle.grammar.proofs.Marks.{unmarked, parts-words}
use Rattle.grammar.proofs.Moves.{Fine, Next}
use Rattle.grammar.proofs.NumberLaws.{number-range}
use Rattle.grammar.proofs.PartLaws.{other_last, words-parts}
use Rattle.grammar.proofs.FirstDead.{before-refused, numbers-one}

-- what is in front of a last word
front_same : (xs ys : List (List ℕ)) (x y : List ℕ) → xs ++ (x ∷ []) ≡ ys ++ (y ∷ []) → xs ≡ ys
front_same [] [] x y e = refl
front_same [] (z ∷ []) x y e = absurd (let q : ◌≡◌ {A = List (List ℕ)} [] (y ∷ []) = cc in let k : ◌≡◌ {A = ℕ} 0 1 = cc in omega arith)
front_same [] (z ∷ v ∷ ys) x y e = absurd (let q : ◌≡◌ {A = List (List ℕ)} [] (v ∷ (ys ++ (y ∷ []))) = cc in let k : ◌≡◌ {A = ℕ} 0 1 = cc in omega arith)
front_same (z ∷ []) [] x y e = absurd (let q : ◌≡◌ {A = List (List ℕ)} [] (x ∷ []) = cc in let k : ◌≡◌ {A = ℕ} 0 1 = cc in omega arith)
front_same (z ∷ v ∷ xs) [] x y e = absurd (let q : ◌≡◌ {A = List (List ℕ)} [] (v ∷ (xs ++ (x ∷ []))) = cc in let k : ◌≡◌ {A = ℕ} 0 1 = cc in omega arith)
front_same (z ∷ xs) (t ∷ ys) x y e =
    let tail : xs ++ (x ∷ []) ≡ ys ++ (y ∷ []) = cc in
    let head : z ≡ t = cc in
    rw (head, front_same xs ys x y tail)

-- the part 12 comes next exactly after all words of a message
pub twelve-whole : (ws : List (List ℕ)) → ComesNext ws 12 → Whole (ws ++ (equals_sign ∷ []))
twelve-whole ws c =
    let last : (c.before ≡ parts_of c.message) × (marked 12 c.word ≡ marked 12 equals_sign) =
    other_last (marked 12 c.word) refl c.before c.rest (parts_of c.message) (marked 12 equals_sign) (words-parts c.message) c.parts
    in
    let words : ws ≡ words_of c.message = sym c.words ∙ (ap unmarked last.0 ∙ parts-words c.message) in
    record { message = c.message; is_good = c.is_good; words = ap (λ (vs : List (List ℕ)). vs ++ (equals_sign ∷ [])) words }

pub whole-twelve : (ws : List (List ℕ)) → Whole (ws ++ (equals_sign ∷ [])) → ComesNext ws 12
whole-twelve ws w = record {
  message = w.message;
  is_good = w.is_good;
  before = parts_of w.message;
  word = equals_sign;
  rest = [];
  parts = refl;
  words = parts-words w.message ∙ sym (front_same ws (words_of w.message) equals_sign equals_sign w.words);
}

module _
    (sound : (s : State) (w : List ℕ) → Ok s → Fine s w (step s w))
    (next : (s : State) → Ok s → Next s)
    (forth : (r : Record) → good r ≡ true → walk (goes at_designator) (message_words r) ≡ done r)
  where
    -- 12 "goes before 4 to 11": exactly where the `=` would also be accepted
    pub twelve-exactly : (ws : List Word) (n p long : ℕ) (r : RefusedAt ws n p long) → (n ≡ 12) ↔ Whole (bytes_of r.before ++ (equals_sign ∷ []))
    twelve-exactly ws n p long r =
        let seen : List (List ℕ) = bytes_of r.before in (
          λ e. twelve-whole seen (subst (ComesNext seen) e r.judged.comes),
          λ w.
              before-refused sound next forth ws n p long r
              (λ s e.
              let same : n ≡ number_of s = numbers-one sound next forth seen n s e r.judged in
              let up : 12 ≤ n = r.judged.greatest 12 (whole-twelve seen w) in
              let down : number_of s ≤ 12 = (number-range s).high in
              omega arith),
        )

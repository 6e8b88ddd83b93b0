-- Plain bytes, those that a word may have: allowed, no blank and no `=`. Figures and letters are; and a word of them is a run without blanks.
use mathlib.Core.Bool.{true, false, not}
use mathlib.Core.List.{List, ◌∷◌}
use mathlib.Core.Path.{◌≡◌}
use Prim.Native.Nat.{ℕ, ◌≤◌, ◌<◌, zero-le, suc-le-suc}
use native.Mathlib.Omega.{arith}
use lib.Dec.{eqb}
use lib.ListN.{length}
use borrow.Author.Tests.{ne_eqb}
use Rattle.lists.specs.Choice.{both, either}
use Rattle.lists.specs.Lists.{all_of}
use Rattle.lists.proofs.Choice.{both_left, both_right, both_true, either_left, either-right}
use Rattle.lists.proofs.Lists.{all-weaken}
use Rattle.words.specs.Bytes.{letter, digit, blank, solid, punctuation, bracket, equals, allowed, plain}
use Rattle.words.specs.Words.{solid_word, plain_word}
use Rattle.words.proofs.Ranges.{between-low, between-high}
use Rattle.words.proofs.Words.{run-of, run-some, run-all}
use Rattle.figures.specs.Figures.{in_figures}
use Rattle.figures.specs.Letters.{in_letters, good_letters}
use Rattle.figures.proofs.FigureLaws.{in_figures-digits}
use Rattle.figures.proofs.LetterLaws.{in_letters-letters}

-- an allowed byte above the space, other than `=`
plain-above : (x : ℕ) → allowed x ≡ true → 32 < x → (x ≡ 61 → ⊥) → plain x ≡ true
plain-above x a h e =
    let space : eqb x 32 ≡ false = ne_eqb x 32 (λ q. omega arith) in
    let cr : eqb x 13 ≡ false = ne_eqb x 13 (λ q. omega arith) in
    let lf : eqb x 10 ≡ false = ne_eqb x 10 (λ q. omega arith) in
    let other : eqb x 61 ≡ false = ne_eqb x 61 e in
    rw (a, space, cr, lf, other)

pub digit-plain : (x : ℕ) → digit x ≡ true → plain x ≡ true
unfolding allowed
digit-plain x d =
    let low : 48 ≤ x = between-low 48 57 x d in
    let high : x ≤ 57 = between-high 48 57 x d in
    plain-above x (either-right (letter x) (either_left (either (blank x) (either (punctuation x) (either (bracket x) (equals x)))) d)) (omega arith) (λ q. omega arith)

pub letter-plain : (x : ℕ) → letter x ≡ true → plain x ≡ true
unfolding allowed
letter-plain x l =
    let low : 65 ≤ x = between-low 65 90 x l in
    plain-above x (either_left (either (digit x) (either (blank x) (either (punctuation x) (either (bracket x) (equals x))))) l) (omega arith) (λ q. omega arith)

pub digits-plain : (w : List ℕ) → all_of digit w ≡ true → all_of plain w ≡ true
digits-plain w t = all-weaken digit plain digit-plain w t

pub letters-plain : (w : List ℕ) → all_of letter w ≡ true → all_of plain w ≡ true
letters-plain w t = all-weaken letter plain letter-plain w t

pub in_figures-plain : (k n : ℕ) → all_of plain (in_figures k n) ≡ true
in_figures-plain k n = digits-plain (in_figures k n) (in_figures-digits k n)

pub in_letters-plain : (k n : ℕ) → good_letters k n ≡ true → all_of plain (in_letters k n) ≡ true
in_letters-plain k n g = letters-plain (in_letters k n) (in_letters-letters k n g)

pub byte-solid : (x : ℕ) → plain x ≡ true → solid x ≡ true
byte-solid x e = both_left (solid x) (not (equals x)) (both_right (allowed x) (both (solid x) (not (equals x))) e)

-- A word that is not empty and has only plain bytes.

pub run-plain : (w : List ℕ) → 0 < length w → all_of plain w ≡ true → plain_word w ≡ true
run-plain = run-of plain

-- one plain byte, and plain bytes after it
pub plain-cons : (x : ℕ) (w : List ℕ) → plain x ≡ true → all_of plain w ≡ true → plain_word (x ∷ w) ≡ true
unfolding all_of
plain-cons x w p t = run-plain (x ∷ w) (suc-le-suc zero-le) (both_true p t)

pub plain-solid : (w : List ℕ) → plain_word w ≡ true → solid_word w ≡ true
plain-solid w t = run-of solid w (run-some plain w t) (all-weaken plain solid byte-solid w (run-all plain w t))

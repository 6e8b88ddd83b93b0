-- Numbers of a script: where its figures end, what std's `parse` reads of them, and the number at the front of what is left.
use Rattle.std.proofs.Common.{◌≡◌, refl, sym, ap, ◌∙◌, rules, arith, ℕ, suc, ◌+◌, ◌*◌, ◌≤◌, length, Bool, true, false, cond, List, [], ◌∷◌, Some, None, Result, Ok, Err, unwrap_or, not, take, drop, position}
use Rattle.std.specs.List.{position_or_len}
use Rattle.std.specs.Prelude.{ltb, eqb}
use Rattle.std.specs.Result.{result_ok}
use Rattle.std.specs.Str.{IsUtf8}
use Rattle.std.specs.Str.Parse.{ParsesUnsigned}
use Rattle.std.proofs.lemmas.Fmt.{IsAscii-from_digits}
use Rattle.std.proofs.lemmas.Grind.{common_steps}
use Rattle.std.proofs.lemmas.List.{length-take-le}
use Rattle.std.proofs.lemmas.Str.{IsUtf8-from_ascii}
use Rattle.std.proofs.lemmas.Str.Parse.{IsDigitsTest, IsNumeralModel, FoldsDigits, numerals_by_fold, parse_digits}
use borrow.Author.Tests.{ltb-false, eqb-false, le-ltb, ne_eqb}
use Rattle.lists.specs.Choice.{pick}
use Rattle.lists.specs.Lists.{index_of, all_of, part}
use Rattle.lists.proofs.Lists.{from_zero, index-within, index-clear, all-not-not}
use Rattle.words.specs.Bytes.{digit}
use Rattle.replay.specs.Numbers.{greatest, no_figure, figures_end, value_from, no_number, a_number, number_to, number_at, value_in, front_number, behind_number}

-- std's place of the first element that passes a test is ours
same-place : (f : ℕ → Bool) (xs : List ℕ) → position_or_len f xs ≡ index_of f xs
unfolding index_of
same-place f [] = refl
same-place f (x ∷ xs) =
    let rest = same-place f xs in
    elim (f x) as (λ b. cond (not b) (1 + position_or_len f xs) 0 ≡ pick b 0 (suc (index_of f xs))) [ true ↦ refl | false ↦ omega (arith, rest) ]

place : (f : ℕ → Bool) (xs : List ℕ) → unwrap_or (position f xs) (length xs) ≡ index_of f xs
place f xs = go (ltb (position_or_len f xs) (length xs)) refl
  where
    go : (b : Bool) → ltb (position_or_len f xs) (length xs) ≡ b → unwrap_or (cond b (Some (position_or_len f xs)) None) (length xs) ≡ index_of f xs
    go true e = same-place f xs
    go false e = omega (arith, same-place f xs, ltb-false _ _ e, index-within f xs)

pub found : (s : List ℕ) → unwrap_or (position no_figure s) (length s) ≡ figures_end s 0
found s = place no_figure s ∙ sym (from_zero no_figure s)

-- figures and their value as std's `parse` has them
tells : IsDigitsTest (λ (w : List ℕ). all_of digit w ≡ true)
unfolding all_of
tells = search rules

folds : FoldsDigits value_from
unfolding value_from
folds = record { empty = λ n. refl; more = λ n c cs h. ap (λ (k : ℕ). value_from (n * 10 + k) cs) (omega (arith, h)) }

own : IsNumeralModel (λ (w : List ℕ). all_of digit w ≡ true) (value_from 0)
own = numerals_by_fold _ tells value_from folds

pub text : (w : List ℕ) → all_of digit w ≡ true → IsUtf8 w
text w h = IsUtf8-from_ascii w (IsAscii-from_digits w (own.to w h))

pub parsed : {E : Type 0} (w : List ℕ) (r : Result ℕ E) → ParsesUnsigned 32 10 w r → all_of digit w ≡ true → result_ok r ≡ value_in w
parsed {E} w (Ok x) p h =
    let q = parse_digits own {E = E} 32 w (Ok x) p h in
    let full : length w ≡ 0 → ⊥ = λ e. omega (arith, e, q.0.0) in
    let small : value_from 0 w ≤ greatest = omega (arith, q.0.1) in
    rw (ne_eqb (length w) 0 full, le-ltb greatest (value_from 0 w) small) (ap Some q.1)
parsed {E} w (Err e) p h = go (eqb (length w) 0) refl (ltb greatest (value_from 0 w)) refl
  where
    go : (a : Bool) → eqb (length w) 0 ≡ a → (b : Bool) → ltb greatest (value_from 0 w) ≡ b → None ≡ pick a None (pick b None (Some (value_from 0 w)))
    go true _ b _ = refl
    go false _ true _ = refl
    go false n false m = absurd (parse_digits own {E = E} 32 w (Err e) p h (omega (arith, eqb-false _ _ n), omega (arith, ltb-false _ _ m)))

-- the number at the front
module _ (s : List ℕ) where
  within : figures_end s 0 ≤ length s
  within = omega (arith, from_zero no_figure s, index-within no_figure s)

  front : part 0 (figures_end s 0) s ≡ take (figures_end s 0) s
  front = grind (arith, common_steps)

  pub clear : all_of digit (take (figures_end s 0) s) ≡ true
  clear = rw (from_zero no_figure s) (sym (all-not-not digit (take (index_of no_figure s) s)) ∙ index-clear no_figure s)

shown : (e v : ℕ) → pick (number_to 0 e v).formed (Some (number_to 0 e v).value) None ≡ pick (eqb e 0) None (pick (ltb greatest v) None (Some v))
unfolding number_to
shown e v = go (eqb e 0) (ltb greatest v)
  where
    go : (a b : Bool) → pick (pick a (no_number e) (pick b (no_number e) (a_number v e))).formed (Some (pick a (no_number e) (pick b (no_number e) (a_number v e))).value) None ≡ pick a None (pick b None (Some v))
    go true b = refl
    go false true = refl
    go false false = refl

pub after : (e v : ℕ) → (number_to 0 e v).next ≡ e
unfolding number_to
after e v = go (eqb e 0) (ltb greatest v)
  where
    go : (a b : Bool) → (pick a (no_number e) (pick b (no_number e) (a_number v e))).next ≡ e
    go true b = refl
    go false true = refl
    go false false = refl

-- the figures at the front have the value of the number there, and what is behind them is behind it
pub fronted : (s w : List ℕ) → w ≡ take (figures_end s 0) s → value_in w ≡ front_number s
unfolding number_at
fronted s w h =
    let long : length w ≡ figures_end s 0 = ap length h ∙ length-take-le (figures_end s 0) s (within s) in
    let all : w ≡ part 0 (figures_end s 0) s = h ∙ sym (front s) in
    ap (λ (n : ℕ). pick (eqb n 0) None (pick (ltb greatest (value_from 0 w)) None (Some (value_from 0 w)))) long
    ∙ (sym (shown (figures_end s 0) (value_from 0 w))
    ∙ ap (λ (l : List ℕ). pick (number_to 0 (figures_end s 0) (value_from 0 l)).formed (Some (number_to 0 (figures_end s 0) (value_from 0 l)).value) None) all)

pub behind : (s : List ℕ) → drop (figures_end s 0) s ≡ behind_number s
unfolding number_at
behind s = ap (λ (n : ℕ). drop n s) (sym (after (figures_end s 0) (value_from 0 (part 0 (figures_end s 0) s))))

-- Our words and the library's are the same: so what a chain of iterators, or a comparison of slices and arrays, promises is what our definitions say.
use mathlib.Core.Bool.{Bool, true, false, ◌&&◌, ◌||◌}
use mathlib.Core.List.{List, [], ◌∷◌}
use mathlib.Core.Path.{◌≡◌, refl, ap, sym, ◌∙◌}
use Prim.Native.Nat.{ℕ}
use native.Mathlib.Omega.{arith}
use lib.Dec.{eqb, ltb}
use lib.ListN.{length, replicate}
use lib.Pointwise.{pointwise, pointwise_long}
use borrow.Author.Tests.{eqb-true, eqb-false, ltb-false}
use Rattle.std.specs.List.{list_all, position_or_len}
use Rattle.std.specs.Option.{unwrap_or}
use Rattle.std.specs.Prelude.{position, Some, None}
use Rattle.std.proofs.lemmas.List.{length-replicate}
use Rattle.lists.specs.Choice.{both, either, found}
use Rattle.lists.specs.Lists.{index_of, all_of, same}
use Rattle.lists.proofs.Choice.{by}
use Rattle.lists.proofs.Lists.{index-within}

-- The connectives.

pub both-and : (a b : Bool) → both a b ≡ (a && b)
both-and true b = refl
both-and false b = refl

pub and_both : {a b c d : Bool} → a ≡ c → b ≡ d → (a && b) ≡ both c d
and_both {a} {b} p q = sym (both-and a b) ∙ rw (p, q)

pub either_or : (a b : Bool) → either a b ≡ (a || b)
either_or true b = refl
either_or false b = refl

-- Finding.

module _ {A : Type 0} (f : A → Bool) where
  pub index-position : (xs : List A) → index_of f xs ≡ position_or_len f xs
  unfolding index_of
  index-position [] = refl
  index-position (x ∷ xs) = by (f x) (λ e. rw e) (λ e. rw (e, index-position xs) (omega arith))

  -- what `position` finds is the place of the first that passes, where one does, …
  pub position-found : (xs : List A) → position f xs ≡ found (λ i. ltb i (length xs)) (index_of f xs)
  position-found xs = rw (index-position xs) (by (ltb (position_or_len f xs) (length xs)) (λ e. rw e) (λ e. rw e))

  -- … and the length stands in where none does
  pub position-or-length : (xs : List A) → unwrap_or (position f xs) (length xs) ≡ index_of f xs
  position-or-length xs =
      rw (position-found xs) (by (ltb (index_of f xs) (length xs))
      (λ t. rw t refl)
      (λ t. rw t (omega (arith, ltb-false (index_of f xs) (length xs) t, index-within f xs))))

  -- Testing all.
  pub all-list : (xs : List A) → all_of f xs ≡ list_all f xs
  unfolding all_of
  all-list [] = refl
  all-list (x ∷ xs) = both-and (f x) (all_of f xs) ∙ ap (λ (b : Bool). f x && b) (all-list xs)

-- Sameness: `==` of two slices of numbers, …

pub same-pointwise : (xs ys : List ℕ) → same xs ys ≡ pointwise eqb xs ys
unfolding same
same-pointwise [] [] = refl
same-pointwise [] (y ∷ ys) = refl
same-pointwise (x ∷ xs) [] = refl
same-pointwise (x ∷ xs) (y ∷ ys) = both-and (eqb x y) (same xs ys) ∙ ap (λ (b : Bool). eqb x y && b) (same-pointwise xs ys)

-- for a function that compares slices, to name in its attribute
pub ruleset sames = (same-pointwise)

-- … and of an array and of one value so many times

module _ {A : Type 0} (e : A → A → Bool) (f : A → Bool) (d : A) (is : (x : A) → e x d ≡ f x) where
  each : (xs : List A) → pointwise e xs (replicate (length xs) d) ≡ all_of f xs
  unfolding all_of
  each [] = refl
  each (x ∷ xs) = and_both (is x) (each xs)

  pub pointwise_all : (xs : List A) (n : ℕ) → pointwise e xs (replicate n d) ≡ both (eqb (length xs) n) (all_of f xs)
  pointwise_all xs n =
      by (eqb (length xs) n)
      (λ t. let long : length xs ≡ n = eqb-true (length xs) n t in rw (t, ← long) (each xs))
      (λ z. rw z (by (pointwise e xs (replicate n d))
      (λ t. absurd (eqb-false (length xs) n z (pointwise_long e xs (replicate n d) t ∙ length-replicate n d)))
      (λ k. k)))

-- The parts of a list that was put together, a list put together from its parts, and a word with a mark at a place.
use mathlib.Core.Bool.{Bool, true}
use mathlib.Core.List.{List, ◌∷◌, ◌++◌}
use mathlib.Core.Path.{◌≡◌, sym, ◌∙◌}
use Prim.Native.Nat.{ℕ, suc, ◌+◌, ◌-◌, ◌≤◌, ◌<◌}
use native.Mathlib.Nat.{le_refl}
use native.Mathlib.Omega.{arith}
use lib.Dec.{eqb}
use lib.ListN.{length, drop, get_or, length-drop, take-append-drop}
use lib.Seq.{take_all, take_at, drop-cons, drop-drop, drop-append-add, get_or-append-add, take-add}
use borrow.Author.Tests.{eqb-true, eq-eqb}
use Rattle.lists.specs.Choice.{both}
use Rattle.lists.specs.Lists.{part}
use Rattle.lists.proofs.Choice.{both_left, both_right, both_true}

module _ {A : Type 0} where
  pub part-whole : (xs : List A) (n : ℕ) → length xs ≡ n → part 0 n xs ≡ xs
  part-whole xs n l = take_all (n - 0) xs (omega arith)

  pub part-here : (xs ys : List A) (n : ℕ) → length xs ≡ n → part 0 n (xs ++ ys) ≡ xs
  part-here xs ys n l = take_at xs ys (n - 0) (omega arith)

  pub part-past : (xs ys : List A) (n a e : ℕ) → length xs ≡ n → part (n + a) (n + e) (xs ++ ys) ≡ part a e ys
  part-past xs ys n a e l =
      let k : n + e - (n + a) ≡ e - a = omega arith in
      rw (k, ← l, drop-append-add xs ys a)

  pub at-past : (xs ys : List A) (n i : ℕ) (d : A) → length xs ≡ n → get_or (xs ++ ys) (n + i) d ≡ get_or ys i d
  at-past xs ys n i d l = rw (← l) (get_or-append-add xs ys i d)

  pub part_join : (xs : List A) (a m e : ℕ) → a ≤ m → m ≤ e → part a m xs ++ part m e xs ≡ part a e xs
  part_join xs a m e h k =
      let long : e - a ≡ (m - a) + (e - m) = omega arith in
      let on : a + (m - a) ≡ m = omega arith in
      rw (long, take-add (m - a) (e - m) (drop a xs), drop-drop (m - a) a xs, on)

  pub part-cons : (xs : List A) (i e : ℕ) (d x : A) → i < e → i < length xs → get_or xs i d ≡ x → x ∷ part (suc i) e xs ≡ part i e xs
  part-cons xs i e d x h k t =
      let long : e - i ≡ suc (e - suc i) = omega arith in
      rw (long, drop-cons xs i d k, t)

  -- a part that goes to the end is what is left there
  pub part-rest : (xs : List A) (a : ℕ) → part a (length xs) xs ≡ drop a xs
  part-rest xs a = take_all (length xs - a) (drop a xs) (rw length-drop (le_refl (length xs - a)))

  -- A list taken apart from the left. What stands from place a on: the part up to place e and what stands from there on, or one
  -- element and what stands after it, or the part up to the end.
  pub drop-part : (xs : List A) (a e : ℕ) → a ≤ e → {x y : List A} → part a e xs ≡ x → drop e xs ≡ y → drop a xs ≡ x ++ y
  drop-part xs a e h p q =
      let there : a + (e - a) ≡ e = omega arith in
      sym (take-append-drop (e - a) (drop a xs)) ∙ rw (drop-drop (e - a) a xs, there, p, q)

  pub drop-one : (xs : List A) (a : ℕ) (d : A) → a < length xs → {x : A} {y : List A} → get_or xs a d ≡ x → drop (suc a) xs ≡ y → drop a xs ≡ x ∷ y
  drop-one xs a d h p q = drop-cons xs a d h ∙ rw (p, q)

  pub drop-end : (xs : List A) (a e : ℕ) → length xs ≡ e → {x : List A} → part a e xs ≡ x → drop a xs ≡ x
  drop-end xs a e n p = sym (part-rest xs a) ∙ rw (n, p)

-- the word has n bytes, and x is the one at place i
abbrev pub marked : ℕ → ℕ → ℕ → List ℕ → Bool
marked n i x w = both (eqb (length w) n) (eqb (get_or w i 0) x)

module _ (n i x : ℕ) (w : List ℕ) where
  pub marked-true : length w ≡ n → get_or w i 0 ≡ x → marked n i x w ≡ true
  marked-true l e = both_true (eq-eqb (length w) n l) (eq-eqb (get_or w i 0) x e)

  pub marked-long : marked n i x w ≡ true → length w ≡ n
  marked-long t = eqb-true (length w) n (both_left (eqb (length w) n) (eqb (get_or w i 0) x) t)

  pub marked-at : marked n i x w ≡ true → get_or w i 0 ≡ x
  marked-at t = eqb-true (get_or w i 0) x (both_right (eqb (length w) n) (eqb (get_or w i 0) x) t)

-- Changing every element of a list in place, one after the other, as a loop over an array does. And the length of a list by
-- that of what it is mapped to.
use mathlib.Core.List.{List, ◌++◌, map, append-nil}
use mathlib.Core.Path.{◌≡◌, sym, ◌∙◌}
use Prim.Native.Nat.{ℕ, suc, ◌+◌, ◌≤◌, ◌<◌}
use native.Mathlib.Numerals.{add-one}
use native.Mathlib.Nat.{le_refl}
use lib.ListN.{length, take, drop, get_or, set, length-map, drop_of_length-le}
use lib.Seq.{drop-cons, take-suc-set, drop-set-lt, append_snoc, take_all}

-- the elements before place i are changed, and those from it on are not yet
module _ {A : Type 0} (f : A → A) (d : A) where
  pub swept-one : (xs : List A) (i : ℕ) {y : A} → i < length xs → y ≡ f (get_or xs i d)
      → take (i + 1) (set xs i y) ++ map f (drop (i + 1) (set xs i y)) ≡ take i xs ++ map f (drop i xs)
  swept-one xs i {y} h e =
      rw (add-one, e, take-suc-set xs i (f (get_or xs i d)) h, drop-set-lt (suc i) xs i (f (get_or xs i d)) (le_refl (suc i)), drop-cons xs i d h)
      (append_snoc (take i xs) (f (get_or xs i d)) (map f (drop (suc i) xs)))

  pub swept_all : (xs : List A) (i : ℕ) → length xs ≤ i → take i xs ++ map f (drop i xs) ≡ xs
  swept_all xs i h = rw (take_all i xs h, drop_of_length-le xs h) (append-nil xs)

-- a list has the length of its map: so the length of an array of structs that is a field of a struct is known
pub length-mapped : (X Y : Type 0) (f : X → Y) (l : List X) (n : ℕ) → length (map f l) ≡ n → length l ≡ n
length-mapped X Y f l n e = sym (length-map l f) ∙ e

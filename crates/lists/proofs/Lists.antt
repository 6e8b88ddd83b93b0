-- The laws of searching and testing a list, in the shapes that loops ask for.
use mathlib.Core.Bool.{Bool, true, false, not, not-not}
use mathlib.Core.List.{List, [], ◌∷◌, ◌++◌, map, append-nil, Memᴰ}
use mathlib.Core.Path.{◌≡◌, refl, ap, ◌∙◌}
use Prim.Native.Nat.{ℕ, zero, suc, ◌+◌, ◌-◌, ◌≤◌, ◌<◌, zero-le, suc-le-suc}
use native.Mathlib.Nat.{zero-add, suc-add, add-zero, not-suc-le-zero, le_of_suc-le-suc}
use native.Mathlib.Numerals.{add-one}
use native.Mathlib.Omega.{arith}
use lib.Dec.{eqb, ltb}
use lib.ListN.{length, take, drop, get_or, set, length-drop, drop_of_length-le}
use lib.Seq.{drop-cons, take_all, length-take-le, get_or-drop}
use borrow.Author.Tests.{eq-eqb, eqb-true, ltb-true, ltb-false}
use Rattle.lists.specs.Choice.{pick, both}
use Rattle.lists.specs.Lists.{index_of, index_from, all_of, part, same}
use Rattle.lists.proofs.Choice.{by, clash, both_left, both_right, both_true}

-- Finding. A loop that looks at place i keeps `index_from f start xs ≡ index_from f i xs`.

index-head : {A : Type 0} (f : A → Bool) (xs : List A) (i : ℕ) (d : A) → i < length xs → f (get_or xs i d) ≡ true → index_of f (drop i xs) ≡ 0
unfolding index_of
index-head f xs i d h e = rw (drop-cons xs i d h, e)

index-tail : {A : Type 0} (f : A → Bool) (xs : List A) (i : ℕ) (d : A) → i < length xs → f (get_or xs i d) ≡ false → index_of f (drop i xs) ≡ suc (index_of f (drop (i + 1) xs))
unfolding index_of
index-tail f xs i d h e = rw (add-one, drop-cons xs i d h, e)

index-nil : {A : Type 0} (f : A → Bool) (xs : List A) (i : ℕ) → length xs ≤ i → index_of f (drop i xs) ≡ 0
unfolding index_of
index-nil f xs i h = rw (drop_of_length-le xs h)

pub from-here : {A : Type 0} (f : A → Bool) (xs : List A) (i : ℕ) (d : A) → i < length xs → f (get_or xs i d) ≡ true → index_from f i xs ≡ i
from-here f xs i d h e = omega (arith, index-head f xs i d h e)

pub from_past : {A : Type 0} (f : A → Bool) (xs : List A) (i : ℕ) (d : A) → i < length xs → f (get_or xs i d) ≡ false → index_from f i xs ≡ index_from f (i + 1) xs
from_past f xs i d h e = omega (arith, index-tail f xs i d h e)

pub from-none : {A : Type 0} (f : A → Bool) (xs : List A) (i : ℕ) → length xs ≤ i → index_from f i xs ≡ i
from-none f xs i h = omega (arith, index-nil f xs i h)

pub from_zero : {A : Type 0} (f : A → Bool) (xs : List A) → index_from f 0 xs ≡ index_of f xs
from_zero f xs = zero-add _

pub index-within : {A : Type 0} (f : A → Bool) (xs : List A) → index_of f xs ≤ length xs
unfolding index_of
index-within f [] = zero-le
index-within f (x ∷ xs) = go (f x) (index-within f xs)
  where
    go : (b : Bool) → index_of f xs ≤ length xs → pick b zero (suc (index_of f xs)) ≤ suc (length xs)
    go true h = zero-le
    go false h = suc-le-suc h

pub from-within : {A : Type 0} (f : A → Bool) (xs : List A) (i : ℕ) → i ≤ length xs → index_from f i xs ≤ length xs
from-within f xs i h = omega (arith, index-within f (drop i xs), length-drop i xs)

-- what is found passes the test, and nothing before it does
pub index-found : {A : Type 0} (f : A → Bool) (xs : List A) (d : A) → index_of f xs < length xs → f (get_or xs (index_of f xs) d) ≡ true
unfolding index_of
index-found f [] d h = absurd (not-suc-le-zero h)
index-found f (x ∷ xs) d h = by (f x) (λ e. rw e e) (λ e. rw e (index-found f xs d (le_of_suc-le-suc (rw e at h))))

pub from_found : {A : Type 0} (f : A → Bool) (xs : List A) (i : ℕ) (d : A) → index_from f i xs < length xs → f (get_or xs (index_from f i xs) d) ≡ true
from_found f xs i d h = rw get_or-drop at (index-found f (drop i xs) d (omega (arith, length-drop i xs)))

-- and is found again from its own place
pub from-again : {A : Type 0} (f : A → Bool) (xs : List A) (i : ℕ) (d : A) → index_from f (index_from f i xs) xs ≡ index_from f i xs
from-again f xs i d =
    by (ltb (index_from f i xs) (length xs))
    (λ e. from-here f xs (index_from f i xs) d (ltb-true _ _ e) (from_found f xs i d (ltb-true _ _ e)))
    (λ e. from-none f xs (index_from f i xs) (ltb-false _ _ e))

pub index-before : {A : Type 0} (f : A → Bool) (xs : List A) (d : A) (k : ℕ) → k < index_of f xs → f (get_or xs k d) ≡ false
unfolding index_of
index-before f [] d k h = absurd (not-suc-le-zero h)
index-before f (x ∷ xs) d zero h = by (f x) (λ e. absurd (not-suc-le-zero (rw e at h))) (λ e. e)
index-before f (x ∷ xs) d (suc k) h = by (f x) (λ e. absurd (not-suc-le-zero (rw e at h))) (λ e. index-before f xs d k (le_of_suc-le-suc (rw e at h)))

-- nothing before what is found passes, all of it at once; and a list of which nothing passes is passed over as a whole
pub index-clear : {A : Type 0} (f : A → Bool) (xs : List A) → all_of (λ (x : A). not (f x)) (take (index_of f xs) xs) ≡ true
unfolding index_of all_of
index-clear f [] = refl
index-clear f (x ∷ xs) = by (f x) (λ e. rw e) (λ e. rw (e, e) (index-clear f xs))

pub index-past : {A : Type 0} (f : A → Bool) (xs ys : List A) → all_of (λ (x : A). not (f x)) xs ≡ true → index_of f (xs ++ ys) ≡ length xs + index_of f ys
unfolding index_of all_of
index-past f [] ys t = rw zero-add
index-past f (x ∷ xs) ys t = by (f x)
    (λ e. clash false (rw e at t) refl)
    (λ e. rw (e, index-past f xs ys (rw e at t), suc-add))

pub index-none : {A : Type 0} (f : A → Bool) (xs : List A) → all_of (λ (x : A). not (f x)) xs ≡ true → index_of f xs ≡ length xs
unfolding index_of
index-none f xs t = rw (append-nil, add-zero) at (index-past f xs [] t)

pub index-all : {A : Type 0} (f : A → Bool) (xs : List A) → length xs ≤ index_of f xs → all_of (λ (x : A). not (f x)) xs ≡ true
index-all f xs h = rw (take_all (index_of f xs) xs h) at (index-clear f xs)

-- Testing all. A loop that has passed place i keeps `all_of f xs ≡ all_of f (drop i xs)`.

pub all_past : {A : Type 0} (f : A → Bool) (xs : List A) (i : ℕ) (d : A) → i < length xs → f (get_or xs i d) ≡ true → all_of f (drop i xs) ≡ all_of f (drop (i + 1) xs)
unfolding all_of
all_past f xs i d h e = rw (add-one, drop-cons xs i d h, e)

pub all-stop : {A : Type 0} (f : A → Bool) (xs : List A) (i : ℕ) (d : A) → i < length xs → f (get_or xs i d) ≡ false → all_of f (drop i xs) ≡ false
unfolding all_of
all-stop f xs i d h e = rw (drop-cons xs i d h, e)

pub all_end : {A : Type 0} (f : A → Bool) (xs : List A) (i : ℕ) → length xs ≤ i → all_of f (drop i xs) ≡ true
unfolding all_of
all_end f xs i h = rw (drop_of_length-le xs h)

pub all-at : {A : Type 0} (f : A → Bool) (xs : List A) (d : A) → all_of f xs ≡ true → (i : ℕ) → i < length xs → f (get_or xs i d) ≡ true
unfolding all_of
all-at f [] d t i h = absurd (not-suc-le-zero h)
all-at f (x ∷ xs) d t zero h = both_left (f x) (all_of f xs) t
all-at f (x ∷ xs) d t (suc i) h = all-at f xs d (both_right (f x) (all_of f xs) t) i (le_of_suc-le-suc h)

-- where each element passes by its place, all pass; and each that is in the list passes where all do
pub all-by : {A : Type 0} (f : A → Bool) (xs : List A) (d : A) → ((j : ℕ) → j < length xs → f (get_or xs j d) ≡ true) → all_of f xs ≡ true
unfolding all_of
all-by f [] d h = refl
all-by f (x ∷ xs) d h = both_true (h 0 (suc-le-suc zero-le)) (all-by f xs d (λ j k. h (suc j) (suc-le-suc k)))

pub all_among : {A : Type 0} (f : A → Bool) (xs : List A) (q : A) → all_of f xs ≡ true → Memᴰ q xs → f q ≡ true
unfolding all_of
all_among {A = A} f [] q h m = elim m [ ]
all_among f (x ∷ xs) q h (Memᴰ.head e) = ap f e ∙ both_left (f x) (all_of f xs) h
all_among f (x ∷ xs) q h (Memᴰ.tail m) = all_among f xs q (both_right (f x) (all_of f xs) h) m

pub all_set : {A : Type 0} (f : A → Bool) (xs : List A) (k : ℕ) (y : A) → all_of f xs ≡ true → f y ≡ true → all_of f (set xs k y) ≡ true
unfolding all_of
all_set f [] k y t e = refl
all_set f (x ∷ xs) zero y t e = both_true e (both_right (f x) (all_of f xs) t)
all_set f (x ∷ xs) (suc k) y t e = both_true (both_left (f x) (all_of f xs) t) (all_set f xs k y (both_right (f x) (all_of f xs) t) e)

pub all_append : {A : Type 0} (f : A → Bool) (xs ys : List A) → all_of f (xs ++ ys) ≡ both (all_of f xs) (all_of f ys)
unfolding all_of
all_append f [] ys = refl
all_append f (x ∷ xs) ys = go (f x) (all_append f xs ys)
  where
    go : (b : Bool) → all_of f (xs ++ ys) ≡ both (all_of f xs) (all_of f ys) → both b (all_of f (xs ++ ys)) ≡ both (both b (all_of f xs)) (all_of f ys)
    go true e = e
    go false e = refl

pub all-weaken : {A : Type 0} (f g : A → Bool) → ((x : A) → f x ≡ true → g x ≡ true) → (xs : List A) → all_of f xs ≡ true → all_of g xs ≡ true
unfolding all_of
all-weaken f g imp [] t = refl
all-weaken f g imp (x ∷ xs) t =
    both_true (imp x (both_left (f x) (all_of f xs) t)) (all-weaken f g imp xs (both_right (f x) (all_of f xs) t))

pub all_take : {A : Type 0} (f : A → Bool) (n : ℕ) (xs : List A) → all_of f xs ≡ true → all_of f (take n xs) ≡ true
unfolding all_of
all_take f zero xs t = refl
all_take f (suc n) [] t = refl
all_take f (suc n) (x ∷ xs) t = both_true (both_left (f x) (all_of f xs) t) (all_take f n xs (both_right (f x) (all_of f xs) t))

pub all_map : {A B : Type 0} (f : B → Bool) (g : A → B) (xs : List A) → all_of f (map g xs) ≡ all_of (λ (x : A). f (g x)) xs
unfolding all_of
all_map f g [] = refl
all_map f g (x ∷ xs) = rw (all_map f g xs)

pub all-not-not : {A : Type 0} (f : A → Bool) (xs : List A) → all_of (λ (x : A). not (not (f x))) xs ≡ all_of f xs
unfolding all_of
all-not-not f [] = refl
all-not-not f (x ∷ xs) = rw (not-not (f x), all-not-not f xs)

-- Sameness is equality.

pub same_refl : (xs : List ℕ) → same xs xs ≡ true
unfolding same
same_refl [] = refl
same_refl (x ∷ xs) = both_true (eq-eqb x x refl) (same_refl xs)

pub same-is : (xs ys : List ℕ) → same xs ys ≡ true → xs ≡ ys
unfolding same
same-is [] [] t = refl
same-is [] (y ∷ ys) t = clash false t refl
same-is (x ∷ xs) [] t = clash false t refl
same-is (x ∷ xs) (y ∷ ys) t =
    let p : x ≡ y = eqb-true x y (both_left (eqb x y) (same xs ys) t) in
    let q : xs ≡ ys = same-is xs ys (both_right (eqb x y) (same xs ys) t) in
    cc

-- A part of a list.

pub part-empty : {A : Type 0} (a e : ℕ) (xs : List A) → a ≡ e → part a e xs ≡ []
part-empty a e xs p = let none : e - a ≡ 0 = omega arith in rw none

pub part-long : {A : Type 0} (a k : ℕ) (xs : List A) → part a (a + k) xs ≡ take k (drop a xs)
part-long a k xs = let long : (a + k) - a ≡ k = omega arith in rw long

pub part-one : {A : Type 0} (a : ℕ) (xs : List A) (d : A) → a < length xs → part a (a + 1) xs ≡ get_or xs a d ∷ []
part-one a xs d h = part-long a 1 xs ∙ rw (drop-cons xs a d h)

pub length_part : {A : Type 0} (a e : ℕ) (xs : List A) → a ≤ e → e ≤ length xs → length (part a e xs) ≡ e - a
length_part a e xs h k = length-take-le (e - a) (drop a xs) (rw length-drop (omega arith))

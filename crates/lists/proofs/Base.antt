-- Reading and writing a number in a base undo one another.
use mathlib.Core.Bool.{true}
use mathlib.Core.List.{List, [], ◌∷◌, ◌++◌, append-nil}
use mathlib.Core.Path.{◌≡◌, refl, ap, sym, ◌∙◌}
use Prim.Native.Nat.{ℕ, zero, suc, ◌+◌, ◌*◌, ◌/◌, ◌%◌, ◌^◌, ◌<◌}
use native.Mathlib.Nat.{zero-add, suc-add, add-suc, add-zero, mod-lt, div-add-mod', div-lt_iff_lt-mul, pow-suc, pow-zero}
use native.Mathlib.Numerals.{add-one}
use lib.Arith.{digits_div, digits_mod, digits_lt, lt-one}
use lib.Dec.{ltb, lit<}
use lib.ListN.{length, length-append}
use lib.Seq.{append_snoc}
use borrow.Author.Tests.{ltb-true, lt-ltb}
use Rattle.lists.specs.Lists.{all_of}
use Rattle.lists.specs.Base.{worth_after, worth, places}
use Rattle.lists.proofs.Choice.{both_left, both_right}
use Rattle.lists.proofs.Lists.{all_append}

pub worth-append : (b n : ℕ) (xs ys : List ℕ) → worth_after b n (xs ++ ys) ≡ worth_after b (worth_after b n xs) ys
unfolding worth_after
worth-append b n [] ys = refl
worth-append b n (x ∷ xs) ys = worth-append b (n * b + x) xs ys

-- what the last k places of n are worth is n, where n has no more than k places
pub worth-places : (b : ℕ) → 0 < b → (k n : ℕ) → n < b ^ k → worth b (places b k n) ≡ n
unfolding worth_after places
worth-places b pos zero n h = sym (lt-one (rw pow-zero at h))
worth-places b pos (suc k) n h =
    worth-append b 0 (places b k (n / b)) (n % b ∷ [])
    ∙ (ap (λ (m : ℕ). m * b + n % b) (worth-places b pos k (n / b) ((div-lt_iff_lt-mul pos).1 (rw pow-suc at h))) ∙ div-add-mod' n b)

-- the places of what some places are worth, with those of the number read before them
places-after : (b k n : ℕ) (ds : List ℕ) → all_of (λ (d : ℕ). ltb d b) ds ≡ true → places b (length ds + k) (worth_after b n ds) ≡ places b k n ++ ds
unfolding worth_after places all_of
places-after b k n [] t = rw (zero-add, append-nil)
places-after b k n (d ∷ ds) t =
    let small : d < b = ltb-true d b (both_left (ltb d b) (all_of (λ (e : ℕ). ltb e b) ds) t) in
    let rest : places b (length ds + suc k) (worth_after b (n * b + d) ds) ≡ places b (suc k) (n * b + d) ++ ds =
    places-after b (suc k) (n * b + d) ds (both_right (ltb d b) (all_of (λ (e : ℕ). ltb e b) ds) t) in
    rw (suc-add (length ds) k ∙ sym (add-suc (length ds) k), rest, digits_div n small, digits_mod n small, append_snoc)

-- the places of what some places are worth are those places
pub places-worth : (b : ℕ) (ds : List ℕ) → all_of (λ (d : ℕ). ltb d b) ds ≡ true → places b (length ds) (worth b ds) ≡ ds
unfolding places
places-worth b ds t = rw (add-zero) at (places-after b 0 0 ds t)

worth-after-lt : (b k n : ℕ) (ds : List ℕ) → n < b ^ k → all_of (λ (d : ℕ). ltb d b) ds ≡ true → worth_after b n ds < b ^ (length ds + k)
unfolding worth_after all_of
worth-after-lt b k n [] h t = rw zero-add h
worth-after-lt b k n (d ∷ ds) h t =
    let small : d < b = ltb-true d b (both_left (ltb d b) (all_of (λ (e : ℕ). ltb e b) ds) t) in
    let grown : n * b + d < b ^ suc k = rw pow-suc (digits_lt h small) in
    rw (suc-add (length ds) k ∙ sym (add-suc (length ds) k)) (worth-after-lt b (suc k) (n * b + d) ds grown (both_right (ltb d b) (all_of (λ (e : ℕ). ltb e b) ds) t))

-- k places are worth less than the base to the power k
pub worth-lt : (b : ℕ) (ds : List ℕ) → all_of (λ (d : ℕ). ltb d b) ds ≡ true → worth b ds < b ^ length ds
worth-lt b ds t = rw add-zero at (worth-after-lt b 0 0 ds (rw pow-zero (lit< tt)) t)

pub length-places : (b k n : ℕ) → length (places b k n) ≡ k
unfolding places
length-places b zero n = refl
length-places b (suc k) n = length-append (places b k (n / b)) (n % b ∷ []) ∙ (rw (length-places b k (n / b), add-one))

pub places-small : (b : ℕ) → 0 < b → (k n : ℕ) → all_of (λ (d : ℕ). ltb d b) (places b k n) ≡ true
unfolding places all_of
places-small b pos zero n = refl
places-small b pos (suc k) n =
    rw (all_append (λ (d : ℕ). ltb d b) (places b k (n / b)) (n % b ∷ []), places-small b pos k (n / b), lt-ltb (n % b) b (mod-lt n pos))

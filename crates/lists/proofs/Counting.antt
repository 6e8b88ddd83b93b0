-- A list of different elements that all stand in another is no longer than that one.
use mathlib.Core.List.Pairwise
use mathlib.Core.List.{List, [], ◌∷◌, Memᴰ, Nodup, rel_of_Pairwise-cons}
use mathlib.Core.Logic.{◌⊎◌, inl, inr, ⊎_elim}
use mathlib.Core.Path.{◌≡◌, refl, sym, ap, ◌∙◌}
use Prim.Native.Nat.{suc, ◌≤◌, zero-le}
use native.Mathlib.Omega.{arith}
use lib.ListN.{length}

module _ {A : Type 0} where
  -- the list without the element that stands there
  unfoldable without : {a : A} {ys : List A} → Memᴰ a ys → List A
  without (mathlib.Core.List.Memᴰ.head {x} {xs} e) = xs
  without (mathlib.Core.List.Memᴰ.tail {x} {xs} m) = x ∷ without m

  without-length : {a : A} {ys : List A} (m : Memᴰ a ys) → suc (length (without m)) ≡ length ys
  unfolding without
  without-length (mathlib.Core.List.Memᴰ.head e) = refl
  without-length (mathlib.Core.List.Memᴰ.tail m) = ap suc (without-length m)

  without_other : {a x : A} {ys : List A} (m : Memᴰ a ys) → Memᴰ x ys → (a ≡ x) ⊎ Memᴰ x (without m)
  unfolding without
  without_other (mathlib.Core.List.Memᴰ.head e) (mathlib.Core.List.Memᴰ.head k) = inl (e ∙ sym k)
  without_other (mathlib.Core.List.Memᴰ.head e) (mathlib.Core.List.Memᴰ.tail n) = inr n
  without_other (mathlib.Core.List.Memᴰ.tail m) (mathlib.Core.List.Memᴰ.head k) = inr (mathlib.Core.List.Memᴰ.head k)
  without_other {a} {x} (mathlib.Core.List.Memᴰ.tail m) (mathlib.Core.List.Memᴰ.tail n) =
      ⊎_elim (λ (e : a ≡ x). inl e) (λ (k : Memᴰ x (without m)). inr (mathlib.Core.List.Memᴰ.tail k)) (without_other m n)

  pub no_longer : (xs ys : List A) → Nodup xs → ((x : A) → Memᴰ x xs → Memᴰ x ys) → length xs ≤ length ys
  no_longer [] ys n f = zero-le
  no_longer (x ∷ xs) ys n f =
      let m : Memᴰ x ys = f x (mathlib.Core.List.Memᴰ.head refl) in
      let rest = no_longer xs (without m) (Pairwise.of_cons n) (λ y k.
      ⊎_elim (λ (e : x ≡ y). absurd (rel_of_Pairwise-cons n ∣ k ∣₁ e)) (λ (z : Memᴰ y (without m)). z) (without_other m (f y (mathlib.Core.List.Memᴰ.tail k)))) in
      omega (arith, rest, without-length m)

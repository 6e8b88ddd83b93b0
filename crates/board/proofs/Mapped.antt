-- An array's `map`, whose closure stays as it was, is the map of its list.
use mathlib.Core.Bool.{true, false}
use mathlib.Core.List.{List, [], ◌∷◌, map}
use mathlib.Core.Path.{◌≡◌, refl, sym, ap, subst, ◌∙◌}
use Prim.Native.Nat.{ℕ, zero, suc, ◌+◌, ◌≤◌, ◌<◌, suc-le-suc}
use native.Mathlib.Omega.{arith}
use lib.Dec.{eqb}
use lib.ListN.{length, get_or}
use denote.Param.Members.{Mut}
use borrow.Author.Tests.{eqb-true, eqb-false}
use Rattle.std.specs.Array.{IsMapOf, MapsFrom}
use Rattle.std.specs.Fn.{Called}
use Rattle.lists.proofs.Choice.{by}

-- by the elements
of-elements : {A B : Type 0} (h : A → B) (d : A) (e : B) (xs : List A) (ys : List B) → length ys ≡ length xs → ((k : ℕ) → k < length xs → get_or ys k e ≡ h (get_or xs k d))
    → ys ≡ map h xs
of-elements h d e [] [] l each = refl
of-elements h d e [] (y ∷ ys) l each = absurd (omega arith)
of-elements h d e (x ∷ xs) [] l each = absurd (omega arith)
of-elements h d e (x ∷ xs) (y ∷ ys) l each =
    let first : y ≡ h x = each 0 (omega arith) in
    let rest : ys ≡ map h xs = of-elements h d e xs ys (omega arith) (λ k lt. each (suc k) (suc-le-suc lt)) in
    cc

module _ {A B F : Type 0} {g : Mut F (A × Unit {0}) B} {f : F} (h : A → B) (answers : (x : A) (y : B) (q : F) → Called g f (x, tt) y q → (q ≡ f) × (y ≡ h x)) (d : A) (e : B) (xs : List A) (ys : List B) where
  along : (n i : ℕ) → MapsFrom g f xs ys i n → (k : ℕ) → i ≤ k → k < i + n → get_or ys k e ≡ h (get_or xs k d)
  along zero i m k low high = absurd (omega arith)
  along (suc n) i (q, x, y, at-x, at-y, call, rest) k low high =
      let said = answers x y q call in
      by (eqb i k)
      (λ (t : eqb i k ≡ true).
      let here : i ≡ k = eqb-true i k t in
      rw (← here) (at-y.1 e ∙ said.1 ∙ ap h (sym (at-x.1 d))))
      (λ (t : eqb i k ≡ false).
      along n (i + 1) (subst (λ (p : F). MapsFrom g p xs ys (i + 1) n) said.0 rest) k (omega (arith, eqb-false i k t)) (omega arith))

  pub mapped : (n : ℕ) → length xs ≡ n → IsMapOf g f xs ys n → ys ≡ map h xs
  mapped n l m =
      of-elements h d e xs ys (m.long ∙ sym l) (λ k lt. along n 0 m.each k (omega arith) (omega arith))

-- Equal codes are equal words; so the code that a function compares tells whether the word is a fixed one.
use mathlib.Core.Bool.{true, false}
use mathlib.Core.List.{List, [], ◌∷◌}
use mathlib.Core.Path.{◌≡◌, ap, sym, ◌∙◌}
use Prim.Native.Nat.{ℕ, suc, ◌+◌, ◌*◌, ◌^◌, ◌≤◌, ◌<◌}
use native.Mathlib.Nat.{pow-zero, pow-succ', mul_assoc, mul-le-mul_right, mul-one, one-mul, le_trans, one-le-pow, pow-le-pow_right, le_refl}
use native.Mathlib.Omega.{arith}
use lib.Dec.{leb, eqb, lit<}
use lib.ListN.{length}
use borrow.Author.Tests.{leb-true, leb-false, eq-eqb, ne_eqb}
use Rattle.lists.specs.Lists.{all_of, same}
use Rattle.lists.specs.Base.{worth_after, worth, places}
use Rattle.lists.proofs.Choice.{by, clash, both_right, pick_true, pick-false}
use Rattle.lists.proofs.Lists.{same_refl, same-is}
use Rattle.lists.proofs.Base.{places-worth, worth-lt}
use Rattle.figures.specs.Codes.{byte, short, code_of, FixedWord}

-- a number keeps its weight when places follow it
worth-ge : (b n : ℕ) (ds : List ℕ) → n * b ^ length ds ≤ worth_after b n ds
unfolding worth_after
worth-ge b n [] = rw (pow-zero, mul-one) (le_refl n)
worth-ge b n (d ∷ ds) =
    le_trans
    (rw (pow-succ', ← mul_assoc) (mul-le-mul_right (b ^ length ds) (omega arith)))
    (worth-ge b (n * b + d) ds)

-- The code of a short word: the 1 before its bytes tells how many they are.

code_is : (w : List ℕ) → short w ≡ true → code_of w ≡ worth 256 (1 ∷ w)
unfolding code_of worth_after
code_is w t = pick_true (worth_after 256 1 w) 0 t

bytes : (w : List ℕ) → short w ≡ true → all_of byte (1 ∷ w) ≡ true
unfolding all_of
bytes w t = both_right (leb (length w) 7) (all_of byte w) t

code-ge : (w : List ℕ) → short w ≡ true → 256 ^ length w ≤ code_of w
unfolding worth_after
code-ge w t = rw (code_is w t) (rw one-mul at (worth-ge 256 1 w))

code_lt : (w : List ℕ) → short w ≡ true → code_of w < 256 ^ suc (length w)
code_lt w t = rw (code_is w t) (worth-lt 256 (1 ∷ w) (bytes w t))

code-length : (w k : List ℕ) → short w ≡ true → short k ≡ true → code_of w ≡ code_of k → length w ≤ length k
code-length w k s t e = by (leb (length w) (length k)) (leb-true (length w) (length k)) longer
  where
    longer : leb (length w) (length k) ≡ false → length w ≤ length k
    longer f =
        let more : 256 ^ suc (length k) ≤ 256 ^ length w = pow-le-pow_right (lit< tt) (leb-false (length w) (length k) f) in
        absurd (omega (arith, code-ge w s, code_lt k t))

code-again : (w : List ℕ) → short w ≡ true → places 256 (suc (length w)) (code_of w) ≡ 1 ∷ w
code-again w t = rw (code_is w t) (places-worth 256 (1 ∷ w) (bytes w t))

pub code-only : (w k : List ℕ) → short w ≡ true → short k ≡ true → code_of w ≡ code_of k → w ≡ k
code-only w k s t e =
    let long : length w ≡ length k = omega (arith, code-length w k s t e, code-length k w t s (sym e)) in
    let p : places 256 (suc (length w)) (code_of w) ≡ 1 ∷ w = code-again w s in
    let q : places 256 (suc (length k)) (code_of k) ≡ 1 ∷ k = code-again k t in
    cc

pub code-some : (w : List ℕ) → short w ≡ true → 0 < code_of w
code-some w t = le_trans (one-le-pow (length w) 256 (lit< tt)) (code-ge w t)

pub code-none : (w : List ℕ) → short w ≡ false → code_of w ≡ 0
unfolding code_of
code-none w f = pick-false (worth_after 256 1 w) 0 f

pub code-tells : (w k : List ℕ) → short k ≡ true → code_of w ≡ code_of k → w ≡ k
code-tells w k t e = by (short w) (λ s. code-only w k s t e) (λ f. absurd (omega (arith, code-some k t, code-none w f)))

pub same_code : (w k : List ℕ) → short k ≡ true → eqb (code_of w) (code_of k) ≡ same w k
same_code w k t =
    by (same w k)
    (λ e. eq-eqb (code_of w) (code_of k) (ap code_of (same-is w k e)) ∙ sym e)
    (λ f. ne_eqb (code_of w) (code_of k) (λ e. clash (same w k) (rw (code-tells w k t e) (same_refl k)) f) ∙ sym f)

-- a code that a function compares
module _ {k : List ℕ} {m : ℕ} (f : FixedWord k m) (w : List ℕ) {n : ℕ} (e : n ≡ code_of w) where
  pub same-yes : n ≡ m → same w k ≡ true
  same-yes p = sym (same_code w k f.is-short) ∙ eq-eqb (code_of w) (code_of k) (cc f.has)

  pub same-no : (n ≡ m → ⊥) → same w k ≡ false
  same-no p = sym (same_code w k f.is-short) ∙ ne_eqb (code_of w) (code_of k) (λ q. p (cc f.has))

-- Letters as one number, both ways.
use mathlib.Core.Bool.{Bool, true, false}
use mathlib.Core.List.{List, [], ◌∷◌}
use mathlib.Core.Logic.{inl, inr}
use mathlib.Core.Path.{◌≡◌, refl, sym}
use Prim.Native.Nat.{ℕ, zero, suc, ◌^◌, ◌≤◌, ◌<◌}
use native.Mathlib.Omega.{arith}
use lib.Dec.{leb, ltb, eqb, lit<}
use lib.ListN.{length}
use borrow.Author.Tests.{le-leb, eq-eqb, eqb-true, lt-ltb, ltb-true}
use Rattle.lists.specs.Choice.{both}
use Rattle.lists.specs.Lists.{all_of}
use Rattle.lists.specs.Base.{worth, places}
use Rattle.lists.proofs.Choice.{by, both_left, both_right, both-false-right, pick_true, pick-false}
use Rattle.lists.proofs.Lists.{all_append, all-weaken}
use Rattle.lists.proofs.Base.{worth-places, places-worth, worth-lt, length-places}
use Rattle.words.specs.Bytes.{letter}
use Rattle.words.proofs.Ranges.{between-high}
use Rattle.figures.specs.Reads.{Reads}
use Rattle.figures.specs.Letters.{letters_of, in_letters, good_letters}
use Rattle.figures.proofs.ReadsLaws.{Back}

pub letter-small : (x : ℕ) → letter x ≡ true → x < 256
letter-small x e = omega (arith, between-high 65 90 x e)

-- the ways out of the loop that reads letters
pub letters-barred : (k : ℕ) (w : List ℕ) → all_of letter w ≡ false → 0 ≡ letters_of k w
unfolding letters_of
letters-barred k w e = rw (e, both-false-right (eqb (length w) k) refl, both-false-right (leb k 4) refl)

pub letters-are : {n : ℕ} (k : ℕ) (w : List ℕ) → k ≤ 4 → length w ≡ k → all_of letter w ≡ true → n ≡ worth 256 w → n ≡ letters_of k w
unfolding letters_of
letters-are k w h e t m = rw (le-leb k 4 h, eq-eqb (length w) k e, t) m

pub length-in_letters : (k n : ℕ) → length (in_letters k n) ≡ k
length-in_letters k n = length-places 256 k n

pub in_letters-letters : (k n : ℕ) → good_letters k n ≡ true → all_of letter (in_letters k n) ≡ true
unfolding good_letters
in_letters-letters k n g = both_right (ltb n (256 ^ k)) (all_of letter (in_letters k n)) g

pub good-lt : (k n : ℕ) → good_letters k n ≡ true → n < 256 ^ k
unfolding good_letters
good-lt k n g = ltb-true n (256 ^ k) (both_left (ltb n (256 ^ k)) (all_of letter (in_letters k n)) g)

letters-small : (w : List ℕ) → all_of letter w ≡ true → all_of (λ (x : ℕ). ltb x 256) w ≡ true
letters-small w t = all-weaken letter (λ (x : ℕ). ltb x 256) (λ x e. lt-ltb x 256 (letter-small x e)) w t

-- the letters of a word's number are the word
pub letters-again : (w : List ℕ) → all_of letter w ≡ true → in_letters (length w) (worth 256 w) ≡ w
letters-again w t = places-worth 256 w (letters-small w t)

-- the number of a word of letters is good
pub letters-good : (w : List ℕ) → all_of letter w ≡ true → good_letters (length w) (worth 256 w) ≡ true
unfolding good_letters
letters-good w t = rw (letters-again w t, t, lt-ltb (worth 256 w) (256 ^ length w) (worth-lt 256 w (letters-small w t)))

letters-forth : (k : ℕ) → k ≤ 4 → (n : ℕ) → good_letters k n ≡ true → letters_of k (in_letters k n) ≡ n
letters-forth k h n g =
    sym (letters-are k (in_letters k n) h (length-in_letters k n) (in_letters-letters k n g) (sym (worth-places 256 (lit< tt) k n (good-lt k n g))))

letters-back : (k : ℕ) (w : List ℕ) → Back (in_letters k) (good_letters k) 0 w (letters_of k w)
unfolding letters_of
letters-back k w = by test yes (λ e. inl (pick-false (worth 256 w) 0 e))
  where
    test : Bool
    test = both (leb k 4) (both (eqb (length w) k) (all_of letter w))

    yes : test ≡ true → Back (in_letters k) (good_letters k) 0 w (letters_of k w)
    yes e =
        let is : letters_of k w ≡ worth 256 w = pick_true (worth 256 w) 0 e in
        let rest : both (eqb (length w) k) (all_of letter w) ≡ true = both_right (leb k 4) (both (eqb (length w) k) (all_of letter w)) e in
        let long : length w ≡ k = eqb-true (length w) k (both_left (eqb (length w) k) (all_of letter w) rest) in
        let all : all_of letter w ≡ true = both_right (eqb (length w) k) (all_of letter w) rest in
        inr (rw (is, ← long) (letters-good w all), rw (is, ← long) (letters-again w all))

-- no number of letters is 0, which has a place that is no letter
letters-refuses : (k : ℕ) → 0 < k → good_letters k 0 ≡ false
unfolding good_letters places all_of
letters-refuses zero h = absurd (omega arith)
letters-refuses (suc k) h =
    rw (all_append letter (places 256 k 0) (0 ∷ []), both-false-right (all_of letter (places 256 k 0)) refl)
    (both-false-right (ltb 0 (256 ^ suc k)) refl)

pub letters-reads : (k : ℕ) → k ≤ 4 → 0 < k → Reads (letters_of k) (in_letters k) (good_letters k) 0
letters-reads k h pos = record { forth = letters-forth k h; back = letters-back k; refuses = letters-refuses k pos }

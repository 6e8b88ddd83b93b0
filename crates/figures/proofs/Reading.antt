-- A loop that reads a word as a number in base b, after the number v: what it keeps at place i, and what each way out of it
-- says of the whole word. The places `ds` are the word's bytes, or what the bytes stand for.
use mathlib.Core.Bool.{Bool, true, false}
use mathlib.Core.List.{List}
use mathlib.Core.Path.{◌≡◌, refl, sym, ◌∙◌}
use Prim.Native.Nat.{ℕ, suc, ◌+◌, ◌*◌, ◌^◌, ◌≤◌, ◌<◌, zero-le}
use native.Mathlib.Nat.{pow-zero, pow-suc, mul_assoc, mul-le-mul_left, pow-le-pow_right, le_trans}
use native.Mathlib.Numerals.{add-one}
use native.Mathlib.Omega.{arith}
use lib.Arith.{digits_lt}
use lib.Dec.{leb}
use lib.ListN.{length, drop, get_or, drop_of_length-le}
use lib.Seq.{drop-cons}
use borrow.Author.Tests.{le-leb, lt-leb}
use Rattle.lists.specs.Choice.{pick, both}
use Rattle.lists.specs.Lists.{all_of}
use Rattle.lists.specs.Base.{worth_after}
use Rattle.lists.proofs.Choice.{both-false-right}
use Rattle.lists.proofs.Lists.{all_past, all-stop, all_end}

pub worth-past : (b n : ℕ) (ds : List ℕ) (i : ℕ) → i < length ds → worth_after b n (drop i ds) ≡ worth_after b (n * b + get_or ds i 0) (drop (i + 1) ds)
unfolding worth_after
worth-past b n ds i h = rw (add-one, drop-cons ds i 0 h)

pub worth-end : (b n : ℕ) (ds : List ℕ) (i : ℕ) → length ds ≤ i → worth_after b n (drop i ds) ≡ n
unfolding worth_after
worth-end b n ds i h = rw (drop_of_length-le ds h)

pub record Reading (b v most : ℕ) (f : ℕ → Bool) (w ds : List ℕ) (n i : ℕ) : Type 0 where
  pub within : i ≤ length w
  pub short : length w ≤ most
  pub small : n < suc v * b ^ i
  pub worths : worth_after b v ds ≡ worth_after b n (drop i ds)
  pub passes : all_of f w ≡ all_of f (drop i w)

module _ (b v most : ℕ) (f : ℕ → Bool) (w ds : List ℕ) where
  pub begins : length w ≤ most → Reading b v most f w ds v 0
  begins h = record { within = zero-le; short = h; small = rw pow-zero (omega arith); worths = refl; passes = refl }

  module _ {n i : ℕ} (r : Reading b v most f w ds n i) where
    -- one more place keeps the number below the bound, and so below that of the longest word
    grows : {d : ℕ} → d < b → n * b + d < suc v * b ^ suc i
    grows h = rw (pow-suc, ← mul_assoc) (digits_lt r.small h)

    pub fits : {d : ℕ} → i < length w → d < b → n * b + d < suc v * b ^ most
    fits h k = le_trans (grows k) (mul-le-mul_left (suc v) (pow-le-pow_right (omega arith) (le_trans h r.short)))

    -- the number is below the bound of the longest word
    pub below : (0 < b) → i ≤ most → n < suc v * b ^ most
    below z h = le_trans r.small (mul-le-mul_left (suc v) (pow-le-pow_right z h))

    pub goes : {d : ℕ} → i < length w → length ds ≡ length w → f (get_or w i 0) ≡ true → get_or ds i 0 ≡ d → d < b → Reading b v most f w ds (n * b + d) (i + 1)
    goes h long e at k = record {
      within = omega arith;
      short = r.short;
      small = rw add-one (grows k);
      worths = r.worths ∙ (rw at at (worth-past b n ds i (omega arith)));
      passes = r.passes ∙ all_past f w i 0 h e;
    }

    pub barred : i < length w → f (get_or w i 0) ≡ false → all_of f w ≡ false
    barred h e = r.passes ∙ all-stop f w i 0 h e

    pub passed : length w ≤ i → all_of f w ≡ true
    passed h = r.passes ∙ all_end f w i h

    pub whole : length w ≤ i → length ds ≡ length w → n ≡ worth_after b v ds
    whole h long = sym (r.worths ∙ worth-end b n ds i (omega arith))

    -- the two ways out of the loop, of a definition that asks for at most so many elements that pass
    pub stops : (x : ℕ) → i < length w → f (get_or w i 0) ≡ false → x ≡ pick (both (leb (length w) most) (all_of f w)) (worth_after b v ds) x
    stops x h e = rw (barred h e, both-false-right (leb (length w) most) refl)

    pub ends : (x : ℕ) → length w ≤ i → length ds ≡ length w → n ≡ pick (both (leb (length w) most) (all_of f w)) (worth_after b v ds) x
    ends x h long = rw (passed h, le-leb (length w) most r.short) (whole h long)

  pub too_long : (x : ℕ) → most < length w → x ≡ pick (both (leb (length w) most) (all_of f w)) (worth_after b v ds) x
  too_long x h = rw (lt-leb (length w) most h)

-- The table of the months: a test down the whole of it that antt computes once, and the rule that follows at each of its months.
use mathlib.Core.Bool.{Bool, true, false}
use mathlib.Core.List.{List, [], ◌∷◌}
use mathlib.Core.Path.{◌≡◌, refl, sym, ap, ◌∙◌}
use Prim.Native.Nat.{ℕ, zero, suc, ◌+◌, ◌-◌, ◌≤◌, ◌<◌}
use native.Mathlib.Nat.{add-zero, zero-add, add-suc, suc-add, le_of_suc-le-suc, not-suc-le-zero}
use native.Mathlib.Omega.{arith}
use lib.Dec.{leb, ltb, eqb}
use lib.ListN.{length, get_or}
use borrow.Author.Tests.{leb-true, leb-false, ltb-true, ltb-false, eqb-true}
use Rattle.std.specs.List.Sorted.{IsPartitionedBy, IsPartitionPoint}
use Rattle.std.proofs.lemmas.List.Sorted.{IsPartitionedBy-leb, IsNonDecreasingBy-from_default}
use Rattle.lists.specs.Choice.{both}
use Rattle.lists.proofs.Choice.{by, both_left, both_right}
use Rattle.calendar.specs.Gregorian.{month_length, first_day, months, days, Falls}
use Rattle.calendar.proofs.CenturyLaws.{first-last}
use Rattle.calendar.proofs.MonthLaws.{first_next, first-zero, first-order}

-- each entry is the first day of its month, the first entry's month being m and its first day `first`; the next month's is so many days later
abbrev pub chain : ℕ → ℕ → List ℕ → Bool
chain m first [] = true
chain m first (x ∷ xs) = both (eqb x first) (chain (suc m) (first + month_length m) xs)

chain-at : (m first : ℕ) (table : List ℕ) → first ≡ first_day m → chain m first table ≡ true → (k : ℕ) → k < length table → get_or table k 0 ≡ first_day (m + k)
chain-at m first [] e t k h = absurd (not-suc-le-zero h)
chain-at m first (x ∷ xs) e t zero h =
    eqb-true x first (both_left (eqb x first) (chain (suc m) (first + month_length m) xs) t) ∙ e ∙ ap first_day (sym (add-zero m))
chain-at m first (x ∷ xs) e t (suc k) h =
    chain-at (suc m) (first + month_length m) xs (ap (λ (n : ℕ). n + month_length m) e ∙ sym (first_next m)) (both_right (eqb x first) (chain (suc m) (first + month_length m) xs) t) k (le_of_suc-le-suc h)
    ∙ ap first_day (suc-add m k ∙ sym (add-suc m k))

-- "the day number of the first of each of the 1,200 months stands in a table whose rule is proved over the whole of it"
pub first_of : (table : List ℕ) → chain 0 0 table ≡ true → (k : ℕ) → k < length table → get_or table k 0 ≡ first_day k
unfolding first_day
first_of table t k h = chain-at 0 0 table refl t k h ∙ ap first_day (zero-add k)

-- A day parts the table: the months that have begun by then, and the others.

module _ (table : List ℕ) (t : chain 0 0 table ≡ true) (day : ℕ) where
  abbrev begun : ℕ → Bool
  begun first = leb first day

  rises : (i j : ℕ) → i ≤ j → j < length table → get_or table i 0 ≤ get_or table j 0
  rises i j h k = rw (first_of table t i (omega arith), first_of table t j k) (first-order i j h)

  pub parted : IsPartitionedBy begun table
  parted = IsPartitionedBy-leb (λ n. n) table day (IsNonDecreasingBy-from_default (λ n. n) table 0 rises)

  module _ (whole : length table ≡ months) (within : day < days) (at : ℕ) (most : at ≤ length table) (p : IsPartitionPoint (λ n. begun n ≡ true) (λ n. begun n ≡ false) table at) where
    -- the first month has begun
    some : 1 ≤ at
    some =
        by (leb 1 at)
        (λ (h : leb 1 at ≡ true). leb-true 1 at h)
        (λ (h : leb 1 at ≡ false).
        absurd (omega (arith, leb-false 1 at h, leb-false (get_or table 0 0) day (p.1 0 0 (omega (arith, leb-false 1 at h)) (omega arith)), first_of table t 0 (omega arith), first-zero)))

    others-later : (b : Bool) → ltb at months ≡ b → day < first_day at
    others-later true h =
        let there : at < length table = omega (arith, ltb-true at months h) in
        omega (arith, leb-false (get_or table at 0) day (p.1 at 0 (omega arith) there), first_of table t at there)
    others-later false h =
        let all : at ≡ months = omega (arith, ltb-false at months h) in
        rw (all, first-last) within

    -- the last that has begun is the month of the day
    pub last-begun : (1 ≤ at) × Falls day (at - 1)
    last-begun =
        let next : suc (at - 1) ≡ at = omega (arith, some) in (
          some,
          record {
            within = omega (arith, some);
            from = omega (arith, leb-true (get_or table (at - 1) 0) day (p.0 (at - 1) 0 (omega arith) (omega (arith, some))), first_of table t (at - 1) (omega (arith, some)));
            until = rw next (others-later (ltb at months) refl);
          },
        )

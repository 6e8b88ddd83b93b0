-- Numbers and the words of tables: a number that is in no table, and a stretch of numbers that have one word.
use mathlib.Core.Bool.{Bool, true}
use mathlib.Core.List.{List, []}
use mathlib.Core.Path.{◌≡◌, sym}
use Prim.Native.Nat.{ℕ, zero, suc, ◌+◌, ◌-◌, ◌≤◌, ◌<◌}
use native.Mathlib.Omega.{arith}
use lib.Dec.{eqb, ltb}
use lib.ListN.{length, get_or-eq_default}
use borrow.Author.Tests.{ltb-false, eqb-true, eqb-false}
use Rattle.lists.specs.Choice.{both}
use Rattle.lists.specs.Lists.{same}
use Rattle.lists.proofs.Choice.{by, both_left, both_right}
use Rattle.lists.proofs.Lists.{same-is}
use Rattle.figures.specs.Tables.{word_of, numbered}

-- a number that is not below k and not k is not below the next
pub past : (k : ℕ) {n : ℕ} → k ≤ n → (n ≡ k → ⊥) → k + 1 ≤ n
past k h f = omega arith

-- none of so many numbers from `first` on, as a `match` tells it where it is past them
abbrev NoneOf : ℕ → ℕ → ℕ → Type 0
NoneOf first zero n = Unit {0}
NoneOf first (suc count) n = NoneOf first count n × (n ≡ first + count → ⊥)

past_all : (first count n : ℕ) → NoneOf first count n → first ≤ n → first + count ≤ n
past_all first zero n h low = omega arith
past_all first (suc count) n h low =
    let last : first + count ≤ n = past_all first count n h.0 low in
    let more : first + count + 1 ≤ n = past (first + count) last h.1 in
    omega arith

pub no_word : (table : List (List ℕ)) (n : ℕ) → NoneOf 0 (length table) n → word_of table n ≡ []
no_word table n h = get_or-eq_default table [] (omega (arith, past_all 0 (length table) n h (omega arith)))

pub unnumbered : (first : ℕ) (table : List (List ℕ)) (n : ℕ) → NoneOf first (length table) n → numbered first table n ≡ []
unnumbered first table n h =
    by (ltb n first)
    (λ t. rw t)
    (λ f. let low : first ≤ n = ltb-false n first f in
    let beyond : length table ≤ n - first = omega (arith, past_all first (length table) n h low) in
    rw (f, get_or-eq_default table [] beyond))

-- a test of every number from `first` on, so many of them
abbrev stretch : ℕ → ℕ → (ℕ → Bool) → Bool
stretch first zero f = true
stretch first (suc count) f = both (f first) (stretch (suc first) count f)

pub stretched : (f : ℕ → Bool) (first count n : ℕ) → stretch first count f ≡ true → first ≤ n → n < first + count → f n ≡ true
stretched f first zero n t low high = absurd (omega arith)
stretched f first (suc count) n t low high =
    by (eqb n first)
    (λ e. rw (eqb-true n first e) (both_left (f first) (stretch (suc first) count f) t))
    (λ e. let other : (n ≡ first → ⊥) = eqb-false n first e in
    stretched f (suc first) count n (both_right (f first) (stretch (suc first) count f) t) (omega arith) (omega arith))

-- all numbers of a stretch have that word, tested one by one
pub ranged : (word : ℕ → List ℕ) (w : List ℕ) (first count n : ℕ) → stretch first count (λ (k : ℕ). same (word k) w) ≡ true → first ≤ n
    → n < first + count → w ≡ word n
ranged word w first count n t low high = sym (same-is (word n) w (stretched (λ (k : ℕ). same (word k) w) first count n t low high))

-- The rule of the table, proved once over the whole of it, and what a kind tells.
use mathlib.Core.Bool.{Bool, true}
use mathlib.Core.List.{List, [], ◌∷◌}
use mathlib.Core.Path.{◌≡◌, ap, sym, ◌∙◌}
use Prim.Native.Char.{code}
use Prim.Native.Nat.{ℕ, zero, suc, ◌+◌, ◌≤◌, ◌<◌}
use native.Mathlib.Nat.{add-zero, zero-add, add-suc, suc-add, le_of_suc-le-suc, not-suc-le-zero}
use native.Mathlib.Omega.{arith}
use lib.Dec.{eqb}
use lib.ListN.{length, get_or}
use borrow.Author.Tests.{eqb-true}
use Rattle.lists.specs.Choice.{both}
use Rattle.lists.proofs.Choice.{by, both_left, both_right}
use Rattle.words.specs.Bytes.{blank, equals, barred}
use Rattle.words.specs.Kinds.{kind_of, Kinds}

-- one test down the whole table, counted from i
abbrev pub kinds_from : ℕ → List ℕ → Bool
kinds_from i [] = true
kinds_from i (k ∷ ks) = both (eqb k (kind_of i)) (kinds_from (suc i) ks)

kinds-from : (i : ℕ) (table : List ℕ) → kinds_from i table ≡ true → (x : ℕ) → x < length table → get_or table x 0 ≡ kind_of (i + x)
kinds-from i [] t x h = absurd (not-suc-le-zero h)
kinds-from i (k ∷ ks) t zero h = eqb-true k (kind_of i) (both_left (eqb k (kind_of i)) (kinds_from (suc i) ks) t) ∙ ap kind_of (sym (add-zero i))
kinds-from i (k ∷ ks) t (suc x) h =
    kinds-from (suc i) ks (both_right (eqb k (kind_of i)) (kinds_from (suc i) ks) t) x (le_of_suc-le-suc h) ∙ ap kind_of (suc-add i x ∙ sym (add-suc i x))

pub kinds-right : (table : List ℕ) → length table ≡ 256 → kinds_from 0 table ≡ true → Kinds table
kinds-right table long t = record { right = λ x h. kinds-from 0 table t x (omega arith) ∙ ap kind_of (zero-add x) }

-- what holds of all four kinds holds of `kind_of x`
kind-cases : (A : ℕ → Type 0) (x : ℕ) → A (code "?") → A (code "=") → A (code "-") → A (code ".") → A (kind_of x)
unfolding kind_of
kind-cases A x bad ends void plain =
    by (barred x) (λ e. rw e bad)
    (λ e. by (equals x) (λ f. rw (e, f) ends)
    (λ f. by (blank x) (λ g. rw (e, f, g) void)
    (λ g. rw (e, f, g) plain)))

pub kind-least : (x : ℕ) → code "-" ≤ kind_of x
kind-least x = kind-cases (λ (k : ℕ). code "-" ≤ k) x (omega arith) (omega arith) (omega arith) (omega arith)

pub kind-most : (x : ℕ) → kind_of x ≤ code "?"
kind-most x = kind-cases (λ (k : ℕ). k ≤ code "?") x (omega arith) (omega arith) (omega arith) (omega arith)

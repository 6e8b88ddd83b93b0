-- Tables of fixed words that a record keeps as a number: a code tells the number, and number and word undo one another.
use mathlib.Core.Bool.{Bool, true, false, not}
use mathlib.Core.List.{List, [], ◌∷◌, map}
use mathlib.Core.Logic.{inl, inr}
use mathlib.Core.Path.{◌≡◌, refl, ap, sym, ◌∙◌}
use Prim.Native.Nat.{ℕ, zero, suc, ◌+◌, ◌-◌, ◌≤◌, ◌<◌, zero-le, suc-le-suc}
use native.Mathlib.Nat.{add-zero, add-sub_cancel_left, not-suc-le-zero, le_of_suc-le-suc, le_refl}
use native.Mathlib.Omega.{arith}
use lib.Dec.{leb, ltb, eqb, leb-suc-suc}
use lib.ListN.{length, get_or}
use borrow.Author.Tests.{ltb-true, ltb-false, not-true, lt-ltb, le-ltb, le-leb, lt-leb}
use Rattle.std.specs.Prelude.{Option, Some, None}
use Rattle.lists.specs.Choice.{pick, found}
use Rattle.lists.specs.Lists.{all_of, index_of, same}
use Rattle.lists.proofs.Choice.{by, both_left, both_right, both_true, both-false-left, pick_true, pick-false}
use Rattle.lists.proofs.Lists.{all-at, index-none, index-found, index-within, same_refl, same-is}
use Rattle.words.proofs.Ranges.{between-low, between-high}
use Rattle.figures.specs.Reads.{Reads}
use Rattle.figures.specs.Codes.{short, code_of}
use Rattle.figures.specs.Tables.{word_in, word_of, in_table, distinct, number_in, numbered, in_numbers}
use Rattle.figures.proofs.ReadsLaws.{Back}
use Rattle.figures.proofs.CodeLaws.{same_code, code-tells}

pub find-word : (table : List (List ℕ)) (w : List ℕ) → all_of short table ≡ true → index_of (eqb (code_of w)) (map code_of table) ≡ word_in table w
unfolding index_of all_of
find-word [] w t = refl
find-word (k ∷ ks) w t =
    let h : eqb (code_of w) (code_of k) ≡ same w k = same_code w k (both_left (short k) (all_of short ks) t) in
    let r : index_of (eqb (code_of w)) (map code_of ks) ≡ index_of (same w) ks = find-word ks w (both_right (short k) (all_of short ks) t) in
    cc

table-forth : (table : List (List ℕ)) → distinct table ≡ true → (n : ℕ) → n < length table → word_in table (word_of table n) ≡ n
unfolding distinct index_of
table-forth [] t n h = absurd (not-suc-le-zero h)
table-forth (k ∷ ks) t zero h = rw (same_refl k)
table-forth (k ∷ ks) t (suc n) h =
    let apart : all_of (λ (x : List ℕ). not (same x k)) ks ≡ true = both_left (all_of (λ (x : List ℕ). not (same x k)) ks) (distinct ks) t in
    let other : same (get_or ks n []) k ≡ false = not-true (same (get_or ks n []) k) (all-at (λ (x : List ℕ). not (same x k)) ks [] apart n (le_of_suc-le-suc h)) in
    rw other (ap suc (table-forth ks (both_right (all_of (λ (x : List ℕ). not (same x k)) ks) (distinct ks) t) n (le_of_suc-le-suc h)))

table-back : (table : List (List ℕ)) (w : List ℕ) → Back (word_of table) (in_table table) (length table) w (word_in table w)
table-back table w =
    by (in_table table (word_in table w))
    (λ e. inr (e, sym (same-is w (word_of table (word_in table w)) (index-found (same w) table [] (ltb-true (word_in table w) (length table) e)))))
    (λ f. inl (omega (arith, ltb-false (word_in table w) (length table) f, index-within (same w) table)))

pub table-reads : (table : List (List ℕ)) → distinct table ≡ true → Reads (word_in table) (word_of table) (in_table table) (length table)
table-reads table t = record {
  forth = λ n g. table-forth table t n (ltb-true n (length table) g);
  back = table-back table;
  refuses = le-ltb (length table) (length table) (le_refl (length table));
}

-- the number of a word, where it is one of the table
pub number_found : (first : ℕ) (table : List (List ℕ)) (w : List ℕ) → 0 < first → found (in_numbers first table) (number_in first table w) ≡ pick (in_table table (word_in table w)) (Some (first + word_in table w)) None
number_found first table w pos =
    by (in_table table (word_in table w))
    (λ e. let within : word_in table w < length table = ltb-true (word_in table w) (length table) e in
    rw (e, le-leb first (first + word_in table w) (omega arith), le-leb (first + word_in table w) (first + length table - 1) (omega arith)))
    (λ f. rw (f, lt-leb first 0 pos))

-- the number that a code tells, where the codes of the words are tried in their order
abbrev pub coded : ℕ → List (List ℕ) → ℕ → Option ℕ
coded first [] c = None
coded first (k ∷ ks) c = pick (eqb c (code_of k)) (Some first) (coded (suc first) ks c)

coded-word : (first : ℕ) (table : List (List ℕ)) (w : List ℕ) → all_of short table ≡ true → pick (in_table table (word_in table w)) (Some (first + word_in table w)) None ≡ coded first table (code_of w)
unfolding index_of all_of
coded-word first [] w s = refl
coded-word first (k ∷ ks) w s =
    let here : eqb (code_of w) (code_of k) ≡ same w k = same_code w k (both_left (short k) (all_of short ks) s) in
    let m : ℕ = word_in ks w in
    let next : first + suc m ≡ suc first + m = omega arith in
    by (same w k)
    (λ e. rw (here, e, lt-ltb 0 (suc (length ks)) (suc-le-suc zero-le), add-zero))
    (λ f. rw (here, f, leb-suc-suc (suc m) (length ks), next) (coded-word (suc first) ks w (both_right (short k) (all_of short ks) s)))

pub number-coded : (first : ℕ) (table : List (List ℕ)) (w : List ℕ) → 0 < first → all_of short table ≡ true → found (in_numbers first table) (number_in first table w) ≡ coded first table (code_of w)
number-coded first table w pos s = number_found first table w pos ∙ coded-word first table w s

-- the number of the word that has the code of a word of the table
pub number_at : (first : ℕ) (table : List (List ℕ)) (k : ℕ) (w : List ℕ) → distinct table ≡ true → all_of short table ≡ true → k < length table → code_of w ≡ code_of (word_of table k) → first + k ≡ number_in first table w
number_at first table k w d s h e =
    let is : w ≡ word_of table k = code-tells w (word_of table k) (all-at short table [] s k h) e in
    let found : word_in table w ≡ k = ap (word_in table) is ∙ (table-reads table d).forth k (lt-ltb k (length table) h) in
    let inside : in_table table (word_in table w) ≡ true = rw found (lt-ltb k (length table) h) in
    sym (pick_true (first + word_in table w) 0 inside ∙ ap (λ (n : ℕ). first + n) found)

same_none : (table : List (List ℕ)) (w : List ℕ) → all_of short table ≡ true → all_of (λ (k : List ℕ). not (eqb (code_of w) (code_of k))) table ≡ true → all_of (λ (k : List ℕ). not (same w k)) table ≡ true
unfolding all_of
same_none [] w s t = refl
same_none (k ∷ ks) w s t =
    let other : not (same w k) ≡ true =
    ap not (sym (same_code w k (both_left (short k) (all_of short ks) s))) ∙ both_left (not (eqb (code_of w) (code_of k))) (all_of (λ (x : List ℕ). not (eqb (code_of w) (code_of x))) ks) t in
    both_true other
    (same_none ks w (both_right (short k) (all_of short ks) s) (both_right (not (eqb (code_of w) (code_of k))) (all_of (λ (x : List ℕ). not (eqb (code_of w) (code_of x))) ks) t))

-- a word that has the code of no word of the table has number 0
pub number-none : (first : ℕ) (table : List (List ℕ)) (w : List ℕ) → all_of short table ≡ true → all_of (λ (k : List ℕ). not (eqb (code_of w) (code_of k))) table ≡ true → 0 ≡ number_in first table w
number-none first table w s t =
    let past : word_in table w ≡ length table = index-none (same w) table (same_none table w s t) in
    sym (pick-false (first + word_in table w) 0 (le-ltb (word_in table w) (length table) (omega arith)))

-- what holds of every word of a table holds of the word of a number
pub numbered-all : (f : List ℕ → Bool) (first : ℕ) (table : List (List ℕ)) → 0 < length table → all_of f table ≡ true → (n : ℕ) → in_numbers first table n ≡ true → f (numbered first table n) ≡ true
numbered-all f first table some t n g =
    let low : first ≤ n = between-low first (first + length table - 1) n g in
    let high : n ≤ first + length table - 1 = between-high first (first + length table - 1) n g in
    rw (le-ltb n first low) (all-at f table [] t (n - first) (omega arith))

module _ (first : ℕ) (table : List (List ℕ)) (pos : 0 < first) (some : 0 < length table) (d : distinct table ≡ true) where
  number-forth : (n : ℕ) → in_numbers first table n ≡ true → number_in first table (numbered first table n) ≡ n
  number-forth n g =
      let low : first ≤ n = between-low first (first + length table - 1) n g in
      let high : n ≤ first + length table - 1 = between-high first (first + length table - 1) n g in
      let within : n - first < length table = omega arith in
      let word : numbered first table n ≡ word_of table (n - first) = pick-false [] (word_of table (n - first)) (le-ltb n first low) in
      let back : word_in table (word_of table (n - first)) ≡ n - first = (table-reads table d).forth (n - first) (lt-ltb (n - first) (length table) within) in
      rw (word, back, lt-ltb (n - first) (length table) within) (omega arith)

  number-back : (w : List ℕ) → Back (numbered first table) (in_numbers first table) 0 w (number_in first table w)
  number-back w =
      by (in_table table (word_in table w))
      (λ e. inr (found e))
      (λ f. inl (pick-false (first + word_in table w) 0 f))
    where
      found : in_table table (word_in table w) ≡ true → (in_numbers first table (number_in first table w) ≡ true) × (numbered first table (number_in first table w) ≡ w)
      found e =
          let within : word_in table w < length table = ltb-true (word_in table w) (length table) e in
          let low : leb first (first + word_in table w) ≡ true = le-leb first (first + word_in table w) (omega arith) in
          let high : leb (first + word_in table w) (first + length table - 1) ≡ true = le-leb (first + word_in table w) (first + length table - 1) (omega arith) in
          let down : ltb (first + word_in table w) first ≡ false = le-ltb (first + word_in table w) first (omega arith) in
          rw e (both_true low high, rw (down, add-sub_cancel_left) (sym (same-is w (word_of table (word_in table w)) (index-found (same w) table [] within))))

  pub numbers-reads : Reads (number_in first table) (numbered first table) (in_numbers first table) 0
  numbers-reads = record {
    forth = number-forth;
    back = number-back;
    refuses = both-false-left (leb 0 (first + length table - 1)) (lt-leb first 0 pos);
  }

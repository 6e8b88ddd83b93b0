-- Readers of the form `pick test (if_good good none value) none`: the word passes a test, and its value stands where it is good.
use mathlib.Core.Bool.{Bool, true, false}
use mathlib.Core.List.{List}
use mathlib.Core.Logic.{◌⊎◌, inl, inr}
use mathlib.Core.Path.{◌≡◌, refl, sym}
use Prim.Native.Nat.{ℕ}
use Rattle.lists.specs.Choice.{pick}
use Rattle.lists.proofs.Choice.{by, clash}
use Rattle.figures.specs.Reads.{Reads, if_good}

-- The ways out of the code of such a reader: `v` is the value as the code has it, `r` what the code found of its goodness.

pub untested : {A : Type 0} {test : Bool} (value none : A) → test ≡ false → none ≡ pick test value none
untested value none t = cc

pub if-good-yes : {A : Type 0} (good : A → Bool) (none : A) {test r : Bool} {value v : A} → test ≡ true → v ≡ value → r ≡ good v → r ≡ true → v ≡ pick test (if_good good none value) none
if-good-yes good none t e g h = cc

pub if-good-no : {A : Type 0} (good : A → Bool) (none : A) {test r : Bool} {value v : A} → test ≡ true → v ≡ value → r ≡ good v → r ≡ false → none ≡ pick test (if_good good none value) none
if-good-no good none t e g h = cc

-- What `back` of `Reads` says of a word and the value v that it is read as; and a value that is kept where it is good says it.
module _ {A : Type 0} (spell : A → List ℕ) (good : A → Bool) (none : A) (w : List ℕ) where
  abbrev pub Back : A → Type 0
  Back v = (v ≡ none) ⊎ ((good v ≡ true) × (spell v ≡ w))

  pub if-good-back : (v : A) → (good v ≡ true → spell v ≡ w) → Back (if_good good none v)
  if-good-back v s = by (good v) (λ g. inr (rw g g, rw g (s g))) (λ f. inl (rw f))

-- Such a reader and its spelling: what is left to show is that a good value's spelling passes the test and has that value, and that a
-- word which passes the test and has a good value is its spelling.
pub if-good-reads : {A : Type 0} (test : List ℕ → Bool) (value : List ℕ → A) (spell : A → List ℕ) (good : A → Bool) (none : A)
    → ((v : A) → good v ≡ true → test (spell v) ≡ true)
    → ((v : A) → good v ≡ true → value (spell v) ≡ v)
    → ((w : List ℕ) → test w ≡ true → good (value w) ≡ true → spell (value w) ≡ w)
    → good none ≡ false
    → Reads (λ (w : List ℕ). pick (test w) (if_good good none (value w)) none) spell good none
if-good-reads test value spell good none passes gives spelled out = record {
  forth = λ v g. sym (if-good-yes good none (passes v g) (sym (gives v g)) (sym g) refl);
  back = λ w. by (test w)
      (λ t. rw t (if-good-back spell good none w (value w) (spelled w t)))
      (λ f. inl (rw f));
  refuses = out;
}

-- what is read as a good value is that value's spelling
pub reads-spelled : {A : Type 0} {read : List ℕ → A} {spell : A → List ℕ} {good : A → Bool} {none : A} → Reads read spell good none
    → (w : List ℕ) → good (read w) ≡ true → spell (read w) ≡ w
reads-spelled {read = read} {spell = spell} {good = good} {none = none} laws w g = go (laws.back w)
  where
    go : Back spell good none w (read w) → spell (read w) ≡ w
    go (inl e) = clash (good (read w)) g (rw e laws.refuses)
    go (inr p) = p.1

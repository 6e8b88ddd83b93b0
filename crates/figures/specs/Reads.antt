-- What every kind of word owes: a reader, a spelling, and which values are good.
-- Believed.
use Rattle.std.specs.Prelude.{Bool, true, false, List, ◌⊎◌, ◌≡◌, ℕ}
use Rattle.lists.specs.Choice.{pick}

-- forth: a spelled good value is read as that value. back: a word is not recognised, or is the spelling of its value, which is good
pub record Reads {A : Type 0} (read : List ℕ → A) (spell : A → List ℕ) (good : A → Bool) (none : A) : Type 0 where
  pub forth : (v : A) → good v ≡ true → read (spell v) ≡ v
  pub back : (w : List ℕ) → (read w ≡ none) ⊎ ((good (read w) ≡ true) × (spell (read w) ≡ w))
  pub refuses : good none ≡ false

-- the value where it is good
abbrev pub if_good : {A : Type 0} → (A → Bool) → A → A → A
if_good good none v = pick (good v) v none

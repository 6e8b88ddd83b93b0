-- Searching and testing a list, and a part of one.
-- Believed.
use Rattle.std.specs.Prelude.{Bool, true, false, List, [], ◌∷◌, ℕ, zero, suc, ◌+◌, ◌-◌, eqb, take, drop}
use Rattle.lists.specs.Choice.{pick, both}

-- the place of the first element that passes the test, or the length where none does
unfoldable pub index_of : {A : Type 0} → (A → Bool) → List A → ℕ
index_of f [] = zero
index_of f (x ∷ xs) = pick (f x) zero (suc (index_of f xs))

-- the same, looking from place i on
abbrev pub index_from : {A : Type 0} → (A → Bool) → ℕ → List A → ℕ
index_from f i xs = i + index_of f (drop i xs)

-- every element passes the test
unfoldable pub all_of : {A : Type 0} → (A → Bool) → List A → Bool
all_of f [] = true
all_of f (x ∷ xs) = both (f x) (all_of f xs)

-- the elements from place a up to place e, e not counted
abbrev pub part : {A : Type 0} → ℕ → ℕ → List A → List A
part a e xs = take (e - a) (drop a xs)

-- two lists of numbers are the same
unfoldable pub same : List ℕ → List ℕ → Bool
same [] [] = true
same [] (y ∷ ys) = false
same (x ∷ xs) [] = false
same (x ∷ xs) (y ∷ ys) = both (eqb x y) (same xs ys)

-- Numbers written in a base, the greatest place first: decimal figures and packed letters are both this.
-- Believed.
use Rattle.std.specs.Prelude.{List, [], ◌∷◌, ◌++◌, ℕ, zero, suc, ◌+◌, ◌*◌, ◌/◌, ◌%◌}

-- what the places are worth in base b, after a number already read
unfoldable pub worth_after : ℕ → ℕ → List ℕ → ℕ
worth_after b n [] = n
worth_after b n (d ∷ ds) = worth_after b (n * b + d) ds

-- what the places are worth in base b
abbrev pub worth : ℕ → List ℕ → ℕ
worth b ds = worth_after b 0 ds

-- the last k places of n in base b
unfoldable pub places : ℕ → ℕ → ℕ → List ℕ
places b zero n = []
places b (suc k) n = places b k (n / b) ++ (n % b ∷ [])

-- Choosing by a test. A definition that goes by tests picks its case with `pick`, in the order in which the code tests.
-- Believed.
use Rattle.std.specs.Prelude.{Bool, true, false, Option, None, Some}

abbrev pub pick {ℓ} : {A : Type ℓ} → Bool → A → A → A
pick true a b = a
pick false a b = b

abbrev pub both : Bool → Bool → Bool
both true b = b
both false b = false

abbrev pub either : Bool → Bool → Bool
either true b = true
either false b = b

-- a value where it passes the test, and nothing where it does not: what a function that may find nothing answers
abbrev pub found : {A : Type 0} → (A → Bool) → A → Option A
found good v = pick (good v) (Some v) None

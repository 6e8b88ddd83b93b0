-- What the test that a number lies between two others tells.
use mathlib.Core.Bool.{true}
use mathlib.Core.Path.{◌≡◌}
use Prim.Native.Nat.{ℕ, ◌≤◌}
use lib.Dec.{leb}
use borrow.Author.Tests.{leb-true}
use Rattle.lists.proofs.Choice.{both_left, both_right}
use Rattle.words.specs.Bytes.{between}

pub between-low : (a b x : ℕ) → between a b x ≡ true → a ≤ x
between-low a b x t = leb-true a x (both_left (leb a x) (leb x b) t)

pub between-high : (a b x : ℕ) → between a b x ≡ true → x ≤ b
between-high a b x t = leb-true x b (both_right (leb a x) (leb x b) t)

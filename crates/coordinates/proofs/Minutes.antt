-- The signed value in minutes: its size.
use mathlib.Core.Path.{◌≡◌, refl}
use Prim.Native.Nat.{zero, suc, ◌+◌, ◌*◌}
use lib.Dec.{eqb}
use lib.IntN.{ℤ, pos, negsuc, neg_ℤ, nat_abs}
use Rattle.lists.specs.Choice.{either}
use Rattle.lists.proofs.Choice.{by}
use Rattle.coordinates.specs.Coordinates.{signed_of}
use Rattle.coordinates.specs.declared.Coordinate.{Coordinate}

pub abs_neg : (z : ℤ) → nat_abs (neg_ℤ z) ≡ nat_abs z
abs_neg (pos zero) = refl
abs_neg (pos (suc n)) = refl
abs_neg (negsuc n) = refl

-- the size of a coordinate's signed value is its minutes, whichever the letter
pub signed-size : (c : Coordinate) → nat_abs (signed_of c) ≡ c.degrees * 60 + c.minutes
unfolding signed_of
signed-size c = by (either (eqb c.letter 83) (eqb c.letter 87))
    (λ e. rw e (abs_neg (pos (c.degrees * 60 + c.minutes))))
    (λ e. rw e)

-- The axis that the code has, as the definitions have it.
-- Internal contract.
use Rattle.coordinates.specs.Coordinates.{Axis}
use Rattle.coordinates.specs.declared.axis.Axis.{Axis as CodeAxis}

abbrev pub axis_of : CodeAxis → Axis
axis_of a = record { width = a.width; greatest = a.greatest; plus = a.plus; minus = a.minus }

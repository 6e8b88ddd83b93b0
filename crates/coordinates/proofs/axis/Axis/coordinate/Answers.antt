-- `Axis::coordinate` meets its contract: a law for each way out.
use mathlib.Core.Bool.{false}
use mathlib.Core.Path.{◌≡◌, refl, sym, ◌∙◌}
use native.Mathlib.Omega.{arith}
use Rattle.coordinates.specs.Axes.{axis_of}
use Rattle.coordinates.specs.Coordinates.{good_coordinate, no_coordinate}
use Rattle.coordinates.specs.declared.axis.Axis.{Axis}
use Rattle.coordinates.proofs.Goodness.{none-bad}
use Rattle.coordinates.proofs.Ways.{other_length, in-degrees, in-minutes, no-degrees, no-degrees-then, no-minutes}
use Rattle.coordinates.proofs.axis.Axis.coordinate.Goals as goal

-- none is good on an axis that has letters
out : (a : Axis) → good_coordinate (axis_of a) no_coordinate ≡ false
out a = none-bad (axis_of a) a.lettered.0 a.lettered.1

pub returns-in_err-degrees : goal.returns-in_err-degrees
returns-in_err-degrees c = c.from_residual.ensures ∙ no-degrees (axis_of c.args.self) c.args.w.now (out c.args.self) c.args.self.few (omega arith) (omega arith) (sym c.three.ensures ∙ c.in_err-degrees.was)

pub returns-then-w-past : goal.returns-then-w-past
returns-then-w-past c = in-degrees (axis_of c.args.self) c.args.w.now (out c.args.self) c.args.self.few (omega arith) (omega arith) (sym c.three.ensures ∙ c.in_ok-degrees.was) c.keep.ensures

pub returns-then-w-past-2 : goal.returns-then-w-past-2
returns-then-w-past-2 c = other_length (axis_of c.args.self) c.args.w.now (out c.args.self) c.args.self.few refl (λ e. absurd (omega arith)) (λ e. absurd (omega arith))

pub returns-in_err-degrees-2 : goal.returns-in_err-degrees-2
returns-in_err-degrees-2 c =
    c.from_residual-in_err-degrees-2.ensures ∙ no-degrees-then (axis_of c.args.self) c.args.w.now (out c.args.self) c.args.self.few (omega arith) (omega arith) (sym c.three-2.ensures ∙ c.in_err-degrees-2.was)

pub returns-in_err-minutes : goal.returns-in_err-minutes
returns-in_err-minutes c =
    c.from_residual-in_err-minutes.ensures ∙ no-minutes (axis_of c.args.self) c.args.w.now (out c.args.self) c.args.self.few (omega arith) (omega arith) (sym c.two.ensures ∙ c.in_err-minutes.was)

pub returns : goal.returns
returns c =
    in-minutes (axis_of c.args.self) c.args.w.now (out c.args.self) c.args.self.few (omega arith) (omega arith) (sym c.three-2.ensures ∙ c.in_ok-degrees-2.was) (sym c.two.ensures ∙ c.in_ok-minutes.was) c.keep-2.ensures

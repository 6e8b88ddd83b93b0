-- `figures` meets its contract: the loop keeps what the figures still to be read add to the number.
use mathlib.Core.Bool.{true}
use mathlib.Core.Path.{◌≡◌, refl, sym, ◌∙◌}
use Prim.Native.Nat.{◌≤◌, ◌<◌}
use native.Mathlib.Omega.{arith}
use lib.Dec.{ltb}
use lib.ListN.{get_or, length-map, get_or-map}
use borrow.Author.Tests.{lt-ltb}
use Rattle.lists.proofs.Found.{found-some, found-none}
use Rattle.words.specs.Bytes.{digit}
use Rattle.figures.specs.Figures.{figure, figures_of}
use Rattle.figures.proofs.Reading.{begins, fits, below, goes, stops, ends, too_long}
use Rattle.figures.proofs.FigureLaws.{digit_low, figure-small}
use Rattle.figures.proofs.figures.Goals as goal
use Rattle.figures.proofs.figures.Goals.{Else-not-is_digit}

-- the byte that is read is a figure
read-digit : (c : Else-not-is_digit) → digit (get_or c.args.w.now c.loop-x.x-index 0) ≡ true
read-digit c = sym c.is_digit.ensures ∙ c.if-not-is_digit.false

read_low : (c : Else-not-is_digit) → 48 ≤ get_or c.args.w.now c.loop-x.x-index 0
read_low c = digit_low _ (read-digit c)

read_small : (c : Else-not-is_digit) → figure (get_or c.args.w.now c.loop-x.x-index 0) < 10
read_small c = figure-small _ (read-digit c)

pub returns-then-w-gt5 : goal.returns-then-w-gt5
unfolding figures_of
returns-then-w-gt5 c = found-none (λ n. ltb n 100000) (too_long 10 0 5 digit c.args.w.now _ 100000 (omega arith)) refl

pub loop-x-init : goal.loop-x-init
loop-x-init c = begins 10 0 5 digit _ _ (omega arith)

pub returns-then-not-is_digit : goal.returns-then-not-is_digit
unfolding figures_of
returns-then-not-is_digit c = found-none (λ n. ltb n 100000) (stops 10 0 5 digit _ _ c.loop-x.invariant 100000 (omega arith) (sym c.is_digit.ensures ∙ c.if-not-is_digit.true)) refl

pub overflow_mul-n : goal.overflow_mul-n
overflow_mul-n c = omega (arith, fits 10 0 5 digit _ _ c.loop-x.invariant {d = 0} (omega arith) (omega arith))

pub overflow_sub-n : goal.overflow_sub-n
overflow_sub-n c = omega (arith, read_low (goal.at.overflow_sub-n c).Else-not-is_digit)

pub overflow_cast-n : goal.overflow_cast-n
overflow_cast-n c = omega (arith, read_small (goal.at.overflow_cast-n c).Else-not-is_digit)

pub overflow_add-n : goal.overflow_add-n
overflow_add-n c = omega (arith, fits 10 0 5 digit _ _ c.loop-x.invariant (omega arith) (read_small (goal.at.overflow_add-n c).Else-not-is_digit))

pub loop-x-preserved : goal.loop-x-preserved
loop-x-preserved c = goes 10 0 5 digit _ _ c.loop-x.invariant (omega arith) (length-map c.args.w.now figure) (read-digit (goal.at.loop-x-preserved c).Else-not-is_digit) (get_or-map figure c.args.w.now _ 0) (read_small (goal.at.loop-x-preserved c).Else-not-is_digit)

pub returns : goal.returns
unfolding figures_of
returns c =
    found-some (λ n. ltb n 100000) (ends 10 0 5 digit _ _ c.loop-x.invariant 100000 (omega arith) (length-map c.args.w.now figure))
    (lt-ltb _ 100000 (omega (arith, below 10 0 5 digit _ _ c.loop-x.invariant (omega arith) (omega arith))))

-- `code` meets its contract: every byte fits its type, so the loop reads them all.
use mathlib.Core.Path.{refl}
use native.Mathlib.Omega.{arith}
use lib.ListN.{get_or}
use borrow.Author.Tests.{lt-ltb}
use Rattle.figures.specs.Codes.{byte, code_of}
use Rattle.figures.proofs.Reading.{begins, fits, goes, ends, too_long}
use Rattle.figures.proofs.code.Goals as goal

pub returns-then-w-gt7 : goal.returns-then-w-gt7
unfolding code_of
returns-then-w-gt7 c = too_long 256 1 7 byte c.args.w.now _ 0 (omega arith)

pub loop-x-init : goal.loop-x-init
loop-x-init c = begins 256 1 7 byte _ _ (omega arith)

pub overflow_mul-n : goal.overflow_mul-n
overflow_mul-n c = omega (arith, fits 256 1 7 byte _ _ c.loop-x.invariant {d = 0} (omega arith) (omega arith))

pub overflow_cast-n : goal.overflow_cast-n
overflow_cast-n c = omega (arith, c.type_inv.w c.loop-x.x-index)

pub overflow_add-n : goal.overflow_add-n
overflow_add-n c = omega (arith, fits 256 1 7 byte _ _ c.loop-x.invariant {d = get_or c.args.w.now c.loop-x.x-index 0} (omega arith) (omega (arith, c.type_inv.w c.loop-x.x-index)))

pub loop-x-preserved : goal.loop-x-preserved
loop-x-preserved c = goes 256 1 7 byte _ _ c.loop-x.invariant (omega arith) refl (lt-ltb _ 256 (omega (arith, c.type_inv.w c.loop-x.x-index))) refl (omega (arith, c.type_inv.w c.loop-x.x-index))

pub returns : goal.returns
unfolding code_of
returns c = ends 256 1 7 byte _ _ c.loop-x.invariant 0 (omega arith) refl

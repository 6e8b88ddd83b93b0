-- `code` meets its contract: every byte fits its type, so the loop reads them all.
use Rattle.figures.specs.Codes.{byte}
use Rattle.figures.proofs.Reading.{Reading}
use Rattle.figures.proofs.code.Given as goal

abbrev pub invariant-loop-x : goal.invariant-loop-x
invariant-loop-x l = Reading 256 1 7 byte l.w l.w l.n l.x-index

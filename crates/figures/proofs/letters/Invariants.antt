-- `letters` meets its contract: the loop keeps what the letters still to be read add to the number.
use Rattle.words.specs.Bytes.{letter}
use Rattle.figures.proofs.Reading.{Reading}
use Rattle.figures.proofs.letters.Given as goal

abbrev pub invariant-loop-x : goal.invariant-loop-x
invariant-loop-x l = Reading 256 0 4 letter l.w l.w l.n l.x-index

-- `figures` meets its contract: the loop keeps what the figures still to be read add to the number.
use mathlib.Core.List.{map}
use Rattle.words.specs.Bytes.{digit}
use Rattle.figures.specs.Figures.{figure}
use Rattle.figures.proofs.Reading.{Reading}
use Rattle.figures.proofs.figures.Given as goal

abbrev pub invariant-loop-x : goal.invariant-loop-x
invariant-loop-x l = Reading 10 0 5 digit l.w (map figure l.w) l.n l.x-index

-- Each turn takes a byte or more off the front of what is left of the text, and the buffer keeps what is put.
use Rattle.std.proofs.Common.{◌≤◌, length}
use Rattle.examples.proofs.texts.unescape.Given as goal

abbrev pub invariant-loop-at : goal.invariant-loop-at
invariant-loop-at l = l.at ≤ length l.out

abbrev pub decreases-loop-at : goal.decreases-loop-at
decreases-loop-at l = length l.rest

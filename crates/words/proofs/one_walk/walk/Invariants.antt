-- `one_walk::walk` meets its contract: no byte before place i is `=` or not allowed.
use Prim.Native.Nat.{◌-◌, ◌≤◌}
use Rattle.words.specs.Seen.{no_equals, all_seen}
use Rattle.words.proofs.KnownLaws.{Known}
use Rattle.words.proofs.one_walk.walk.Given as goal

abbrev pub invariant-loop-i : goal.invariant-loop-i
invariant-loop-i l = (l.i ≤ l.length) × Known l.b l.i (no_equals l.length) (all_seen (no_equals l.length) 0 l.b)

abbrev pub decreases-loop-i : goal.decreases-loop-i
decreases-loop-i l = l.length - l.i

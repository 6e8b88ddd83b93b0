-- `one_walk::SoFar::rest` meets its contract: what is known before place i, and the bytes from there on, come to what is wanted.
use Prim.Native.Nat.{ℕ}
use mathlib.Core.Path.{◌≡◌}
use lib.ListN.{drop}
use Rattle.words.specs.Seen.{shown, matters_from, all_seen}
use Rattle.words.proofs.KnownLaws.{Known}
use Rattle.words.proofs.one_walk.SoFar.rest.Given as goal

abbrev pub invariant-loop-i : goal.invariant-loop-i
invariant-loop-i l = (n : ℕ) → (l.least ≡ matters_from (shown n l.known)) × Known l.b l.i (shown n l.known) (all_seen (shown n l.fn.self) l.from (drop l.from l.b))

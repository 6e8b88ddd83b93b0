-- `put_listing` meets its contract: the records so far are on the page, and the next goes into the rest of it.
use mathlib.Core.Path.{◌≡◌}
use Prim.Native.Nat.{◌+◌, ◌*◌}
use lib.ListN.{length, take}
use Rattle.listing.specs.Holding.{PutsListing}
use Rattle.listing.proofs.put_listing.Given as goal

abbrev pub invariant-loop-p : goal.invariant-loop-p
invariant-loop-p l =
    (l.at ≡ 5 + l.p-index * 17) × (length l.out ≡ length l.initial.out) × PutsListing l.time (take l.p-index l.rows) l.initial.out l.at l.out

-- `put_listing` meets its contract: the records so far are on the page, and the next goes into the rest of it.
use mathlib.Core.Path.{◌≡◌, refl, ◌∙◌}
use Prim.Native.Nat.{◌+◌, ◌-◌, ◌*◌}
use native.Mathlib.Omega.{arith}
use lib.ListN.{length, take}
use lib.Seq.{take_all}
use borrow.Rule.Slice.PartMut.{put_mid}
use Rattle.listing.specs.Holding.{PutsListing}
use Rattle.listing.proofs.Loops.{lists-none, lists-more, lists-all, lists_at, lists-long}
use Rattle.listing.proofs.put_listing.Goals as goal
use Rattle.listing.proofs.put_listing.Goals.{After-put_record-at}

-- one record more, at the place behind it
one_more : (c : After-put_record-at) → PutsListing c.args.time (take (c.loop-p.p-index + 1) c.args.rows.now)
    c.put_time-at.new.out (c.loop-p.at + c.put_record-at.result)
    (put_mid c.loop-p.at (length c.loop-p.out - c.loop-p.at) c.loop-p.out c.put_record-at.new.out)
one_more c =
    let at = c.loop-p in
    let same = c.put_time-at.auto.out in
    let room = c.requires in
    lists-more c.args.rows.now at.p-index (omega arith) at.invariant.2 (omega (arith, same, room, at.invariant.0, at.invariant.1)) c.put_record-at.ensures

reaches : (c : After-put_record-at) → c.loop-p.at + c.put_record-at.result ≡ 5 + (c.loop-p.p-index + 1) * 17
reaches c = lists_at c.args.rows.now (c.loop-p.p-index + 1) (omega arith) (one_more c)

pub loop-p-init : goal.loop-p-init
loop-p-init c =
    let none = lists-none c.put_time-at.ensures (omega (arith, c.requires)) in
    (lists_at c.args.rows.now 0 (omega arith) none, refl, none)

pub overflow_add-at : goal.overflow_add-at
overflow_add-at c = omega (arith, reaches (goal.at.overflow_add-at c).After-put_record-at, c.requires)

pub loop-p-preserved : goal.loop-p-preserved
loop-p-preserved c =
    let at = c.loop-p in
    let same = c.put_time-at.auto.out in
    let room = c.requires in (
      reaches (goal.at.loop-p-preserved c).After-put_record-at,
      lists-long (take (at.p-index + 1) c.args.rows.now) (one_more (goal.at.loop-p-preserved c).After-put_record-at) (omega (arith, reaches (goal.at.loop-p-preserved c).After-put_record-at, same, room)),
      one_more (goal.at.loop-p-preserved c).After-put_record-at,
    )

pub shape_of-out : goal.shape_of-out
shape_of-out c = c.loop-p.invariant.1 ∙ c.put_time-at.auto.out

pub returns : goal.returns
returns c =
    let at = c.loop-p in
    let whole = take_all at.p-index c.args.rows.now (omega arith) in
    let done = rw whole at at.invariant.2 in
    lists-all c.args.rows.now c.put_time-at.ensures (omega (arith, c.requires)) done

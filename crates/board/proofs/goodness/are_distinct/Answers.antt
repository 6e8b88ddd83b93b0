-- `are_distinct` meets its contract.
use mathlib.Core.Path.{◌≡◌, refl, sym, ◌∙◌}
use native.Mathlib.Omega.{arith}
use lib.ListN.{length, drop, take, length-drop}
use Prim.Native.Nat.{ℕ, ◌-◌}
use mathlib.Core.List.{List}
use Rattle.places.specs.declared.Place.{Place}
use lib.Seq.{take_all}
use Rattle.lists.proofs.Choice.{either_left, either-right, either-false}
use Rattle.board.proofs.BoardLaws.{distinct-past, distinct-stop, distinct-end}
use borrow.Author.Rules.{rules}
use Rattle.board.proofs.goodness.are_distinct.Goals as goal
use Rattle.board.proofs.goodness.are_distinct.Goals.{else-not-empty_place-via-then-not-empty_place+else-not-differs_from_all, else-not-empty_place-via-else-not-empty_place}

-- the part of the places that is lent is all that stand behind
behind : (n : ℕ) (ps : List Place) → length ps ≡ 64 → take (64 - n) (drop n ps) ≡ drop n ps
behind n ps l = take_all (64 - n) (drop n ps) (omega (arith, length-drop n ps))

pub loop-i-init : goal.loop-i-init
loop-i-init c = (search rules, refl)

pub returns-then-not-differs_from_all : goal.returns-then-not-differs_from_all
returns-then-not-differs_from_all c =
    sym (c.loop-i.invariant.1
    ∙ distinct-stop c.args.places c.loop-i.i (omega arith) (either-false (sym c.if-not-empty_place.ensures) (rw (behind _ _ c.loop-i.invariant.0) at (sym c.if-not-differs_from_all.ensures))))

pub loop-i-preserved : goal.loop-i-preserved
loop-i-preserved c = (
  c.loop-i.invariant.0,
  c.loop-i.invariant.1
      ∙ distinct-past c.args.places c.loop-i.i (omega arith)
      (elim c.else-not-empty_place.branch [
        | else-not-empty_place-via-then-not-empty_place+else-not-differs_from_all w ↦ either-right _ (rw (behind _ _ c.loop-i.invariant.0) at (sym w.if-not-differs_from_all.ensures))
        | else-not-empty_place-via-else-not-empty_place w ↦ either_left _ (sym w.if-not-empty_place.ensures)
      ]),
)

pub returns : goal.returns
returns c = sym (c.loop-i.invariant.1 ∙ distinct-end c.args.places c.loop-i.i (omega arith))

-- `walks::first` meets its contract: whatever the test decides, the loop keeps what is still to be found.
use mathlib.Core.Path.{refl, sym, ◌∙◌}
use native.Mathlib.Omega.{arith}
use lib.Dec.{ltb}
use lib.ListN.{length}
use borrow.Author.Tests.{ltb-true, ltb-false}
use Rattle.lists.proofs.Choice.{by}
use Rattle.lists.proofs.Lists.{from-none}
use Rattle.words.proofs.Walk.{walk-found, walk-past}
use Rattle.words.proofs.walks.first.Goals as goal

pub loop-i-init : goal.loop-i-init
loop-i-init g c = λ f t. refl

pub returns-then-test : goal.returns-then-test
returns-then-test g c = λ f t. walk-found f c.args.b.now c.loop-i.i (c.loop-i.invariant f t) (omega arith) (sym (t _ _ c.test.ensures) ∙ c.if-test.true)

pub loop-i-preserved : goal.loop-i-preserved
loop-i-preserved g c = λ f t. walk-past f c.args.b.now c.loop-i.i (c.loop-i.invariant f t) (omega arith) (sym (t _ _ c.test.ensures) ∙ c.if-test.false)

pub returns : goal.returns
returns g c = λ f t. by (ltb (length c.args.b.now) c.args.start)
    (λ past. omega (arith, from-none f c.args.b.now c.args.start (omega (arith, ltb-true _ _ past)), ltb-true _ _ past))
    (λ within. omega (arith, c.loop-i.invariant f t, from-none f c.args.b.now c.loop-i.i (omega arith), ltb-false _ _ within))

-- `one_walk::walk` meets its contract: no byte before place i is `=` or not allowed.
use Prim.Native.Nat.{ℕ}
use mathlib.Core.List.{List}
use mathlib.Core.Path.{refl, ◌∙◌}
use native.Mathlib.Omega.{arith}
use lib.ListN.{length}
use Rattle.words.specs.Seen.{no_equals, all_seen}
use Rattle.words.proofs.KnownLaws.{Turn, turn-again, turn-quiet, known-comes}
use Rattle.words.proofs.one_walk.walk.Goals as goal
use Rattle.words.proofs.one_walk.walk.Goals.{After-kind_of-k3}

-- after the four reads: the bytes, and the turn's place
abbrev bytes-at : After-kind_of-k3 → List ℕ
bytes-at c = c.args.b.now

abbrev place_at : After-kind_of-k3 → ℕ
place_at c = c.loop-i.i

turn : (c : After-kind_of-k3)
    → Turn (bytes-at c) (place_at c) c.kind_of-k0.result c.kind_of-k1.result c.kind_of-k2.result c.kind_of-k3.result (no_equals (length (bytes-at c))) (all_seen (no_equals (length (bytes-at c))) 0 (bytes-at c))
turn c =
    record {
      before = c.loop-i.invariant.1;
      within = omega arith;
      first = c.kind_of-k0.ensures;
      second = c.kind_of-k1.ensures;
      third = c.kind_of-k2.ensures;
      fourth = c.kind_of-k3.ensures;
    }

pub loop-i-init : goal.loop-i-init
loop-i-init c = (omega arith, record { so = refl })

pub returns-then-k0-k1 : goal.returns-then-k0-k1
returns-then-k0-k1 c = c.answer.ensures ∙ known-comes (turn-again (turn (goal.at.returns-then-k0-k1 c).After-kind_of-k3) (c.turn-known.ensures _)) (c.rest.ensures _)

pub loop-i-preserved : goal.loop-i-preserved
loop-i-preserved c = (omega arith, turn-quiet (turn (goal.at.loop-i-preserved c).After-kind_of-k3) c.if-k0-k1.false)

pub returns : goal.returns
returns c = c.answer-2.ensures ∙ known-comes c.loop-i.invariant.1 (c.rest-2.ensures _)

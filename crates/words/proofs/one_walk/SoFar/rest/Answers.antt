-- `one_walk::SoFar::rest` meets its contract: what is known before place i, and the bytes from there on, come to what is wanted.
use mathlib.Core.Path.{refl, sym, ap}
use native.Mathlib.Omega.{arith}
use Rattle.words.specs.Seen.{shown}
use Rattle.words.specs.declared.one_walk.SoFar.{SoFar}
use Rattle.words.proofs.KnownLaws.{known-again, known-quiet, known-settled, known-end}
use Rattle.words.proofs.SeenLaws.{all_settled}
use Rattle.words.proofs.one_walk.SoFar.rest.Goals as goal
use Rattle.words.proofs.one_walk.SoFar.rest.Goals.{then-least-kind+in_default-known, else-least-kind}

pub returns-in-Barred : goal.returns-in-Barred
returns-in-Barred c = λ n. sym (all_settled _ _ _ (ap (λ (v : SoFar). (shown n v).number) c.in-Barred.is))

pub loop-i-init : goal.loop-i-init
loop-i-init c = λ n. (c.matters_from-least.ensures n, record { so = refl })

pub returns-in-Barred-known : goal.returns-in-Barred-known
returns-in-Barred-known c = λ n.
    known-settled (known-again (c.loop-i.invariant n).1 (omega arith) c.kind_of-kind.ensures (c.seen-known.ensures n)) (ap (λ (v : SoFar). (shown n v).number) c.in-Barred-known.is)

pub loop-i-preserved : goal.loop-i-preserved
loop-i-preserved c = λ n.
    let inv = c.loop-i.invariant n in
    elim c.if-least-kind.branch [
      | then-least-kind+in_default-known w ↦
          rw (w.known-is, w.least-is) (w.matters_from-least-then-least-kind.ensures n, known-again inv.1 (omega arith) c.kind_of-kind.ensures (w.seen-known.ensures n))
      | else-least-kind w ↦ rw (w.known-is, w.least-is) (inv.0, known-quiet inv.1 (omega arith) c.kind_of-kind.ensures (rw (← inv.0) w.if-least-kind.false))
    ]

pub returns : goal.returns
returns c = λ n. known-end (c.loop-i.invariant n).1 c.loop-i-test.false

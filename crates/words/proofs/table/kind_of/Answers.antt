-- `table::kind_of` meets its contract: the table's rule at the byte.
use native.Mathlib.Omega.{arith}
use Rattle.words.proofs.KindLaws.{kind-least, kind-most}
use borrow.Author.Rules.{rules}
use Rattle.words.proofs.table.kind_of.Goals as goal

pub returns : goal.returns
returns c =
    let x = c.args.x in
    let e = c.requires.right x (search rules) in
    record { is = e; least = omega (arith, e, kind-least x); most = omega (arith, e, kind-most x) }

-- `spot_of` meets its contract.
use mathlib.Core.Path.{◌≡◌}
use lib.ListN.{length}
use Rattle.std.specs.Prelude.{Err}
use Rattle.board.proofs.SettleLaws.{spot-held, spot-refused, spot-new}
use borrow.Author.Rules.{rules}
use Rattle.board.proofs.settling.spot_of.Goals as goal

pub returns-in_err-object : goal.returns-in_err-object
returns-in_err-object c =
    let refused : c.from_residual.result ≡ Err c.in_err-object.field-0.0 = search rules in
    rw refused (spot-refused _ _ c.find.ensures c.in-Some.is _ c.in_err-object.ensures)

pub returns-in-Some : goal.returns-in-Some
returns-in-Some c = let long : length c.args.places ≡ 64 = search rules in spot-held _ _ long c.find.ensures c.in-Some.is c.in_ok-object.ensures

pub returns : goal.returns
returns c = let long : length c.args.places ≡ 64 = search rules in spot-new _ _ long c.find.ensures c.in_default.is c.find_empty.ensures c.ok_or.ensures.value

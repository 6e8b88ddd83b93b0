-- `accept` meets its contract.
use mathlib.Core.Path.{◌≡◌}
use Rattle.std.specs.Prelude.{Err}
use Rattle.board.proofs.SettleLaws.{posts-not, claims-not, settles-not, settles}
use borrow.Author.Rules.{rules}
use Rattle.board.proofs.Board.accept.Goals as goal

pub returns-in_err-refusal_at : goal.returns-in_err-refusal_at
returns-in_err-refusal_at c =
    let refused : c.from_residual.result ≡ Err c.in_err-refusal_at.field-0.0 = search rules in
    rw refused (posts-not _ _ _ _ c.in_err-refusal_at.ensures)

pub returns-in_err-place : goal.returns-in_err-place
returns-in_err-place c =
    let refused : c.from_residual-in_err-place.result ≡ Err c.in_err-place.field-0.0 = search rules in
    rw refused (claims-not _ _ _ c.in_ok-refusal_at.ensures _ c.in_err-place.ensures)

pub returns-in_err-at : goal.returns-in_err-at
returns-in_err-at c =
    let refused : c.from_residual-in_err-at.result ≡ Err c.in_err-at.field-0.0 = search rules in
    rw refused (settles-not _ _ _ c.in_ok-refusal_at.ensures c.in_ok-place.ensures c.drop_ended-places.ensures _ c.in_err-at.ensures)

pub returns : goal.returns
returns c = settles _ _ _ c.in_ok-refusal_at.ensures c.in_ok-place.ensures c.drop_ended-places.ensures c.in_ok-at.ensures

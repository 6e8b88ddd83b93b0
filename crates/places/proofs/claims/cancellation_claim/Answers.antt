-- `cancellation_claim` meets its contract.
use borrow.Author.Rules.{rules}
use Rattle.places.proofs.ClaimReturns.{no-target, a-target}
use Rattle.places.proofs.claims.cancellation_claim.Goals as goal

pub returns-in_err-target : goal.returns-in_err-target
returns-in_err-target c = no-target _ _ _ _ _ c.target_of.ensures c.ok_or.ensures.value c.in_err-target.was (search rules)

pub returns : goal.returns
returns c = a-target _ _ _ _ _ c.target_of.ensures c.ok_or.ensures.value (search rules) c.identity_of.ensures c.ending_at.ensures

-- `claim_of` meets its contract.
use borrow.Author.Rules.{rules}
use Rattle.places.proofs.ClaimReturns.{no-start, no-end, a-claim}
use Rattle.places.proofs.claims.claim_of.Goals as goal

pub returns-in_err-start : goal.returns-in_err-start
returns-in_err-start c = no-start _ _ (search rules) (search rules) c.start_of.ensures c.ok_or.ensures.value c.in_err-start.was (search rules)

pub returns-in_err-end : goal.returns-in_err-end
returns-in_err-end c =
    no-end _ _ (search rules) (search rules) c.start_of.ensures c.ok_or.ensures.value (search rules) c.end_of.ensures c.ok_or-2.ensures.value c.in_err-end.was (search rules)

pub returns : goal.returns
returns c =
    a-claim _ _ (search rules) (search rules) c.start_of.ensures c.ok_or.ensures.value (search rules) c.end_of.ensures c.ok_or-2.ensures.value (search rules) c.timed_claim.ensures

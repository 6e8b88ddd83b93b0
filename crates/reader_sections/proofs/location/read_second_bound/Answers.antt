-- `read_second_bound` meets its contract: with AND a letter and a longitude bound, without it the bound is over.
use mathlib.Core.Path.{refl, sym}
use borrow.Author.Rules.{rules}
use Rattle.vocabulary.proofs.FixedWords.{fixed-and}
use Rattle.message.specs.Locations.{no_side}
use Rattle.grammar.specs.Placing.{place_step}
use Rattle.grammar.specs.Records.{bounded}
use Rattle.grammar.specs.States.Placing.{at_and, at_second_bound, at_longitude_of}
use Rattle.grammar.specs.States.State.{at_place}
use Rattle.grammar.specs.States.{Site}
use Rattle.reader_sections.specs.Steps.{Reaches}
use Rattle.reader_sections.proofs.Leads.{then, then-ends, then-leads, leads-err}
use Rattle.reader_sections.proofs.Locating.{on_step, past-step, following-number, east-letters, required-side, no-required-side}
use Rattle.reader_sections.proofs.OneWord.{given, left_out}
use Rattle.reader_sections.proofs.location.read_second_bound.Goals as goal
use Rattle.reader_sections.proofs.location.read_second_bound.Goals.{In-Some}

past-and : (c : In-Some) (site : Site) → Reaches (at_place site (at_and c.args.north)) c.args.step (at_place site (at_second_bound c.args.north)) c.in-Some.step
unfolding place_step
past-and c site = given fixed-and _ c.in-Some.ensures (λ y. on_step site (at_and c.args.north) _ (rw y refl))

pub returns-in_err-side : goal.returns-in_err-side
unfolding place_step
returns-in_err-side c = record {
  says = λ site n. leads-err
      (then-ends (past-and (goal.at.returns-in_err-side c).In-Some site)
      (no-required-side east-letters _ c.code.ensures c.side_of-side.ensures c.in_err-side.ensures site (at_second_bound c.args.north) n (λ y. rw y refl)))
      (search rules);
}

pub returns-in-Some : goal.returns-in-Some
unfolding place_step
returns-in-Some c = record {
  says = λ site n. then-leads
      (then (past-and (goal.at.returns-in-Some c).In-Some site)
      (required-side east-letters _ c.code.ensures c.side_of-side.ensures c.in_ok-side.ensures site (at_second_bound c.args.north) (at_longitude_of c.args.north) (λ y. rw y refl)))
      (c.read_longitude_bound.ensures.says site n);
}

pub returns : goal.returns
unfolding place_step
returns c = record {
  says = λ site n. record {
    says = rw c.bounded.ensures
        (left_out fixed-and _ c.in_default.ensures (sym (following-number site (bounded c.args.north no_side))) (λ z. past-step site (at_and c.args.north) _ (rw z refl)));
  };
}

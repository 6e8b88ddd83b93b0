-- `cancelled_word` meets its contract: what is no period cancels nothing.
use mathlib.Core.Path.{◌≡◌, refl, sym, ◌∙◌}
use borrow.Author.Rules.{rules}
use Rattle.std.specs.Prelude.{None}
use Rattle.lists.proofs.Choice.{both-false-left}
use Rattle.lists.proofs.Found.{found-some, found-none, some-is, none-bad}
use Rattle.groups.specs.Groups.{good_period}
use Rattle.grammar.specs.Steps.{cancels}
use Rattle.reader_sections.proofs.cancellation.cancelled_word.Goals as goal

pub returns-in_err-period : goal.returns-in_err-period
unfolding cancels
returns-in_err-period c =
    let none : c.from_residual.result ≡ None = search rules in
    rw none (found-none (cancels c.args.line c.args.sequence) refl (both-false-left _ (none-bad good_period c.in_err-period.ensures)))

pub returns-then-named : goal.returns-then-named
returns-then-named c =
    found-some (cancels c.args.line c.args.sequence) (some-is good_period c.in_ok-period.ensures) (sym c.cancels-named.ensures ∙ c.if-named.true)

pub returns-else-named : goal.returns-else-named
returns-else-named c =
    found-none (cancels c.args.line c.args.sequence) (some-is good_period c.in_ok-period.ensures) (sym c.cancels-named.ensures ∙ c.if-named.false)

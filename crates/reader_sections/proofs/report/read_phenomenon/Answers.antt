-- `read_phenomenon` meets its contract: by the kind of the bulletin.
use mathlib.Core.List.{List}
use mathlib.Core.Path.{◌≡◌, sym, ◌∙◌}
use Prim.Native.Nat.{ℕ}
use borrow.Author.Rules.{rules}
use borrow.Author.Tests.{eq-eqb, ne_eqb}
use Rattle.grammar.specs.Placing.{is}
use Rattle.grammar.specs.States.State.{at_form, at_ash}
use Rattle.grammar.specs.States.{ToArea}
use Rattle.grammar.specs.Steps.{goes_if, step_weather, kind_of, step_form, step}
use Rattle.reader_sections.specs.Reports.{Reporting}
use Rattle.reader_sections.proofs.Leads.{leads-err}
use Rattle.reader_sections.proofs.report.read_phenomenon.Goals as goal

-- the first word of a report is judged by the kind of the bulletin
module _ (o : ToArea) (w : List ℕ) (r : Reporting w) where
  weather-form : kind_of o ≡ 2 → step (at_form o) w ≡ step_weather o w
  unfolding step step_form
  weather-form k = rw (r.no_test, r.no-long-test, r.no-cancellation, eq-eqb (kind_of o) 2 k)

  ash-form : (kind_of o ≡ 2 → ⊥) → step (at_form o) w ≡ goes_if (is "VA" w) (at_ash o)
  unfolding step step_form
  ash-form k = rw (r.no_test, r.no-long-test, r.no-cancellation, ne_eqb (kind_of o) 2 k)

pub returns-in_err-phenomenon : goal.returns-in_err-phenomenon
returns-in_err-phenomenon c =
    record { says = λ o k r. leads-err (c.in_err-phenomenon.ensures.says o (weather-form o _ r (k ∙ c.if-kind-eq-KIND_WS.true))).says (search rules) }

pub returns-then-kind-eq-KIND_WS : goal.returns-then-kind-eq-KIND_WS
returns-then-kind-eq-KIND_WS c = record { says = λ o k r. record { says = (c.in_ok-phenomenon.ensures.says o (weather-form o _ r (k ∙ c.if-kind-eq-KIND_WS.true))).says } }

pub returns : goal.returns
returns c = record { says = λ o k r. c.read_ash.ensures.says o (ash-form o _ r (λ y. c.if-kind-eq-KIND_WS.false (sym k ∙ y))) }

-- `read_radioactive` meets its contract: CLD.
use mathlib.Core.List.{List}
use mathlib.Core.Path.{refl}
use Prim.Native.Nat.{ℕ}
use borrow.Author.Rules.{rules}
use Rattle.vocabulary.specs.Codes.{code-cld}
use Rattle.vocabulary.proofs.FixedWords.{fixed-cld}
use Rattle.grammar.specs.States.State.{at_radioactive}
use Rattle.grammar.specs.States.{ToArea}
use Rattle.grammar.specs.Steps.{step}
use Rattle.reader_sections.specs.declared.parts.Part.TheVariants.{Form}
use Rattle.reader_sections.specs.Phenomena.{observing}
use Rattle.reader_sections.proofs.Leads.{leads-err}
use Rattle.reader_sections.proofs.OneWord.{AcceptsFixed, took-fixed, missed-fixed}
use Rattle.reader_sections.proofs.phenomenon_ws.read_radioactive.Goals as goal

cld : (o : ToArea) (w : List ℕ) → AcceptsFixed (at_radioactive o) Form code-cld (observing o 15) w
unfolding step
cld o w = record { word = _; fixed = fixed-cld; does = refl; number = refl }

pub returns-in_err-step : goal.returns-in_err-step
returns-in_err-step c = λ o. leads-err (missed-fixed (cld o _) c.in_err-step.ensures) (search rules)

pub returns : goal.returns
returns c = λ o. record { says = took-fixed (cld o _) c.in_ok-step.ensures }

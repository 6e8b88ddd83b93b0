-- `read_top` meets its contract: with ABV or without it, FLnnn.
use mathlib.Core.List.{List}
use mathlib.Core.Path.{refl}
use Prim.Native.Nat.{ℕ}
use borrow.Author.Rules.{rules}
use Rattle.std.specs.Prelude.{None}
use Rattle.vocabulary.specs.Codes.{code-abv}
use Rattle.vocabulary.proofs.FixedWords.{fixed-abv}
use Rattle.levels.specs.declared.Level.TheVariants.{TopFlight, TopAboveFlight}
use Rattle.levels.specs.Levels.{flight}
use Rattle.grammar.specs.States.State.{at_top, at_top_above}
use Rattle.grammar.specs.States.{ToLocation}
use Rattle.grammar.specs.Steps.{levelled, step}
use Rattle.reader_sections.specs.declared.parts.Part.TheVariants as part
use Rattle.reader_sections.specs.declared.step.Step.{Step}
use Rattle.reader_sections.specs.Reports.{flight_in}
use Rattle.reader_sections.specs.Steps.{next_word, Perhaps, Reaches}
use Rattle.reader_sections.proofs.WordKinds.{flight-only}
use Rattle.reader_sections.proofs.Leads.{then, then-ends, leads-err}
use Rattle.reader_sections.proofs.OneWord.{Accepts, took, missed, given, without}
use Rattle.reader_sections.proofs.level.read_top.Goals as goal
use Rattle.reader_sections.proofs.level.read_top.Goals.{In-Some}

above : (q : ToLocation) (w : List ℕ) → Accepts (at_top_above q) part.Level flight_in flight (λ n. levelled q (TopAboveFlight n)) w
unfolding step
above q w = record { does = refl; number = refl; only = flight-only }

plain : (q : ToLocation) (from : Step) → Perhaps code-abv from None → Accepts (at_top q) part.Level flight_in flight (λ n. levelled q (TopFlight n)) (next_word from)
unfolding step
plain q from n = record { does = rw (without fixed-abv from n) refl; number = refl; only = flight-only }

past-abv : (c : In-Some) (q : ToLocation) → Reaches (at_top q) c.args.step (at_top_above q) c.in-Some.step
unfolding step
past-abv c q = given fixed-abv _ c.in-Some.ensures (λ y. rw y refl)

pub returns-in_err-n : goal.returns-in_err-n
returns-in_err-n c =
    λ q. leads-err (then-ends (past-abv (goal.at.returns-in_err-n c).In-Some q) (missed _ (above q _) c.word.ensures c.flight_word.ensures c.in_err-n.ensures)) (search rules)

pub returns-in-Some : goal.returns-in-Some
returns-in-Some c = λ q. record { says = then (past-abv (goal.at.returns-in-Some c).In-Some q) (took _ (above q _) c.word.ensures c.flight_word.ensures c.in_ok-n.ensures) }

pub returns-in_err-n-2 : goal.returns-in_err-n-2
returns-in_err-n-2 c = λ q. leads-err (missed _ (plain q _ c.in_default.ensures) c.word-2.ensures c.flight_word-2.ensures c.in_err-n-2.ensures) (search rules)

pub returns : goal.returns
returns c = λ q. record { says = took _ (plain q _ c.in_default.ensures) c.word-2.ensures c.flight_word-2.ensures c.in_ok-n-2.ensures }

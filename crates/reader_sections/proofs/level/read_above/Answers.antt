-- `read_above` meets its contract: FLnnn.
use mathlib.Core.List.{List}
use mathlib.Core.Path.{refl}
use Prim.Native.Nat.{ℕ}
use borrow.Author.Rules.{rules}
use Rattle.levels.specs.declared.Level.TheVariants.{AboveFlight}
use Rattle.levels.specs.Levels.{flight}
use Rattle.grammar.specs.States.State.{at_above}
use Rattle.grammar.specs.States.{ToLocation}
use Rattle.grammar.specs.Steps.{levelled, step}
use Rattle.reader_sections.specs.declared.parts.Part.TheVariants as part
use Rattle.reader_sections.specs.Reports.{flight_in}
use Rattle.reader_sections.proofs.WordKinds.{flight-only}
use Rattle.reader_sections.proofs.Leads.{leads-err}
use Rattle.reader_sections.proofs.OneWord.{Accepts, took, missed}
use Rattle.reader_sections.proofs.level.read_above.Goals as goal

above : (q : ToLocation) (w : List ℕ) → Accepts (at_above q) part.Level flight_in flight (λ n. levelled q (AboveFlight n)) w
unfolding step
above q w = record { does = refl; number = refl; only = flight-only }

pub returns-in_err-n : goal.returns-in_err-n
returns-in_err-n c = λ q. leads-err (missed _ (above q _) c.word.ensures c.flight_word.ensures c.in_err-n.ensures) (search rules)

pub returns : goal.returns
returns c = λ q. record { says = took _ (above q _) c.word.ensures c.flight_word.ensures c.in_ok-n.ensures }

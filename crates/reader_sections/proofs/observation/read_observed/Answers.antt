-- `read_observed` meets its contract: with AT a time, without it the location is next.
use mathlib.Core.List.{List}
use mathlib.Core.Path.{refl}
use Prim.Native.Nat.{ℕ}
use borrow.Author.Rules.{rules}
use Rattle.vocabulary.proofs.FixedWords.{fixed-at}
use Rattle.groups.specs.Groups.{time_of, good_time}
use Rattle.grammar.specs.Records.{timed_at}
use Rattle.grammar.specs.States.Placing.{at_location}
use Rattle.grammar.specs.States.Site.{in_report}
use Rattle.grammar.specs.States.State.{at_observed, at_observed_time, at_place}
use Rattle.grammar.specs.States.{ToPhenomenon}
use Rattle.grammar.specs.Steps.{step}
use Rattle.reader_sections.specs.declared.parts.Part.TheVariants as part
use Rattle.reader_sections.specs.Steps.{Reaches}
use Rattle.reader_sections.proofs.WordKinds.{time-only}
use Rattle.reader_sections.proofs.Leads.{then, then-ends, leads-err}
use Rattle.reader_sections.proofs.OneWord.{Accepts, took, missed, given, left_out}
use Rattle.reader_sections.proofs.observation.read_observed.Goals as goal
use Rattle.reader_sections.proofs.observation.read_observed.Goals.{In-Some}

time : (p : ToPhenomenon) (n : ℕ) (w : List ℕ)
    → Accepts (at_observed_time p n) part.Observation time_of good_time (λ t. at_place (in_report (record { before = p; observation = timed_at n t })) at_location) w
unfolding step
time p n w = record { does = refl; number = refl; only = time-only }

past-at : (c : In-Some) (p : ToPhenomenon) → Reaches (at_observed p c.args.word) c.args.step (at_observed_time p c.args.word) c.in-Some.step
unfolding step
past-at c p = given fixed-at _ c.in-Some.ensures (λ y. rw y refl)

pub returns-in_err-time : goal.returns-in_err-time
returns-in_err-time c =
    λ p. leads-err (then-ends (past-at (goal.at.returns-in_err-time c).In-Some p) (missed _ (time p _ _) c.word.ensures c.time_word.ensures c.in_err-time.ensures)) (search rules)

pub returns-in-Some : goal.returns-in-Some
returns-in-Some c = λ p. record { says = then (past-at (goal.at.returns-in-Some c).In-Some p) (took _ (time p _ _) c.word.ensures c.time_word.ensures c.in_ok-time.ensures) }

pub returns : goal.returns
unfolding step
returns c = λ p. record { says = left_out fixed-at _ c.in_default.ensures refl (λ n. rw n refl) }

-- `read_cancellation` meets its contract: three words, the last of which cancels.
use borrow.Author.Rules.{rules}
use mathlib.Core.List.{List}
use mathlib.Core.Path.{refl}
use Prim.Native.Nat.{ℕ}
use mathlib.Core.Path.{◌≡◌, ap}
use Rattle.vocabulary.specs.Codes.{code-sigmet}
use Rattle.vocabulary.proofs.FixedWords.{fixed-sigmet}
use Rattle.groups.specs.Groups.{period_of}
use Rattle.headings.specs.declared.Sequence.{Sequence}
use Rattle.headings.specs.Sequences.{sequence_of, good_sequence}
use Rattle.message.specs.declared.FirstLine.{FirstLine}
use Rattle.grammar.specs.Records.{cancellation_of}
use Rattle.grammar.specs.States.State.{at_cancel_sigmet, at_cancel_sequence, at_cancel_period, at_end}
use Rattle.grammar.specs.States.{ToArea}
use Rattle.grammar.specs.Steps.{goes_if, cancels, step}
use Rattle.reader_sections.specs.declared.parts.Part.TheVariants.{Form}
use Rattle.reader_sections.proofs.WordKinds.{sequence-only, cancelled-only}
use Rattle.reader_sections.specs.Steps.{Reaches}
use Rattle.reader_sections.proofs.Leads.{leads-err, then, then-ends}
use Rattle.reader_sections.proofs.OneWord.{Accepts, AcceptsFixed, missed, missed-fixed, took, took-fixed}
use Rattle.reader_sections.proofs.cancellation.read_cancellation.Goals as goal
use Rattle.reader_sections.proofs.cancellation.read_cancellation.Goals.{In_ok-step, In_ok-sequence, In_ok-target}

sigmet : (o : ToArea) (w : List ℕ) → AcceptsFixed (at_cancel_sigmet o) Form code-sigmet (at_cancel_sequence o) w
unfolding step
sigmet o w = record { word = _; fixed = fixed-sigmet; does = refl; number = refl }

sequence : (o : ToArea) (w : List ℕ) → Accepts (at_cancel_sequence o) Form sequence_of good_sequence (at_cancel_period o) w
unfolding step
sequence o w = record { does = refl; number = refl; only = sequence-only }

period : (o : ToArea) (l : FirstLine) (s : Sequence) (w : List ℕ) → o.line ≡ l → Accepts (at_cancel_period o s) Form period_of (cancels l s) (λ p. at_end (cancellation_of o s p.from)) w
unfolding step
period o l s w e = record {
  does = ap (λ (k : FirstLine). goes_if (cancels k s (period_of w)) (at_end (cancellation_of o s (period_of w).from))) e;
  number = refl;
  only = cancelled-only l s;
}

past-step : (c : In_ok-step) (o : ToArea) (e : o.line ≡ c.args.line) → Reaches (at_cancel_sigmet o) c.args.step (at_cancel_sequence o) c.in_ok-step.step
past-step c o e = took-fixed (sigmet o _) c.in_ok-step.ensures

past-sequence : (c : In_ok-sequence) (o : ToArea) (e : o.line ≡ c.args.line) → Reaches (at_cancel_sigmet o) c.args.step (at_cancel_period o c.in_ok-sequence.sequence) c.in_ok-sequence.step
past-sequence c o e = then (past-step (goal.at.In_ok-sequence c).In_ok-step o e) (took _ (sequence o _) c.word.ensures c.sequence_word.ensures c.in_ok-sequence.ensures)

past-target : (c : In_ok-target) (o : ToArea) (e : o.line ≡ c.args.line) → Reaches (at_cancel_sigmet o) c.args.step (at_end (cancellation_of o c.in_ok-sequence.sequence c.in_ok-target.target.from)) c.in_ok-target.step
past-target c o e = then (past-sequence (goal.at.In_ok-target c).In_ok-sequence o e) (took _ (period o _ _ _ e) c.word-2.ensures c.cancelled_word-target.ensures c.in_ok-target.ensures)

pub returns-in_err-step : goal.returns-in_err-step
returns-in_err-step c = λ o e. leads-err (missed-fixed (sigmet o _) c.in_err-step.ensures) (search rules)

pub returns-in_err-sequence : goal.returns-in_err-sequence
returns-in_err-sequence c = λ o e. leads-err (then-ends (past-step (goal.at.returns-in_err-sequence c).In_ok-step o e) (missed _ (sequence o _) c.word.ensures c.sequence_word.ensures c.in_err-sequence.ensures)) (search rules)

pub returns-in_err-target : goal.returns-in_err-target
returns-in_err-target c = λ o e. leads-err (then-ends (past-sequence (goal.at.returns-in_err-target c).In_ok-sequence o e) (missed _ (period o _ _ _ e) c.word-2.ensures c.cancelled_word-target.ensures c.in_err-target.ensures)) (search rules)

pub returns : goal.returns
returns c = λ o e. record { says = past-target (goal.at.returns c).In_ok-target o e }

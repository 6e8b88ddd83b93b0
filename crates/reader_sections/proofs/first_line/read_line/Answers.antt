-- `read_line` meets its contract: six words, one after another.
use borrow.Author.Rules.{rules}
use mathlib.Core.List.{List}
use mathlib.Core.Path.{refl}
use Prim.Native.Nat.{ℕ}
use lib.Dec.{ltb}
use Rattle.figures.specs.Letters.{letters_of, good_letters}
use Rattle.vocabulary.specs.Codes.{code-sigmet, code-valid}
use Rattle.vocabulary.proofs.FixedWords.{fixed-sigmet, fixed-valid}
use Rattle.groups.specs.declared.Period.{Period}
use Rattle.groups.specs.Groups.{period_of, good_period}
use Rattle.headings.specs.declared.Sequence.{Sequence}
use Rattle.headings.specs.Headings.{office_of}
use Rattle.headings.specs.Sequences.{sequence_of, good_sequence}
use Rattle.message.specs.declared.Heading.{Heading}
use Rattle.grammar.specs.States.State.{at_unit, at_sigmet, at_sequence, at_valid, at_period, at_office, at_indicator}
use Rattle.grammar.specs.Steps.{step}
use Rattle.reader_sections.specs.declared.parts.Part.TheVariants.{FirstLine}
use Rattle.reader_sections.proofs.WordKinds.{four-letters, sequence-only, period-only, office-only}
use Rattle.reader_sections.specs.Steps.{Reaches}
use Rattle.reader_sections.proofs.Leads.{leads-err, then, then-ends}
use Rattle.reader_sections.proofs.OneWord.{Accepts, AcceptsFixed, missed, missed-fixed, took, took-fixed}
use Rattle.reader_sections.proofs.first_line.read_line.Goals as goal
use Rattle.reader_sections.proofs.first_line.read_line.Goals.{In_ok-unit, In_ok-step, In_ok-sequence, In_ok-step-2, In_ok-valid, In_ok-office}

unit : (h : Heading) (w : List ℕ) → Accepts (at_unit h) FirstLine (letters_of 4) (ltb 0) (at_sigmet h) w
unfolding step
unit h w = four-letters refl refl

sigmet : (h : Heading) (u : ℕ) (w : List ℕ) → AcceptsFixed (at_sigmet h u) FirstLine code-sigmet (at_sequence h u) w
unfolding step
sigmet h u w = record { word = _; fixed = fixed-sigmet; does = refl; number = refl }

sequence : (h : Heading) (u : ℕ) (w : List ℕ) → Accepts (at_sequence h u) FirstLine sequence_of good_sequence (at_valid h u) w
unfolding step
sequence h u w = record { does = refl; number = refl; only = sequence-only }

valid : (h : Heading) (u : ℕ) (s : Sequence) (w : List ℕ) → AcceptsFixed (at_valid h u s) FirstLine code-valid (at_period h u s) w
unfolding step
valid h u s w = record { word = _; fixed = fixed-valid; does = refl; number = refl }

period : (h : Heading) (u : ℕ) (s : Sequence) (w : List ℕ) → Accepts (at_period h u s) FirstLine period_of good_period (at_office h u s) w
unfolding step
period h u s w = record { does = refl; number = refl; only = period-only }

office : (h : Heading) (u : ℕ) (s : Sequence) (p : Period) (w : List ℕ)
    → Accepts (at_office h u s p) FirstLine office_of (good_letters 4) (λ o. at_indicator h (record { unit = u; sequence = s; valid = p; office = o })) w
unfolding step
office h u s p w = record { does = refl; number = refl; only = office-only }

past-unit : (c : In_ok-unit) (h : Heading) → Reaches (at_unit h) c.args.step (at_sigmet h c.in_ok-unit.unit) c.in_ok-unit.step
past-unit c h = took _ (unit h _) c.word.ensures c.letters.ensures c.in_ok-unit.ensures

past-step : (c : In_ok-step) (h : Heading) → Reaches (at_unit h) c.args.step (at_sequence h c.in_ok-unit.unit) c.in_ok-step.step
past-step c h = then (past-unit (goal.at.In_ok-step c).In_ok-unit h) (took-fixed (sigmet h _ _) c.in_ok-step.ensures)

past-sequence : (c : In_ok-sequence) (h : Heading) → Reaches (at_unit h) c.args.step (at_valid h c.in_ok-unit.unit c.in_ok-sequence.sequence) c.in_ok-sequence.step
past-sequence c h = then (past-step (goal.at.In_ok-sequence c).In_ok-step h) (took _ (sequence h _ _) c.word-2.ensures c.sequence_word.ensures c.in_ok-sequence.ensures)

past-step-2 : (c : In_ok-step-2) (h : Heading) → Reaches (at_unit h) c.args.step (at_period h c.in_ok-unit.unit c.in_ok-sequence.sequence) c.in_ok-step-2.step
past-step-2 c h = then (past-sequence (goal.at.In_ok-step-2 c).In_ok-sequence h) (took-fixed (valid h _ _ _) c.in_ok-step-2.ensures)

past-valid : (c : In_ok-valid) (h : Heading) → Reaches (at_unit h) c.args.step (at_office h c.in_ok-unit.unit c.in_ok-sequence.sequence c.in_ok-valid.valid) c.in_ok-valid.step
past-valid c h = then (past-step-2 (goal.at.In_ok-valid c).In_ok-step-2 h) (took _ (period h _ _ _) c.word-3.ensures c.period_word.ensures c.in_ok-valid.ensures)

past-office : (c : In_ok-office) (h : Heading) → Reaches (at_unit h) c.args.step (at_indicator h (record { unit = c.in_ok-unit.unit; sequence = c.in_ok-sequence.sequence; valid = c.in_ok-valid.valid; office = c.in_ok-office.office })) c.in_ok-office.step
past-office c h = then (past-valid (goal.at.In_ok-office c).In_ok-valid h) (took _ (office h _ _ _ _) c.word-4.ensures c.office_word.ensures c.in_ok-office.ensures)

pub returns-in_err-unit : goal.returns-in_err-unit
returns-in_err-unit c = λ h. leads-err (missed _ (unit h _) c.word.ensures c.letters.ensures c.in_err-unit.ensures) (search rules)

pub returns-in_err-step : goal.returns-in_err-step
returns-in_err-step c = λ h. leads-err (then-ends (past-unit (goal.at.returns-in_err-step c).In_ok-unit h) (missed-fixed (sigmet h _ _) c.in_err-step.ensures)) (search rules)

pub returns-in_err-sequence : goal.returns-in_err-sequence
returns-in_err-sequence c = λ h. leads-err (then-ends (past-step (goal.at.returns-in_err-sequence c).In_ok-step h) (missed _ (sequence h _ _) c.word-2.ensures c.sequence_word.ensures c.in_err-sequence.ensures)) (search rules)

pub returns-in_err-step-2 : goal.returns-in_err-step-2
returns-in_err-step-2 c = λ h. leads-err (then-ends (past-sequence (goal.at.returns-in_err-step-2 c).In_ok-sequence h) (missed-fixed (valid h _ _ _) c.in_err-step-2.ensures)) (search rules)

pub returns-in_err-valid : goal.returns-in_err-valid
returns-in_err-valid c = λ h. leads-err (then-ends (past-step-2 (goal.at.returns-in_err-valid c).In_ok-step-2 h) (missed _ (period h _ _ _) c.word-3.ensures c.period_word.ensures c.in_err-valid.ensures)) (search rules)

pub returns-in_err-office : goal.returns-in_err-office
returns-in_err-office c = λ h. leads-err (then-ends (past-valid (goal.at.returns-in_err-office c).In_ok-valid h) (missed _ (office h _ _ _ _) c.word-4.ensures c.office_word.ensures c.in_err-office.ensures)) (search rules)

pub returns : goal.returns
returns c = λ h. record { says = past-office (goal.at.returns c).In_ok-office h }

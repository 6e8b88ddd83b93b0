-- `read_ending` meets its contract: by its first word it has a forecast (a WS), or moves or stands still.
use mathlib.Core.Bool.{Bool, true, false, not}
use mathlib.Core.Path.{◌≡◌, refl, ap, sym, ◌∙◌}
use Prim.Native.Nat.{ℕ}
use lib.Dec.{eqb}
use borrow.Author.Tests.{eq-eqb, ne_eqb, eqb-false, not-true}
use Rattle.lists.specs.Choice.{both}
use Rattle.lists.proofs.Choice.{clash, both_left, both_right, both_true}
use Rattle.figures.specs.Codes.{code_of}
use Rattle.vocabulary.specs.Codes.{code-mov, code-stnr}
use Rattle.vocabulary.proofs.FixedWords.{fixed-mov, fixed-stnr}
use Rattle.message.specs.declared.Ending.TheVariants.{Forecast}
use Rattle.message.specs.declared.Ending.{Ending}
use Rattle.message.specs.declared.Extent.{Extent}
use Rattle.message.specs.declared.Record.{Record}
use Rattle.message.specs.Limits.{ws}
use Rattle.message.specs.Locations.{no_extent}
use Rattle.grammar.specs.Records.{report_of}
use Rattle.grammar.specs.Steps.{step_ending, step}
use Rattle.reader_sections.specs.declared.ending.UpToLevel.{UpToLevel}
use Rattle.reader_sections.specs.declared.step.Step.{Step}
use Rattle.reader_sections.specs.Endings.{level_in, Unforeseen, Forecasts}
use Rattle.reader_sections.specs.Steps.{next_word, word_on}
use Rattle.reader_sections.proofs.Leads.{accepts, replies-err}
use Rattle.reader_sections.proofs.OneWord.{code-no}
use Rattle.reader_sections.proofs.ending.read_ending.Goals as goal
use Rattle.reader_sections.proofs.ending.read_ending.Goals.{Then-foresees, Else-foresees}

abbrev neither : ℕ → Bool
neither code = both (not (eqb code code-mov)) (not (eqb code code-stnr))

module _ (known : UpToLevel) (from : Step) {code : ℕ} {foreseen : Bool} (e : code ≡ code_of (word_on from))
    (b : foreseen ≡ both (eqb known.opening.heading.designator.kind ws) (neither code)) where
  unforeseen : foreseen ≡ false → Unforeseen (code_of (word_on from)) (level_in known)
  unforeseen n k no-mov no-stnr =
      clash foreseen (b ∙ both_true (eq-eqb _ ws k) (rw e (both_true (ap not (ne_eqb _ code-mov no-mov)) (ap not (ne_eqb _ code-stnr no-stnr))))) n

  forecast : foreseen ≡ true → Forecasts (level_in known) (next_word from)
  unfolding step step_ending
  forecast y =
      let other : neither (code_of (word_on from)) ≡ true = rw e at (both_right (eqb known.opening.heading.designator.kind ws) (neither code) (sym b ∙ y)) in
      let no-mov = eqb-false _ code-mov (not-true _ (both_left _ _ other)) in
      let no-stnr = eqb-false _ code-stnr (not-true _ (both_right (not (eqb (code_of (word_on from)) code-mov)) _ other)) in
      rw (code-no fixed-mov from no-mov, code-no fixed-stnr from no-stnr, both_left (eqb known.opening.heading.designator.kind ws) (neither code) (sym b ∙ y)) refl

abbrev moved : (known : UpToLevel) → Ending → Record
moved known e = report_of (level_in known) e no_extent

abbrev foreseen-at : (known : UpToLevel) → ℕ × Extent → Record
foreseen-at known f = report_of (level_in known) (Forecast f.0) f.1

read-forecast : (c : Then-foresees) → Forecasts (level_in c.args.known) (next_word c.args.step)
read-forecast c = forecast c.args.known c.args.step c.code.ensures c.foresees.ensures c.if-foresees.true

read-movement : (c : Else-foresees) → Unforeseen (code_of (word_on c.args.step)) (level_in c.args.known)
read-movement c = unforeseen c.args.known c.args.step c.code.ensures c.foresees.ensures c.if-foresees.false

pub returns-in-Ok : goal.returns-in-Ok
returns-in-Ok c = accepts (c.in-Ok.ensures _ _ (foreseen-at c.args.known) (c.read_forecast.ensures (read-forecast (goal.at.returns-in-Ok c).Then-foresees))).says c.accepted.ensures

pub returns-in-Err : goal.returns-in-Err
returns-in-Err c = replies-err (c.in-Err.ensures _ _ (foreseen-at c.args.known) (c.read_forecast.ensures (read-forecast (goal.at.returns-in-Err c).Then-foresees))).says c.reply.ensures

pub returns-in-Ok-concluded : goal.returns-in-Ok-concluded
returns-in-Ok-concluded c =
    accepts (c.in-Ok-concluded.ensures _ _ (moved c.args.known) (c.read_movement.ensures _ (read-movement (goal.at.returns-in-Ok-concluded c).Else-foresees))).says c.accepted-in-Ok-concluded.ensures

pub returns : goal.returns
returns c = replies-err (c.in-Err-concluded.ensures _ _ (moved c.args.known) (c.read_movement.ensures _ (read-movement (goal.at.returns c).Else-foresees))).says c.reply-in-Err-concluded.ensures

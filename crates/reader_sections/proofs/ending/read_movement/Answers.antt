-- `read_movement` meets its contract: MOV, or a word that is judged as STNR.
use mathlib.Core.List.{List}
use mathlib.Core.Path.{refl}
use Prim.Native.Nat.{ℕ}
use borrow.Author.Rules.{rules}
use borrow.Author.Tests.{ne_eqb}
use Rattle.std.specs.Prelude.{None}
use Rattle.lists.specs.Lists.{same}
use Rattle.lists.specs.Text.{bytes}
use Rattle.lists.proofs.Choice.{by, clash}
use Rattle.figures.specs.Codes.{code_of}
use Rattle.vocabulary.specs.Codes.{code-mov, code-stnr}
use Rattle.vocabulary.proofs.FixedWords.{fixed-mov, fixed-stnr}
use Rattle.motions.specs.Motions.{intensity_of, good_intensity}
use Rattle.message.specs.declared.Ending.TheVariants.{Stationary}
use Rattle.message.specs.Limits.{ws}
use Rattle.message.specs.Locations.{no_extent}
use Rattle.grammar.specs.Records.{area_of, report_of}
use Rattle.grammar.specs.States.State.{at_ending, at_stationary, at_end}
use Rattle.grammar.specs.States.{ToLevel}
use Rattle.grammar.specs.Steps.{kind_of, step_ending, step}
use Rattle.reader_sections.specs.declared.parts.Part.TheVariants as part
use Rattle.reader_sections.specs.declared.step.Step.{Step}
use Rattle.reader_sections.specs.Endings.{Unforeseen}
use Rattle.reader_sections.specs.Steps.{next_word, word_on, Perhaps, Reaches}
use Rattle.reader_sections.proofs.WordKinds.{intensity-only}
use Rattle.reader_sections.proofs.Leads.{then, then-ends, then-leads, leads-err}
use Rattle.reader_sections.proofs.OneWord.{Accepts, AcceptsFixed, took, missed, took-fixed, missed-fixed, given, without, code-yes}
use Rattle.reader_sections.proofs.ending.read_movement.Goals as goal
use Rattle.reader_sections.proofs.ending.read_movement.Goals.{In_ok-step}

-- the word begins no forecast
stationary : (l : ToLevel) (from : Step) → Unforeseen (code_of (word_on from)) l → Perhaps code-mov from None → AcceptsFixed (at_ending l) part.Ending code-stnr (at_stationary l) (next_word from)
unfolding step step_ending
stationary l from u n = record {
  word = bytes "STNR";
  fixed = fixed-stnr;
  does = by (same (next_word from) (bytes "STNR"))
      (λ y. rw (without fixed-mov from n, y) refl)
      (λ z. rw (without fixed-mov from n, z, ne_eqb (kind_of (area_of l)) ws (λ q. u q n.is (λ e. clash _ (code-yes fixed-stnr from e) z))) refl);
  number = refl;
}

intensity : (l : ToLevel) (w : List ℕ) → Accepts (at_stationary l) part.Ending intensity_of good_intensity (λ i. at_end (report_of l (Stationary i) no_extent)) w
unfolding step
intensity l w = record { does = refl; number = refl; only = intensity-only }

past-stnr : (c : In_ok-step) (l : ToLevel) → Unforeseen (code_of (word_on c.args.step)) l → Reaches (at_ending l) c.args.step (at_stationary l) c.in_ok-step.step
past-stnr c l u = took-fixed (stationary l _ u c.in_default.ensures) c.in_ok-step.ensures

pub returns-in-Some : goal.returns-in-Some
unfolding step step_ending
returns-in-Some c = λ l u. then-leads (given fixed-mov _ c.in-Some.ensures (λ y. rw y refl)) (c.read_moving.ensures l)

pub returns-in_err-step : goal.returns-in_err-step
returns-in_err-step c = λ l u. leads-err (missed-fixed (stationary l _ u c.in_default.ensures) c.in_err-step.ensures) (search rules)

pub returns-in_err-intensity : goal.returns-in_err-intensity
returns-in_err-intensity c = λ l u. leads-err
    (then-ends (past-stnr (goal.at.returns-in_err-intensity c).In_ok-step l u) (missed _ (intensity l _) c.word.ensures c.intensity_word.ensures c.in_err-intensity.ensures))
    (search rules)

pub returns : goal.returns
returns c =
    λ l u. record { says = then (past-stnr (goal.at.returns c).In_ok-step l u) (took _ (intensity l _) c.word.ensures c.intensity_word.ensures c.in_ok-intensity.ensures) }

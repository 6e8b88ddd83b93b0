-- `read_location` meets its contract: its first word tells a bound, the entire area or an outline.
use mathlib.Core.Bool.{false}
use mathlib.Core.List.{[]}
use mathlib.Core.Path.{◌≡◌, refl}
use borrow.Author.Rules.{rules}
use Rattle.vocabulary.specs.Codes.{code-wi}
use Rattle.vocabulary.proofs.FixedWords.{fixed-entire, fixed-wi}
use Rattle.coordinates.specs.Coordinates.{north_south, east_west}
use Rattle.message.specs.Locations.{no_side}
use Rattle.grammar.specs.Numbers.{location_part}
use Rattle.grammar.specs.Placing.{side_word, locating, place_step}
use Rattle.grammar.specs.States.Placing.{at_location, at_latitude_of, at_longitude_of, at_latitude}
use Rattle.grammar.specs.States.State.{at_place}
use Rattle.grammar.specs.States.{Site}
use Rattle.reader_sections.specs.Parts.{part_number}
use Rattle.reader_sections.specs.Steps.{next_word}
use Rattle.reader_sections.proofs.Leads.{then-leads, leads-err}
use Rattle.reader_sections.proofs.Locating.{on_step, fixed-on, north-letters, east-letters, side-on, no-side}
use Rattle.reader_sections.proofs.OneWord.{AcceptsFixed, took-fixed, missed-fixed, with-word, code-no}
use Rattle.reader_sections.proofs.location.read_location.Goals as goal
use Rattle.reader_sections.proofs.location.read_location.Goals.{Else-code-eq-ENTIRE}

no-north : (c : Else-code-eq-ENTIRE) → side_word north_south (next_word c.args.step) ≡ false
no-north c = no-side north-letters c.args.step (rw (← c.code-code.ensures) c.in_default.ensures)

no-east : (c : Else-code-eq-ENTIRE) → side_word east_west (next_word c.args.step) ≡ false
no-east c = no-side east-letters c.args.step (rw (← c.code-code.ensures) c.in_default-side_of.ensures)

wi : (c : Else-code-eq-ENTIRE) (site : Site) → location_part site ≡ part_number c.args.part → AcceptsFixed (at_place site at_location) c.args.part code-wi (at_place site (at_latitude [])) (next_word c.args.step)
unfolding place_step locating
wi c site n = fixed-on site at_location n fixed-wi (at_latitude []) (rw (no-north c, no-east c, code-no fixed-entire c.args.step (search rules)) refl)

pub returns-in-Some : goal.returns-in-Some
unfolding place_step locating
returns-in-Some c = record {
  says = λ site q n. then-leads
      (side-on north-letters c.args.step (rw (← c.code-code.ensures) c.in-Some.ensures) c.next.ensures site at_location at_latitude_of (λ y. rw y refl))
      (c.read_latitude_bound.ensures.says site n);
}

pub returns-in-Some-side_of : goal.returns-in-Some-side_of
unfolding place_step locating
returns-in-Some-side_of c = record {
  says = λ site q n. then-leads
      (side-on east-letters c.args.step (rw (← c.code-code.ensures) c.in-Some-side_of.ensures) c.next-in-Some-side_of.ensures site at_location (at_longitude_of no_side)
      (λ y. rw (no-side north-letters c.args.step (rw (← c.code-code.ensures) c.in_default.ensures), y) refl))
      (c.read_longitude_bound.ensures.says site n);
}

pub returns-then-code-eq-ENTIRE : goal.returns-then-code-eq-ENTIRE
unfolding place_step locating
returns-then-code-eq-ENTIRE c = record {
  says = λ site q n. then-leads
      (with-word fixed-entire c.args.step (search rules) c.next-then-code-eq-ENTIRE.ensures
      (λ y. on_step site at_location (next_word c.args.step)
      (rw (no-side north-letters c.args.step (rw (← c.code-code.ensures) c.in_default.ensures), no-side east-letters c.args.step (rw (← c.code-code.ensures) c.in_default-side_of.ensures), y) refl)))
      (c.read_entire.ensures.says site q n);
}

pub returns-in_err-step : goal.returns-in_err-step
returns-in_err-step c = record { says = λ site q n. leads-err (missed-fixed (wi (goal.at.returns-in_err-step c).Else-code-eq-ENTIRE site n) c.in_err-step.ensures) (search rules) }

pub returns : goal.returns
returns c = record { says = λ site q n. then-leads (took-fixed (wi (goal.at.returns c).Else-code-eq-ENTIRE site n) c.in_ok-step.ensures) (c.read_outline.ensures.says site n) }

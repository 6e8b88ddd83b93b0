-- `read_area` meets its contract: four letters, a name and the word that closes it.
use borrow.Author.Rules.{rules}
use mathlib.Core.List.{List}
use mathlib.Core.Path.{refl}
use Prim.Native.Nat.{ℕ}
use mathlib.Core.Bool.{false}
use lib.Dec.{ltb}
use Rattle.figures.specs.Letters.{letters_of}
use Rattle.names.specs.Names.{closing_of, good_closing}
use Rattle.message.specs.declared.FirstLine.{FirstLine}
use Rattle.message.specs.declared.Heading.{Heading}
use Rattle.grammar.specs.States.State.{at_indicator, at_name, at_more_name, at_form}
use Rattle.grammar.specs.Steps.{step}
use Rattle.reader_sections.specs.declared.parts.Part.TheVariants.{Area}
use Rattle.message.specs.declared.Name.{Name}
use Rattle.message.specs.Limits.{name_bytes}
use Rattle.reader_sections.specs.declared.step.Step.{Step}
use Rattle.reader_sections.specs.Names.{text_of, Named}
use Rattle.reader_sections.specs.Steps.{next_word}
use Rattle.reader_sections.proofs.NameText.{area_closed, area-takes, name-closed}
use Rattle.reader_sections.proofs.WordKinds.{four-letters, closing-only}
use Rattle.reader_sections.specs.Steps.{Reaches}
use Rattle.reader_sections.proofs.Leads.{leads-err, then, then-ends}
use Rattle.reader_sections.proofs.OneWord.{Accepts, missed, took}
use Rattle.reader_sections.proofs.area.read_area.Goals as goal
use Rattle.reader_sections.proofs.area.read_area.Goals.{In_ok-indicator, In_ok-name, In_ok-closing}

indicator : (h : Heading) (l : FirstLine) (w : List ℕ) → Accepts (at_indicator h l) Area (letters_of 4) (ltb 0) (at_name h l) w
unfolding step
indicator h l w = four-letters refl refl

closing : (h : Heading) (l : FirstLine) (i : ℕ) (n : Name) (p : Step) → Named false name_bytes n p
    → Accepts (at_more_name h l i (text_of n)) Area closing_of good_closing (λ k. at_form (record { heading = h; line = l; area = record { indicator = i; name = n; closing = k } })) (next_word p)
unfolding step
closing h l i n p named = record { does = name-closed (area_closed h l i) named (area-takes h l i); number = refl; only = closing-only }

past-indicator : (c : In_ok-indicator) (h : Heading) (l : FirstLine) → Reaches (at_indicator h l) c.args.step (at_name h l c.in_ok-indicator.indicator) c.in_ok-indicator.step
past-indicator c h l = took _ (indicator h l _) c.word.ensures c.letters.ensures c.in_ok-indicator.ensures

past-name : (c : In_ok-name) (h : Heading) (l : FirstLine) → Reaches (at_indicator h l) c.args.step (at_more_name h l c.in_ok-indicator.indicator (text_of c.in_ok-name.name)) c.in_ok-name.step
past-name c h l = then (past-indicator (goal.at.In_ok-name c).In_ok-indicator h l) ((c.in_ok-name.ensures.says _ _ _ (area-takes h l c.in_ok-indicator.indicator)).says)

past-closing : (c : In_ok-closing) (h : Heading) (l : FirstLine) → Reaches (at_indicator h l) c.args.step (at_form (record { heading = h; line = l; area = record { indicator = c.in_ok-indicator.indicator; name = c.in_ok-name.name; closing = c.in_ok-closing.closing } })) c.in_ok-closing.step
past-closing c h l = then (past-name (goal.at.In_ok-closing c).In_ok-name h l) (took _ (closing h l _ _ _ c.in_ok-name.ensures.whole) c.word-2.ensures c.closing_word.ensures c.in_ok-closing.ensures)

pub returns-in_err-indicator : goal.returns-in_err-indicator
returns-in_err-indicator c = λ h l. leads-err (missed _ (indicator h l _) c.word.ensures c.letters.ensures c.in_err-indicator.ensures) (search rules)

pub returns-in_err-name : goal.returns-in_err-name
returns-in_err-name c = λ h l. leads-err (then-ends (past-indicator (goal.at.returns-in_err-name c).In_ok-indicator h l) ((c.in_err-name.ensures.says _ _ _ (area-takes h l c.in_ok-indicator.indicator)).says)) (search rules)

pub returns-in_err-closing : goal.returns-in_err-closing
returns-in_err-closing c = λ h l. leads-err (then-ends (past-name (goal.at.returns-in_err-closing c).In_ok-name h l) (missed _ (closing h l _ _ _ c.in_ok-name.ensures.whole) c.word-2.ensures c.closing_word.ensures c.in_err-closing.ensures)) (search rules)

pub returns : goal.returns
returns c = λ h l. record { says = past-closing (goal.at.returns c).In_ok-closing h l }

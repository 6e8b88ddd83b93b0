-- `read_heading` meets its contract: three words, and perhaps a correction.
use borrow.Author.Rules.{rules}
use mathlib.Core.List.{List}
use mathlib.Core.Path.{refl}
use Prim.Native.Nat.{ℕ}
use lib.Dec.{ltb}
use Rattle.figures.specs.Letters.{letters_of}
use Rattle.groups.specs.Groups.{group_of, good_group}
use Rattle.headings.specs.declared.Designator.{Designator}
use Rattle.headings.specs.Headings.{designator_of, good_designator}
use Rattle.grammar.specs.States.State.{at_designator, at_centre, at_sent, at_correction}
use Rattle.grammar.specs.Steps.{step}
use Rattle.reader_sections.specs.declared.parts.Part.TheVariants.{Heading}
use Rattle.reader_sections.proofs.WordKinds.{four-letters, designator-only, group-only}
use Rattle.reader_sections.specs.Steps.{Reaches}
use Rattle.reader_sections.proofs.Leads.{leads-err, then, then-ends}
use Rattle.reader_sections.proofs.OneWord.{Accepts, missed, took}
use Rattle.reader_sections.proofs.heading.read_heading.Goals as goal
use Rattle.reader_sections.proofs.heading.read_heading.Goals.{In_ok-designator, In_ok-centre, In_ok-sent}

designator : (w : List ℕ) → Accepts at_designator Heading designator_of good_designator at_centre w
unfolding step
designator w = record { does = refl; number = refl; only = designator-only }

centre : (d : Designator) (w : List ℕ) → Accepts (at_centre d) Heading (letters_of 4) (ltb 0) (at_sent d) w
unfolding step
centre d w = four-letters refl refl

sent : (d : Designator) (n : ℕ) (w : List ℕ) → Accepts (at_sent d n) Heading group_of good_group (at_correction d n) w
unfolding step
sent d n w = record { does = refl; number = refl; only = group-only }

past-designator : (c : In_ok-designator) → Reaches at_designator c.args.step (at_centre c.in_ok-designator.designator) c.in_ok-designator.step
past-designator c = took _ (designator _) c.word.ensures c.designator_word.ensures c.in_ok-designator.ensures

past-centre : (c : In_ok-centre) → Reaches at_designator c.args.step (at_sent c.in_ok-designator.designator c.in_ok-centre.centre) c.in_ok-centre.step
past-centre c = then (past-designator (goal.at.In_ok-centre c).In_ok-designator) (took _ (centre _ _) c.word-2.ensures c.letters.ensures c.in_ok-centre.ensures)

past-sent : (c : In_ok-sent) → Reaches at_designator c.args.step (at_correction c.in_ok-designator.designator c.in_ok-centre.centre c.in_ok-sent.sent) c.in_ok-sent.step
past-sent c = then (past-centre (goal.at.In_ok-sent c).In_ok-centre) (took _ (sent _ _ _) c.word-3.ensures c.group_word.ensures c.in_ok-sent.ensures)

pub returns-in_err-designator : goal.returns-in_err-designator
returns-in_err-designator c = leads-err (missed _ (designator _) c.word.ensures c.designator_word.ensures c.in_err-designator.ensures) (search rules)

pub returns-in_err-centre : goal.returns-in_err-centre
returns-in_err-centre c = leads-err (then-ends (past-designator (goal.at.returns-in_err-centre c).In_ok-designator) (missed _ (centre _ _) c.word-2.ensures c.letters.ensures c.in_err-centre.ensures)) (search rules)

pub returns-in_err-sent : goal.returns-in_err-sent
returns-in_err-sent c = leads-err (then-ends (past-centre (goal.at.returns-in_err-sent c).In_ok-centre) (missed _ (sent _ _ _) c.word-3.ensures c.group_word.ensures c.in_err-sent.ensures)) (search rules)

pub returns : goal.returns
returns c = record { says = then (past-sent (goal.at.returns c).In_ok-sent) (c.read_correction-correction.ensures _ _ _) }

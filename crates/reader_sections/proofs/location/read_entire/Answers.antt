-- `read_entire` meets its contract: the word is that of the area.
use mathlib.Core.Path.{◌≡◌, refl}
use borrow.Author.Rules.{rules}
use Rattle.grammar.specs.Numbers.{location_part}
use Rattle.grammar.specs.Placing.{place_step}
use Rattle.grammar.specs.Records.{entirely}
use Rattle.grammar.specs.States.Placing.{at_entire}
use Rattle.grammar.specs.States.State.{at_place}
use Rattle.grammar.specs.States.{Site}
use Rattle.grammar.specs.Steps.{closing_at, after}
use Rattle.reader_sections.specs.Parts.{part_number}
use Rattle.reader_sections.specs.Steps.{next_word}
use Rattle.reader_sections.proofs.Leads.{leads-err}
use Rattle.reader_sections.proofs.Locating.{fixed-there}
use Rattle.reader_sections.proofs.OneWord.{AcceptsFixed, took-fixed, missed-fixed}
use Rattle.reader_sections.proofs.location.read_entire.Goals as goal
use Rattle.reader_sections.proofs.location.read_entire.Goals.{After-fixed}

word : (c : After-fixed) (site : Site) → closing_at site ≡ c.args.closing → location_part site ≡ part_number c.args.part
    → AcceptsFixed (at_place site at_entire) c.args.part c.entire_code.result (after site entirely) (next_word c.args.step)
unfolding place_step
word c site q n = fixed-there site at_entire n c.entire_code.ensures.fixed entirely (rw q refl)

pub returns-in_err-step : goal.returns-in_err-step
returns-in_err-step c = record { says = λ site q n. leads-err (missed-fixed (word (goal.at.returns-in_err-step c).After-fixed site q n) c.in_err-step.ensures) (search rules) }

pub returns : goal.returns
returns c = record { says = λ site q n. record { says = took-fixed (word (goal.at.returns c).After-fixed site q n) c.in_ok-step.ensures } }

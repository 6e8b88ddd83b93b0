-- `read_name` meets its contract: each turn the words so far are the name, and the next one goes behind them or ends it.
use Rattle.reader_sections.proofs.NameText.{unnamed, name-grown, name-read}
use borrow.Author.Rules.{rules}
use Rattle.reader_sections.proofs.name.read_name.Goals as goal

pub returns-then-not-belongs : goal.returns-then-not-belongs
returns-then-not-belongs c = unnamed c.belongs.ensures (search rules) c.refused.ensures

pub loop-step-preserved : goal.loop-step-preserved
loop-step-preserved c =
    name-grown c.loop-step.invariant c.belongs-in-loop-step.ensures c.loop-step-test.true c.word-in-loop-step.ensures c.grown_name-name.ensures c.next-step-in-loop-step.ensures

pub returns : goal.returns
returns c = search (name-read, rules)

-- `first_name` meets its contract: the word goes into the bytes of the empty name.
use Rattle.reader_sections.proofs.NameBytes.{first-in}
use borrow.Author.Rules.{rules}
use Rattle.reader_sections.proofs.name.first_name.Goals as goal

pub returns : goal.returns
returns c = search (first-in, rules)

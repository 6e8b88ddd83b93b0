-- `grown_name` meets its contract: a space and the word behind a text are the text grown.
use Rattle.reader_sections.proofs.NameBytes.{grown-says}
use borrow.Author.Rules.{rules}
use Rattle.reader_sections.proofs.name.grown_name.Goals as goal

pub returns : goal.returns
returns c = search (grown-says, rules)

-- `table::kinds` meets its contract: the rule is computed down the whole table.
use Rattle.words.specs.Bytes.{allowed}
use Rattle.words.specs.Kinds.{kind_of}
use Rattle.words.proofs.KindLaws.{kinds-right}
use Rattle.words.proofs.table.kinds.Goals as goal

pub returns : goal.returns
unfolding allowed kind_of
returns c = search kinds-right

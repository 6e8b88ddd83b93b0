-- `name_text` meets its contract: the library's `split` gives the pieces, and its `all` tests them.
use mathlib.Core.Path.{◌∙◌}
use lib.Dec.{eqb}
use Rattle.std.proofs.Common.{rules, tests}
use Rattle.std.proofs.lemmas.Iterator.Search.{all_from_yields_List}
use Rattle.std.proofs.lemmas.Iterator.Splits.{YieldsList-from_slice_split}
use Rattle.names.specs.Names.{in_name}
use Rattle.names.proofs.NameLaws.{text-split}
use Rattle.names.proofs.name_text.Goals as goal

pub returns : goal.returns
returns c =
    all_from_yields_List (in_name c.args.mountain) _ _ _ c.all.ensures.ran
    (YieldsList-from_slice_split _ (λ x. eqb x 32) c.args.t.now c.split.ensures.rest c.split.ensures.done c.split.ensures.closure (λ x b q k. search (rules, tests)))
    (λ x b q k. search (rules, tests))
    ∙ text-split c.args.mountain c.args.t.now

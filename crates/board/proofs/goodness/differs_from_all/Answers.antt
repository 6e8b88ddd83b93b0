-- `differs_from_all` meets its contract.
use mathlib.Core.Path.{sym, ◌∙◌}
use Rattle.std.proofs.Common.{rules, tests}
use Rattle.std.proofs.lemmas.Iterator.{YieldsList-from_slice}
use Rattle.std.proofs.lemmas.Iterator.Search.{all_from_yields_List}
use Rattle.lists.proofs.Library.{all-list}
use Rattle.board.specs.Boards.{differs}
use Rattle.board.proofs.goodness.differs_from_all.Goals as goal

pub returns : goal.returns
returns c =
    all_from_yields_List (differs c.args.p) _ _ c.all.result c.all.ensures.ran (YieldsList-from_slice c.args.places.now c.iter.ensures.rest) (λ x b q k. search (rules, tests))
    ∙ sym (all-list (differs c.args.p) c.args.places.now)

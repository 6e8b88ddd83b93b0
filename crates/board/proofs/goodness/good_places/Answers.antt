-- `good_places` meets its contract.
use mathlib.Core.Path.{sym, ◌≡◌, ◌∙◌}
use lib.ListN.{length}
use Rattle.std.proofs.Common.{rules, tests}
use Rattle.std.proofs.lemmas.Iterator.{YieldsList-from_slice}
use Rattle.std.proofs.lemmas.Iterator.Search.{all_from_yields_List}
use Rattle.places.specs.Places.{good_place}
use Rattle.lists.proofs.Library.{all-list}
use Rattle.board.proofs.BoardLaws.{places-all}
use Rattle.board.proofs.goodness.good_places.Goals as goal

pub returns : goal.returns
returns c =
    let long : length c.args.places ≡ 64 = search rules in
    places-all _ _ long
    (all_from_yields_List (good_place c.args.clock) _ _ c.all.result c.all.ensures.ran (YieldsList-from_slice c.args.places c.iter.ensures.rest) (λ x b q k. search (rules, tests))
    ∙ sym (all-list (good_place c.args.clock) c.args.places))

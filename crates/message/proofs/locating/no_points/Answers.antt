-- `locating::no_points` meets its contract.
use mathlib.Core.Path.{◌≡◌}
use lib.ListN.{length}
use borrow.Author.Rules.{rules}
use borrow.Author.Tests.{tests}
use Rattle.std.specs.List.{list_all}
use Rattle.std.proofs.lemmas.Iterator.{YieldsList-from_slice}
use Rattle.std.proofs.lemmas.Iterator.Search.{all_from_yields_List}
use Rattle.lists.proofs.Library.{all-list}
use Rattle.coordinates.specs.Points.{empty_point}
use Rattle.message.specs.Limits.{most_points}
use Rattle.message.specs.Locations.{no_points}
use Rattle.message.proofs.locating.no_points.Goals as goal

pub returns : goal.returns
unfolding no_points
returns c =
    let ps = c.args.points.now in
    let long : length ps ≡ most_points = search rules in
    let empty : c.all.result ≡ list_all empty_point ps = all_from_yields_List empty_point _ _ c.all.result c.all.ensures.ran (YieldsList-from_slice ps cc) (λ x b q k. search (rules, tests)) in
    rw (long, all-list empty_point ps, ← empty)

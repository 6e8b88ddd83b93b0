-- `before_space` meets its contract.
use mathlib.Core.Path.{◌≡◌, ap, ◌∙◌}
use lib.Dec.{eqb}
use lib.ListN.{length}
use Rattle.std.proofs.Common.{rules, tests}
use Rattle.std.proofs.lemmas.Iterator.{YieldsList-from_slice}
use Rattle.std.proofs.lemmas.Iterator.Search.{position_from_yields_List}
use Rattle.std.specs.List.{position}
use Rattle.std.specs.Option.{unwrap_or}
use Rattle.places.proofs.PaddedLaws.{space-count}
use Rattle.places.proofs.padding.before_space.Goals as goal

pub returns-clause-counted : goal.returns-clause-counted
returns-clause-counted c =
    let first : c.position.result ≡ position (λ x. eqb x 32) c.args.text =
    position_from_yields_List (λ x. eqb x 32) _ _ c.position.result c.position.ensures.ran (YieldsList-from_slice c.args.text c.iter.ensures.rest) (λ x b q k. search (rules, tests)) in
    let long : length c.args.text ≡ 3 = search rules in
    c.unwrap_or.ensures ∙ ap (λ o. unwrap_or o 3) first ∙ space-count c.args.text long

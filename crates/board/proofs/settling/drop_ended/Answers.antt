-- `drop_ended` meets its contract.
use mathlib.Core.Path.{◌≡◌}
use lib.ListN.{length}
use Rattle.std.proofs.Common.{rules, tests}
use Rattle.places.specs.Places.{no_place}
use Rattle.board.specs.Posts.{kept, dropped}
use Rattle.board.proofs.Mapped.{mapped}
use Rattle.board.proofs.settling.drop_ended.Goals as goal

pub returns : goal.returns
unfolding dropped
returns c =
    let long : length c.args.places ≡ 64 = search rules in
    mapped (kept c.args.clock) (λ x y q k. search (rules, tests)) no_place no_place c.args.places c.map.result 64 long c.map.ensures.items

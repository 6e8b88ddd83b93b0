-- `locating::good_outline` meets its contract.
use mathlib.Core.Bool.{Bool, cond}
use mathlib.Core.List.{List}
use mathlib.Core.Path.{◌≡◌, sym, ◌∙◌}
use Prim.Native.Nat.{ℕ, ◌≤◌, ◌+◌, ◌-◌, ◌<◌}
use native.Mathlib.Omega.{arith}
use lib.Dec.{eqb, ltb}
use lib.ListN.{length, take, drop, get_or, length-drop}
use lib.Seq.{take_all}
use borrow.Author.Rules.{rules}
use borrow.Author.Tests.{le-leb, eq-eqb, ne_eqb, eqb-true, ltb-false, tests}
use Rattle.std.proofs.Common.{Option, Some, None}
use Rattle.std.specs.Cmp.{both_ways}
use Rattle.std.specs.List.{list_all, position_or_len}
use Rattle.std.specs.Option.{option_eq}
use Rattle.std.proofs.lemmas.Iterator.{YieldsList-from_slice}
use Rattle.std.proofs.lemmas.Iterator.Search.{all_from_yields_List, position_from_yields_List}
use Rattle.lists.specs.Choice.{both}
use Rattle.lists.proofs.Choice.{by}
use Rattle.lists.proofs.Library.{all-list, index-position}
use Rattle.coordinates.specs.Points.{good_point, empty_point, same_point, no_point}
use Rattle.coordinates.specs.declared.Point.{Point}
use Rattle.message.specs.Limits.{least_points, most_points}
use Rattle.message.specs.Locations.{closing_point, good_outline}
use Rattle.message.proofs.locating.good_outline.Goals as goal
use Rattle.message.proofs.locating.good_outline.Goals.{After-all, After-eq}

-- where `position` found the closing point, counted from the second point
abbrev found : List Point → Option ℕ
found ps =
    let f : Point → Bool = same_point (get_or ps 0 no_point) in
    let later : List Point = drop 1 ps in
    cond (ltb (position_or_len f later) (length later)) (Some (position_or_len f later)) None

counted : (k many n : ℕ) → 2 ≤ n → n - 2 < many → option_eq eqb (cond (ltb k many) (Some k) None) (Some (n - 2)) ≡ eqb (1 + k) (n - 1)
counted k many n low high =
    by (ltb k many)
    (λ t. rw t (both_ways (eqb k (n - 2)) (eqb (1 + k) (n - 1))
    (λ e. eq-eqb (1 + k) (n - 1) (omega (arith, eqb-true k (n - 2) e)))
    (λ e. eq-eqb k (n - 2) (omega (arith, eqb-true (1 + k) (n - 1) e)))))
    (λ f. rw f (sym (ne_eqb (1 + k) (n - 1) (λ e. omega (arith, ltb-false k many f, e)))))

-- an outline of a fitting number of points is good by its points, by where it closes and by what stands behind them
fitting : (n : ℕ) (ps : List Point) → least_points ≤ n → n ≤ most_points → length ps ≡ most_points
    → good_outline n ps ≡ both (list_all good_point (take n ps)) (both (option_eq eqb (found ps) (Some (n - 2))) (list_all empty_point (drop n ps)))
unfolding good_outline
fitting n ps least most long =
    let later : List Point = drop 1 ps in
    let closes : option_eq eqb (found ps) (Some (n - 2)) ≡ eqb (closing_point ps) (n - 1) =
    counted (position_or_len (same_point (get_or ps 0 no_point)) later) (length later) n (omega arith) (omega (arith, length-drop 1 ps))
    ∙ rw (index-position (same_point (get_or ps 0 no_point)) later) in
    rw (le-leb least_points n least, le-leb n most_points most, long, all-list good_point (take n ps), all-list empty_point (drop n ps), closes)

fitted : (c : After-all) → good_outline c.args.n c.args.points.now ≡ both (list_all good_point (take c.args.n c.args.points.now)) (both (option_eq eqb (found c.args.points.now) (Some (c.args.n - 2))) (list_all empty_point (drop c.args.n c.args.points.now)))
fitted c =
    let long : length c.args.points.now ≡ most_points = search rules in
    fitting c.args.n c.args.points.now (omega (arith, c.from-count.ensures)) (omega (arith, c.from-count.ensures)) long

written : (c : After-all) → c.all.result ≡ list_all good_point (take c.args.n c.args.points.now)
written c = all_from_yields_List good_point _ _ c.all.result c.all.ensures.ran (YieldsList-from_slice c.split_at.result.0.now cc) (λ x b q k. search (rules, tests)) ∙ rw (c.split_at.ensures.front, c.from-count.ensures)

closes : (c : After-eq) → c.eq.result ≡ option_eq eqb (found c.args.points.now) (Some (c.args.n - 2))
closes c =
    let ps = c.args.points.now in
    let f : Point → Bool = same_point (get_or ps 0 no_point) in
    let many : length ps ≡ most_points = search rules in
    let later : c.iter.result.rest.now ≡ drop 1 ps = c.iter.ensures.rest ∙ take_all (most_points - 1) (drop 1 ps) (omega (arith, length-drop 1 ps)) in
    let closing : c.position-closing.result ≡ found ps = position_from_yields_List f _ _ c.position-closing.result c.position-closing.ensures.ran (YieldsList-from_slice (drop 1 ps) later) (λ x b q k. search (rules, tests)) in
    rw (c.eq.ensures, closing, c.from-count.ensures)

pub returns-then-eq : goal.returns-then-eq
returns-then-eq c =
    let at = goal.at.returns-then-eq c in
    let unused : c.all-then-eq.result ≡ list_all empty_point (drop c.args.n c.args.points.now) = all_from_yields_List empty_point _ _ c.all-then-eq.result c.all-then-eq.ensures.ran (YieldsList-from_slice c.split_at.result.1.now cc) (λ x b q k. search (rules, tests)) ∙ rw (c.split_at.ensures.back, c.from-count.ensures) in
    rw (fitted at.After-all, ← written at.After-all, c.if-all.true, ← closes at.After-eq, c.if-eq.true, ← unused)

pub returns-else-eq : goal.returns-else-eq
returns-else-eq c =
    let at = goal.at.returns-else-eq c in
    rw (fitted at.After-all, ← written at.After-all, c.if-all.true, ← closes at.After-eq, c.if-eq.false)

pub returns-else-all : goal.returns-else-all
returns-else-all c =
    let at = goal.at.returns-else-all c in
    rw (fitted at.After-all, ← written at.After-all, c.if-all.false)

-- `figures_end` finds the end by std's `position`.
use Rattle.std.proofs.Common.{rules, tests, ap, length, unwrap_or, ◌∙◌, Option, ℕ}
use Rattle.std.proofs.lemmas.Iterator.{YieldsList-from_slice}
use Rattle.std.proofs.lemmas.Iterator.Search.{position_from_yields_List}
use Rattle.replay.specs.Numbers.{no_figure}
use Rattle.replay.proofs.NumberLaws.{found}
use Rattle.replay.proofs.script.figures_end.Goals as goal

pub returns-clause-value : goal.returns-clause-value
returns-clause-value c =
    let e = position_from_yields_List no_figure _ _ c.position.result c.position.ensures.ran (YieldsList-from_slice c.args.text.now cc) (λ x b q k. search (rules, tests)) in
    c.unwrap_or.ensures ∙ (ap (λ (o : Option ℕ). unwrap_or o (length c.args.text.now)) e ∙ found c.args.text.now)

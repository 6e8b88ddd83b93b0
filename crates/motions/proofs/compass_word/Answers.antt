-- `compass_word` meets its contract: its table holds the codes of the sixteen words, in their order.
use mathlib.Core.Path.{◌≡◌, refl, sym, ◌∙◌}
use Rattle.std.proofs.Common.{rules}
use Rattle.lists.specs.Choice.{found}
use Rattle.lists.specs.Lists.{all_of}
use Rattle.lists.specs.Base.{worth_after}
use Rattle.figures.specs.Codes.{code_of}
use Rattle.motions.specs.Motions.{compass_words, good_compass, compass_of}
use Rattle.motions.proofs.MotionLaws.{compass-found}
use Rattle.motions.proofs.compass_word.Goals as goal

pub returns-in_err-point : goal.returns-in_err-point
unfolding code_of worth_after all_of compass_words
returns-in_err-point c =
    let told : c.find.result ≡ found good_compass (compass_of c.args.w.now) = compass-found c.args.w.now c.find.ensures c.code.ensures refl in
    search (told, rules)

pub returns : goal.returns
unfolding code_of worth_after all_of compass_words
returns c = sym c.in_ok-point.was ∙ compass-found c.args.w.now c.find.ensures c.code.ensures refl

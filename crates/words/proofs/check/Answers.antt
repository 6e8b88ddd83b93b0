-- `check` meets its contract: the first line of the refusal table, and the walk.
use mathlib.Core.Path.{◌∙◌}
use native.Mathlib.Omega.{arith}
use Rattle.words.proofs.SeenLaws.{all-checks}
use Rattle.words.proofs.check.Goals as goal

pub returns : goal.returns
returns c = c.walk.ensures ∙ all-checks _ (omega arith) (omega arith)

-- The length of a refused word is that of the word at its place.
use mathlib.Core.Path.{refl}
use Rattle.reader_sections.proofs.step.Step.refused.Goals as goal

pub returns : goal.returns
returns c = record { kept = refl; at = refl; long = c.length_at.ensures }

-- `read_moving` meets its contract: three words, one after another.
use borrow.Author.Rules.{rules}
use mathlib.Core.List.{List}
use mathlib.Core.Path.{refl}
use Prim.Native.Nat.{ℕ}
use Rattle.motions.specs.declared.Speed.{Speed}
use Rattle.motions.specs.Motions.{compass_of, good_compass, intensity_of, good_intensity}
use Rattle.motions.specs.Speeds.{speed_of, good_speed}
use Rattle.message.specs.declared.Ending.TheVariants.{Moving}
use Rattle.message.specs.Locations.{no_extent}
use Rattle.grammar.specs.Records.{report_of}
use Rattle.grammar.specs.States.State.{at_compass, at_speed, at_moving_intensity, at_end}
use Rattle.grammar.specs.States.{ToLevel}
use Rattle.grammar.specs.Steps.{step}
use Rattle.reader_sections.specs.declared.parts.Part.TheVariants as part
use Rattle.reader_sections.proofs.WordKinds.{compass-only, speed-only, intensity-only}
use Rattle.reader_sections.specs.Steps.{Reaches}
use Rattle.reader_sections.proofs.Leads.{leads-err, then, then-ends}
use Rattle.reader_sections.proofs.OneWord.{Accepts, missed, took}
use Rattle.reader_sections.proofs.ending.read_moving.Goals as goal
use Rattle.reader_sections.proofs.ending.read_moving.Goals.{In_ok-direction, In_ok-speed, In_ok-intensity}

compass : (l : ToLevel) (w : List ℕ) → Accepts (at_compass l) part.Ending compass_of good_compass (at_speed l) w
unfolding step
compass l w = record { does = refl; number = refl; only = compass-only }

speed : (l : ToLevel) (d : ℕ) (w : List ℕ) → Accepts (at_speed l d) part.Ending speed_of good_speed (at_moving_intensity l d) w
unfolding step
speed l d w = record { does = refl; number = refl; only = speed-only }

intensity : (l : ToLevel) (d : ℕ) (v : Speed) (w : List ℕ)
    → Accepts (at_moving_intensity l d v) part.Ending intensity_of good_intensity (λ i. at_end (report_of l (Moving d v i) no_extent)) w
unfolding step
intensity l d v w = record { does = refl; number = refl; only = intensity-only }

past-direction : (c : In_ok-direction) (l : ToLevel) → Reaches (at_compass l) c.args.step (at_speed l c.in_ok-direction.direction) c.in_ok-direction.step
past-direction c l = took _ (compass l _) c.word.ensures c.compass_word.ensures c.in_ok-direction.ensures

past-speed : (c : In_ok-speed) (l : ToLevel) → Reaches (at_compass l) c.args.step (at_moving_intensity l c.in_ok-direction.direction c.in_ok-speed.speed) c.in_ok-speed.step
past-speed c l = then (past-direction (goal.at.In_ok-speed c).In_ok-direction l) (took _ (speed l _ _) c.word-2.ensures c.speed_word.ensures c.in_ok-speed.ensures)

past-intensity : (c : In_ok-intensity) (l : ToLevel) → Reaches (at_compass l) c.args.step (at_end (report_of l (Moving c.in_ok-direction.direction c.in_ok-speed.speed c.in_ok-intensity.intensity) no_extent)) c.in_ok-intensity.step
past-intensity c l = then (past-speed (goal.at.In_ok-intensity c).In_ok-speed l) (took _ (intensity l _ _ _) c.word-3.ensures c.intensity_word.ensures c.in_ok-intensity.ensures)

pub returns-in_err-direction : goal.returns-in_err-direction
returns-in_err-direction c = λ l. leads-err (missed _ (compass l _) c.word.ensures c.compass_word.ensures c.in_err-direction.ensures) (search rules)

pub returns-in_err-speed : goal.returns-in_err-speed
returns-in_err-speed c = λ l. leads-err (then-ends (past-direction (goal.at.returns-in_err-speed c).In_ok-direction l) (missed _ (speed l _ _) c.word-2.ensures c.speed_word.ensures c.in_err-speed.ensures)) (search rules)

pub returns-in_err-intensity : goal.returns-in_err-intensity
returns-in_err-intensity c = λ l. leads-err (then-ends (past-speed (goal.at.returns-in_err-intensity c).In_ok-speed l) (missed _ (intensity l _ _ _) c.word-3.ensures c.intensity_word.ensures c.in_err-intensity.ensures)) (search rules)

pub returns : goal.returns
returns c = λ l. record { says = past-intensity (goal.at.returns c).In_ok-intensity l }

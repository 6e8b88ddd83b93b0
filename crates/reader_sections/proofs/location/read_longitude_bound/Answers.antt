-- `read_longitude_bound` meets its contract: OF and a longitude.
use borrow.Author.Rules.{rules}
use mathlib.Core.List.{List}
use mathlib.Core.Path.{◌≡◌, refl}
use Prim.Native.Nat.{ℕ}
use Rattle.vocabulary.specs.Codes.{code-of}
use Rattle.vocabulary.proofs.FixedWords.{fixed_of}
use Rattle.coordinates.specs.declared.Coordinate.{Coordinate}
use Rattle.coordinates.specs.Coordinates.{east_west, coordinate_of, good_coordinate}
use Rattle.message.specs.declared.Side.{Side}
use Rattle.grammar.specs.Numbers.{location_part}
use Rattle.grammar.specs.Placing.{place_step}
use Rattle.grammar.specs.Records.{bounded}
use Rattle.grammar.specs.States.Placing.{at_longitude_of, at_longitude_bound}
use Rattle.grammar.specs.States.State.{at_place}
use Rattle.grammar.specs.States.{Site}
use Rattle.grammar.specs.Steps.{after}
use Rattle.reader_sections.specs.declared.parts.Part.{Part}
use Rattle.reader_sections.specs.Parts.{part_number}
use Rattle.reader_sections.proofs.WordKinds.{longitude-only}
use Rattle.reader_sections.proofs.Locating.{accepts-there, fixed-on}
use Rattle.reader_sections.specs.Steps.{Reaches}
use Rattle.reader_sections.proofs.Leads.{leads-err, then, then-ends}
use Rattle.reader_sections.proofs.OneWord.{Accepts, AcceptsFixed, missed, missed-fixed, took, took-fixed}
use Rattle.reader_sections.proofs.location.read_longitude_bound.Goals as goal
use Rattle.reader_sections.proofs.location.read_longitude_bound.Goals.{In_ok-step, In_ok-at}

of : (site : Site) {judged : Part} (n : location_part site ≡ part_number judged) (north : Side) (k : ℕ) (w : List ℕ)
    → AcceptsFixed (at_place site (at_longitude_of north k)) judged code-of (at_place site (at_longitude_bound north k)) w
unfolding place_step
of site n north k w = fixed-on site (at_longitude_of north k) n fixed_of _ refl

meridian : (site : Site) {judged : Part} (n : location_part site ≡ part_number judged) (north : Side) (k : ℕ) (w : List ℕ)
    → Accepts (at_place site (at_longitude_bound north k)) judged (coordinate_of east_west) (good_coordinate east_west) (λ x. after site (bounded north (record { of = k; at = x }))) w
unfolding place_step
meridian site n north k w = accepts-there site (at_longitude_bound north k) n longitude-only (λ (x : Coordinate). bounded north (record { of = k; at = x })) refl

past-step : (c : In_ok-step) (site : Site) (n : location_part site ≡ part_number c.args.part) → Reaches (at_place site (at_longitude_of c.args.north c.args.of)) c.args.step (at_place site (at_longitude_bound c.args.north c.args.of)) c.in_ok-step.step
past-step c site n = took-fixed (of site n _ _ _) c.in_ok-step.ensures

past-at : (c : In_ok-at) (site : Site) (n : location_part site ≡ part_number c.args.part) → Reaches (at_place site (at_longitude_of c.args.north c.args.of)) c.args.step (after site (bounded c.args.north (record { of = c.args.of; at = c.in_ok-at.at }))) c.in_ok-at.step
past-at c site n = then (past-step (goal.at.In_ok-at c).In_ok-step site n) (took _ (meridian site n _ _ _) c.word.ensures c.longitude.ensures c.in_ok-at.ensures)

pub returns-in_err-step : goal.returns-in_err-step
returns-in_err-step c = record { says = λ site n. leads-err (missed-fixed (of site n _ _ _) c.in_err-step.ensures) (search rules) }

pub returns-in_err-at : goal.returns-in_err-at
returns-in_err-at c = record { says = λ site n. leads-err (then-ends (past-step (goal.at.returns-in_err-at c).In_ok-step site n) (missed _ (meridian site n _ _ _) c.word.ensures c.longitude.ensures c.in_err-at.ensures)) (search rules) }

pub returns : goal.returns
returns c = record { says = λ site n. record { says = rw c.bounded.ensures (past-at (goal.at.returns c).In_ok-at site n) } }

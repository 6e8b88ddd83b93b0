-- `read_eruption` meets its contract: the mountain, the two words of a point, VA and CLD, one after another.
use borrow.Author.Rules.{rules}
use mathlib.Core.List.{List}
use mathlib.Core.Path.{refl}
use Prim.Native.Nat.{ℕ}
use Rattle.vocabulary.specs.Codes.{code-cld, code-va}
use Rattle.vocabulary.proofs.FixedWords.{fixed-va, fixed-cld}
use Rattle.coordinates.specs.declared.Coordinate.{Coordinate}
use Rattle.coordinates.specs.Coordinates.{north_south, east_west, coordinate_of, good_coordinate}
use Rattle.message.specs.declared.Name.{Name}
use Rattle.message.specs.declared.Volcano.{Volcano}
use Rattle.grammar.specs.States.State.{at_eruption, at_position, at_position_longitude, at_volcano_ash, at_volcano_cloud}
use Rattle.grammar.specs.States.{ToArea}
use Rattle.grammar.specs.Steps.{step}
use Rattle.reader_sections.specs.declared.parts.Part.TheVariants.{Form}
use Rattle.reader_sections.specs.Phenomena.{erupting}
use Rattle.reader_sections.proofs.WordKinds.{latitude-only, longitude-only}
use Rattle.reader_sections.specs.Steps.{Reaches}
use Rattle.reader_sections.proofs.Leads.{leads-err, then, then-ends}
use Rattle.reader_sections.proofs.OneWord.{Accepts, AcceptsFixed, missed, missed-fixed, took, took-fixed}
use Rattle.reader_sections.proofs.phenomenon_wv.read_eruption.Goals as goal
use Rattle.reader_sections.proofs.phenomenon_wv.read_eruption.Goals.{In_ok-name, In_ok-latitude, In_ok-longitude, In_ok-step, In_ok-step-2}

north : (o : ToArea) (n : Name) (w : List ℕ) → Accepts (at_position o n) Form (coordinate_of north_south) (good_coordinate north_south) (at_position_longitude o n) w
unfolding step
north o n w = record { does = refl; number = refl; only = latitude-only }

east : (o : ToArea) (n : Name) (y : Coordinate) (w : List ℕ)
    → Accepts (at_position_longitude o n y) Form (coordinate_of east_west) (good_coordinate east_west) (λ x. at_volcano_ash o (record { name = n; position = record { latitude = y; longitude = x } })) w
unfolding step
east o n y w = record { does = refl; number = refl; only = longitude-only }

va : (o : ToArea) (v : Volcano) (w : List ℕ) → AcceptsFixed (at_volcano_ash o v) Form code-va (at_volcano_cloud o v) w
unfolding step
va o v w = record { word = _; fixed = fixed-va; does = refl; number = refl }

cld : (o : ToArea) (v : Volcano) (w : List ℕ) → AcceptsFixed (at_volcano_cloud o v) Form code-cld (erupting o v) w
unfolding step
cld o v w = record { word = _; fixed = fixed-cld; does = refl; number = refl }

abbrev volcano : Name → Coordinate → Coordinate → Volcano
volcano n y x = record { name = n; position = record { latitude = y; longitude = x } }

past-name : (c : In_ok-name) (o : ToArea) → Reaches (at_eruption o) c.args.step (at_position o c.in_ok-name.name) c.in_ok-name.step
past-name c o = (c.in_ok-name.ensures o).says

past-latitude : (c : In_ok-latitude) (o : ToArea) → Reaches (at_eruption o) c.args.step (at_position_longitude o c.in_ok-name.name c.in_ok-latitude.latitude) c.in_ok-latitude.step
past-latitude c o = then (past-name (goal.at.In_ok-latitude c).In_ok-name o) (took _ (north o _ _) c.word.ensures c.latitude.ensures c.in_ok-latitude.ensures)

past-longitude : (c : In_ok-longitude) (o : ToArea) → Reaches (at_eruption o) c.args.step (at_volcano_ash o (volcano c.in_ok-name.name c.in_ok-latitude.latitude c.in_ok-longitude.longitude)) c.in_ok-longitude.step
past-longitude c o = then (past-latitude (goal.at.In_ok-longitude c).In_ok-latitude o) (took _ (east o _ _ _) c.word-2.ensures c.longitude.ensures c.in_ok-longitude.ensures)

past-step : (c : In_ok-step) (o : ToArea) → Reaches (at_eruption o) c.args.step (at_volcano_cloud o (volcano c.in_ok-name.name c.in_ok-latitude.latitude c.in_ok-longitude.longitude)) c.in_ok-step.step
past-step c o = then (past-longitude (goal.at.In_ok-step c).In_ok-longitude o) (took-fixed (va o _ _) c.in_ok-step.ensures)

past-step-2 : (c : In_ok-step-2) (o : ToArea) → Reaches (at_eruption o) c.args.step (erupting o (volcano c.in_ok-name.name c.in_ok-latitude.latitude c.in_ok-longitude.longitude)) c.in_ok-step-2.step
past-step-2 c o = then (past-step (goal.at.In_ok-step-2 c).In_ok-step o) (took-fixed (cld o _ _) c.in_ok-step-2.ensures)

pub returns-in_err-name : goal.returns-in_err-name
returns-in_err-name c = λ o. leads-err ((c.in_err-name.ensures o).says) (search rules)

pub returns-in_err-latitude : goal.returns-in_err-latitude
returns-in_err-latitude c = λ o. leads-err (then-ends (past-name (goal.at.returns-in_err-latitude c).In_ok-name o) (missed _ (north o _ _) c.word.ensures c.latitude.ensures c.in_err-latitude.ensures)) (search rules)

pub returns-in_err-longitude : goal.returns-in_err-longitude
returns-in_err-longitude c = λ o. leads-err (then-ends (past-latitude (goal.at.returns-in_err-longitude c).In_ok-latitude o) (missed _ (east o _ _ _) c.word-2.ensures c.longitude.ensures c.in_err-longitude.ensures)) (search rules)

pub returns-in_err-step : goal.returns-in_err-step
returns-in_err-step c = λ o. leads-err (then-ends (past-longitude (goal.at.returns-in_err-step c).In_ok-longitude o) (missed-fixed (va o _ _) c.in_err-step.ensures)) (search rules)

pub returns-in_err-step-2 : goal.returns-in_err-step-2
returns-in_err-step-2 c = λ o. leads-err (then-ends (past-step (goal.at.returns-in_err-step-2 c).In_ok-step o) (missed-fixed (cld o _ _) c.in_err-step-2.ensures)) (search rules)

pub returns : goal.returns
returns c = λ o. record { says = past-step-2 (goal.at.returns c).In_ok-step-2 o }

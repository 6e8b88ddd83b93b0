-- A good record, and its parts for the sections that put them. Each is what a section asks, from what its caller knows, so that `search` finds it.
use mathlib.Core.Bool.{Bool, true, false, not}
use mathlib.Core.List.{List}
use mathlib.Core.Path.{◌≡◌, sym, ◌∙◌}
use Prim.Native.Nat.{ℕ, ◌≤◌}
use borrow.Author.Tests.{not-true}
use Rattle.lists.proofs.Choice.{both_left}
use Rattle.words.proofs.Ranges.{between-low, between-high}
use Rattle.pens.specs.Pens.{Puts}
use Rattle.pens.proofs.PenLaws.{nothing}
use Rattle.message.specs.declared.Bound.{Bound}
use Rattle.message.specs.declared.Ending.TheVariants.{Forecast}
use Rattle.message.specs.declared.Ending.{Ending}
use Rattle.message.specs.declared.Extent.{Extent}
use Rattle.message.specs.declared.Form.TheVariants.{Test, Reported}
use Rattle.message.specs.declared.Form.{Form}
use Rattle.message.specs.declared.Location.TheVariants.{Bounded, Outline}
use Rattle.message.specs.declared.Record.{Record}
use Rattle.message.specs.declared.Report.{Report}
use Rattle.message.specs.declared.Volcano.{Volcano}
use Rattle.message.specs.Limits.{name_bytes, most_points}
use Rattle.message.specs.Locations.{good_bound, good_extent, no_points}
use Rattle.message.specs.Records.{good_form, good}
use Rattle.message.specs.Reports.{good_volcano}
use Rattle.message.proofs.Goodness.{good-parts, area-parts, name-parts, outline-parts, forecast-parts, report-parts, volcano-parts}
use Rattle.writer_sections.specs.Sections.{good_text, GoodReport, GoodPhenomenon, GoodMount, GoodEnding}

pub bad-record : (r : Record) {found : Bool} {page : List ℕ} → found ≡ good r → not found ≡ true → Puts (good_text r) 0 page 0 page
bad-record r e f = rw (sym e ∙ not-true _ f) nothing

-- by the form that was found
form_of : (r : Record) (f : Form) → good r ≡ true → r.form ≡ f → good_form r.heading.designator.kind r.line r.report f ≡ true
form_of r f g e = rw e at (good-parts r g).form

pub test-least : (r : Record) (n : ℕ) → good r ≡ true → r.form ≡ Test n → 1 ≤ n
unfolding good_form
test-least r n g e = between-low 1 3 n (both_left _ _ (form_of r (Test n) g e))

pub test-most : (r : Record) (n : ℕ) → good r ≡ true → r.form ≡ Test n → n ≤ 3
unfolding good_form
test-most r n g e = between-high 1 3 n (both_left _ _ (form_of r (Test n) g e))

pub reported : (r : Record) → good r ≡ true → r.form ≡ Reported → GoodReport r.report
unfolding good_form
reported r g e = record { kind = r.heading.designator.kind; holds = form_of r Reported g e }

pub report-phenomenon : (r : Report) → GoodReport r → GoodPhenomenon r.phenomenon r.volcano
report-phenomenon r g = record { kind = g.kind; holds = (report-parts g.kind r g.holds).phenomenon }

pub report-extent : (r : Report) → GoodReport r → good_extent r.extent ≡ true
report-extent r g = (report-parts g.kind r g.holds).extent

pub report-ending : (r : Report) → GoodReport r → GoodEnding r.ending r.forecast
report-ending r g = record { kind = g.kind; holds = (report-parts g.kind r g.holds).ending }

pub volcano-mount : (v : Volcano) → good_volcano v ≡ true → GoodMount v.name
volcano-mount v g = record { holds = (volcano-parts v g).name }

pub area-fits : (r : Record) → good r ≡ true → r.area.name.count ≤ name_bytes
area-fits r g = (name-parts false name_bytes r.area.name (area-parts r.area (good-parts r g).area).name).fits

pub forecast-good : (e : Ending) (f : Extent) (i : ℕ) → GoodEnding e f → e ≡ Forecast i → good_extent f ≡ true
forecast-good e f i g h = (forecast-parts g.kind i f (rw h at g.holds)).forecast

pub bounded : (x : Extent) (b : Bound) → good_extent x ≡ true → x.location ≡ Bounded b → good_bound b ≡ true
unfolding good_extent
bounded x b g e = both_left (good_bound b) (no_points x.points) (rw e at g)

pub outline-most : (x : Extent) (n : ℕ) → good_extent x ≡ true → x.location ≡ Outline n → n ≤ most_points
unfolding good_extent
outline-most x n g e = (outline-parts n x.points (rw e at g)).most

-- What a good record has, part by part: `X-parts` from the whole, and `X-good` back where it is asked for.
use mathlib.Core.Bool.{Bool, true, false, not}
use mathlib.Core.List.{List}
use mathlib.Core.Path.{◌≡◌}
use Prim.Native.Nat.{ℕ, ◌-◌, ◌≤◌}
use lib.Dec.{eqb}
use lib.ListN.{length, take, drop}
use borrow.Author.Tests.{eqb-true}
use Rattle.lists.specs.Choice.{both, either}
use Rattle.lists.specs.Lists.{all_of}
use Rattle.lists.proofs.Choice.{by, both_left, both_right, both_true, either-cases, both-three, both-four, both-five}
use Rattle.words.specs.Bytes.{between}
use Rattle.words.proofs.Ranges.{between-low, between-high}
use Rattle.figures.specs.Letters.{good_letters}
use Rattle.coordinates.specs.Coordinates.{Axis, north_south, east_west, good_coordinate}
use Rattle.coordinates.specs.Points.{good_point, empty_point}
use Rattle.coordinates.specs.declared.Point.{Point}
use Rattle.groups.specs.Groups.{good_group, good_period}
use Rattle.groups.specs.declared.Group.{Group}
use Rattle.groups.specs.declared.Period.{Period}
use Rattle.headings.specs.Headings.{good_designator, good_correction}
use Rattle.headings.specs.Sequences.{good_sequence}
use Rattle.headings.specs.declared.Sequence.{Sequence}
use Rattle.levels.specs.Levels.{good_level}
use Rattle.motions.specs.Motions.{good_compass, good_intensity}
use Rattle.motions.specs.Speeds.{good_speed}
use Rattle.motions.specs.declared.Speed.{Speed}
use Rattle.names.specs.Names.{name_text, good_closing}
use Rattle.message.specs.Limits.{name_bytes, mountain_limit, least_points, most_points, ws, wv, ash_cloud, eruption}
use Rattle.message.specs.Locations.{good_side, empty_side, good_bound, closing_point, good_outline, good_extent, empty_extent}
use Rattle.message.specs.Names.{unused_zero, good_name, empty_name}
use Rattle.message.specs.Records.{good_heading, good_line, good_area, names_itself, good_cancellation, good_form, good}
use Rattle.message.specs.Reports.{good_volcano, empty_volcano, good_phenomenon, good_observation, good_ending, good_report}
use Rattle.message.specs.declared.Area.{Area}
use Rattle.message.specs.declared.Bound.{Bound}
use Rattle.message.specs.declared.Ending.TheVariants.{Moving, Stationary, Forecast}
use Rattle.message.specs.declared.Extent.{Extent}
use Rattle.message.specs.declared.FirstLine.{FirstLine}
use Rattle.message.specs.declared.Heading.{Heading}
use Rattle.message.specs.declared.Name.{Name}
use Rattle.message.specs.declared.Record.{Record}
use Rattle.message.specs.declared.Report.{Report}
use Rattle.message.specs.declared.Side.{Side}
use Rattle.message.specs.declared.Volcano.{Volcano}

-- The record.

pub record GoodRecord (r : Record) : Type 0 where
  pub heading : good_heading r.heading ≡ true
  pub line : good_line r.line ≡ true
  pub area : good_area r.area ≡ true
  pub form : good_form r.heading.designator.kind r.line r.report r.form ≡ true

pub good-parts : (r : Record) → good r ≡ true → GoodRecord r
unfolding good
good-parts r g =
    let t = both-four (good_heading r.heading) (good_line r.line) (good_area r.area) _ g in
    record { heading = t.0; line = t.1; area = t.2; form = t.3 }

pub record GoodHeading (h : Heading) : Type 0 where
  pub designator : good_designator h.designator ≡ true
  pub centre : good_letters 4 h.centre ≡ true
  pub sent : good_group h.sent ≡ true
  pub correction : either (eqb h.correction 0) (good_correction h.correction) ≡ true

pub heading-parts : (h : Heading) → good_heading h ≡ true → GoodHeading h
unfolding good_heading
heading-parts h g =
    let t = both-four (good_designator h.designator) (good_letters 4 h.centre) (good_group h.sent) _ g in
    record { designator = t.0; centre = t.1; sent = t.2; correction = t.3 }

pub heading-good : (h : Heading) → GoodHeading h → good_heading h ≡ true
unfolding good_heading
heading-good h p = both_true p.designator (both_true p.centre (both_true p.sent p.correction))

pub record GoodLine (l : FirstLine) : Type 0 where
  pub unit : good_letters 4 l.unit ≡ true
  pub sequence : good_sequence l.sequence ≡ true
  pub valid : good_period l.valid ≡ true
  pub office : good_letters 4 l.office ≡ true

pub line-parts : (l : FirstLine) → good_line l ≡ true → GoodLine l
unfolding good_line
line-parts l g =
    let t = both-four (good_letters 4 l.unit) (good_sequence l.sequence) (good_period l.valid) _ g in
    record { unit = t.0; sequence = t.1; valid = t.2; office = t.3 }

pub line-good : (l : FirstLine) → GoodLine l → good_line l ≡ true
unfolding good_line
line-good l p = both_true p.unit (both_true p.sequence (both_true p.valid p.office))

pub record GoodPeriod (p : Period) : Type 0 where
  pub from : good_group p.from ≡ true
  pub to : good_group p.to ≡ true

pub period-parts : (p : Period) → good_period p ≡ true → GoodPeriod p
unfolding good_period
period-parts p g = record { from = both_left _ _ g; to = both_right (good_group p.from) _ g }

pub record GoodArea (a : Area) : Type 0 where
  pub indicator : good_letters 4 a.indicator ≡ true
  pub name : good_name false name_bytes a.name ≡ true
  pub closing : good_closing a.closing ≡ true

pub area-parts : (a : Area) → good_area a ≡ true → GoodArea a
unfolding good_area
area-parts a g =
    let t = both-three (good_letters 4 a.indicator) (good_name false name_bytes a.name) _ g in
    record { indicator = t.0; name = t.1; closing = t.2 }

pub record GoodName (mountain : Bool) (limit : ℕ) (n : Name) : Type 0 where
  pub some : 1 ≤ n.count
  pub fits : n.count ≤ limit
  pub unused : unused_zero n ≡ true
  pub text : name_text mountain (take n.count n.bytes) ≡ true

pub name-parts : (mountain : Bool) (limit : ℕ) (n : Name) → good_name mountain limit n ≡ true → GoodName mountain limit n
unfolding good_name
name-parts mountain limit n g =
    let t = both-three (between 1 limit n.count) (unused_zero n) _ g in
    record { some = between-low 1 limit n.count t.0; fits = between-high 1 limit n.count t.0; unused = t.1; text = t.2 }

pub record GoodCancellation (l : FirstLine) (s : Sequence) (f : Group) : Type 0 where
  pub sequence : good_sequence s ≡ true
  pub from : good_group f ≡ true
  pub other : not (names_itself l s f) ≡ true

pub cancellation-parts : (l : FirstLine) (s : Sequence) (f : Group) → good_cancellation l s f ≡ true → GoodCancellation l s f
cancellation-parts l s f g =
    let t = both-three (good_sequence s) (good_group f) _ g in
    record { sequence = t.0; from = t.1; other = t.2 }

-- A report.

pub record GoodReport (kind : ℕ) (r : Report) : Type 0 where
  pub phenomenon : good_phenomenon kind r.phenomenon r.volcano ≡ true
  pub observation : good_observation r.observation ≡ true
  pub extent : good_extent r.extent ≡ true
  pub level : good_level r.level ≡ true
  pub ending : good_ending kind r.ending r.forecast ≡ true

pub report-parts : (kind : ℕ) (r : Report) → good_report kind r ≡ true → GoodReport kind r
unfolding good_report
report-parts kind r g =
    let t = both-five (good_phenomenon kind r.phenomenon r.volcano) (good_observation r.observation) (good_extent r.extent) (good_level r.level) _ g in
    record { phenomenon = t.0; observation = t.1; extent = t.2; level = t.3; ending = t.4 }

-- the phenomena of a WS, a cloud of ash, an eruption
pub phenomenon-cases : {A : Type 0} (kind n : ℕ) (v : Volcano) → good_phenomenon kind n v ≡ true
    → (kind ≡ ws → between 1 15 n ≡ true → empty_volcano v ≡ true → A)
    → (kind ≡ wv → n ≡ ash_cloud → empty_volcano v ≡ true → A)
    → (kind ≡ wv → n ≡ eruption → good_volcano v ≡ true → A)
    → A
unfolding good_phenomenon
phenomenon-cases kind n v g weather cloud erupts =
    either-cases (both (eqb kind ws) (both (between 1 15 n) (empty_volcano v))) _ g
    (λ e. let t = both-three (eqb kind ws) (between 1 15 n) _ e in weather (eqb-true kind ws t.0) t.1 t.2)
    (λ e. let k : kind ≡ wv = eqb-true kind wv (both_left _ _ e) in
    either-cases (both (eqb n ash_cloud) (empty_volcano v)) _ (both_right (eqb kind wv) _ e)
    (λ f. cloud k (eqb-true n ash_cloud (both_left _ _ f)) (both_right (eqb n ash_cloud) _ f))
    (λ f. erupts k (eqb-true n eruption (both_left _ _ f)) (both_right (eqb n eruption) _ f)))

pub record GoodVolcano (v : Volcano) : Type 0 where
  pub name : either (empty_name v.name) (good_name true mountain_limit v.name) ≡ true
  pub latitude : good_coordinate north_south v.position.latitude ≡ true
  pub longitude : good_coordinate east_west v.position.longitude ≡ true

pub volcano-parts : (v : Volcano) → good_volcano v ≡ true → GoodVolcano v
unfolding good_volcano good_point
volcano-parts v g =
    let t = both-three (either (empty_name v.name) (good_name true mountain_limit v.name)) (good_coordinate north_south v.position.latitude) _ g in
    record { name = t.0; latitude = t.1; longitude = t.2 }

pub volcano-good : (v : Volcano) → GoodVolcano v → good_volcano v ≡ true
unfolding good_volcano good_point
volcano-good v p = both_true p.name (both_true p.latitude p.longitude)

pub record GoodMoving (d : ℕ) (s : Speed) (i : ℕ) (f : Extent) : Type 0 where
  pub compass : good_compass d ≡ true
  pub speed : good_speed s ≡ true
  pub intensity : good_intensity i ≡ true
  pub forecast : empty_extent f ≡ true

pub moving-parts : (kind d : ℕ) (s : Speed) (i : ℕ) (f : Extent) → good_ending kind (Moving d s i) f ≡ true → GoodMoving d s i f
unfolding good_ending
moving-parts kind d s i f g =
    let motion : Bool = both (good_compass d) (both (good_speed s) (good_intensity i)) in
    let t = both-three (good_compass d) (good_speed s) (good_intensity i) (both_left motion _ g) in
    record { compass = t.0; speed = t.1; intensity = t.2; forecast = both_right motion _ g }

pub record GoodStationary (i : ℕ) (f : Extent) : Type 0 where
  pub intensity : good_intensity i ≡ true
  pub forecast : empty_extent f ≡ true

pub stationary-parts : (kind i : ℕ) (f : Extent) → good_ending kind (Stationary i) f ≡ true → GoodStationary i f
unfolding good_ending
stationary-parts kind i f g = record { intensity = both_left _ _ g; forecast = both_right (good_intensity i) _ g }

pub record GoodForecast (k i : ℕ) (f : Extent) : Type 0 where
  pub kind : eqb k ws ≡ true
  pub intensity : good_intensity i ≡ true
  pub forecast : good_extent f ≡ true

pub forecast-parts : (kind i : ℕ) (f : Extent) → good_ending kind (Forecast i) f ≡ true → GoodForecast kind i f
unfolding good_ending
forecast-parts kind i f g =
    let first : both (eqb kind ws) (good_intensity i) ≡ true = both_left _ _ g in
    record { kind = both_left _ _ first; intensity = both_right (eqb kind ws) _ first; forecast = both_right (both (eqb kind ws) (good_intensity i)) _ g }

-- A location.

pub record GoodPoint (p : Point) : Type 0 where
  pub latitude : good_coordinate north_south p.latitude ≡ true
  pub longitude : good_coordinate east_west p.longitude ≡ true

pub point-parts : (p : Point) → good_point p ≡ true → GoodPoint p
unfolding good_point
point-parts p g = record { latitude = both_left _ _ g; longitude = both_right (good_coordinate north_south p.latitude) _ g }

pub point-good : (p : Point) → GoodPoint p → good_point p ≡ true
unfolding good_point
point-good p g = both_true g.latitude g.longitude

pub record GoodSide (a : Axis) (s : Side) : Type 0 where
  pub letter : either (eqb s.of a.plus) (eqb s.of a.minus) ≡ true
  pub at : good_coordinate a s.at ≡ true

pub side-parts : (a : Axis) (s : Side) → good_side a s ≡ true → GoodSide a s
unfolding good_side
side-parts a s g = record { letter = both_left _ _ g; at = both_right (either (eqb s.of a.plus) (eqb s.of a.minus)) _ g }

-- a longitude bound, a latitude bound, both
pub bound-cases : {A : Type 0} (b : Bound) → good_bound b ≡ true
    → (empty_side b.latitude ≡ true → good_side east_west b.longitude ≡ true → A)
    → (empty_side b.latitude ≡ false → good_side north_south b.latitude ≡ true → empty_side b.longitude ≡ true → A)
    → (empty_side b.latitude ≡ false → good_side north_south b.latitude ≡ true → empty_side b.longitude ≡ false → good_side east_west b.longitude ≡ true → A)
    → A
unfolding good_bound
bound-cases b g longitude latitude two =
    by (empty_side b.latitude) (λ e. longitude e (rw e at g))
    (λ e.
    let first : both (good_side north_south b.latitude) (either (empty_side b.longitude) (good_side east_west b.longitude)) ≡ true = rw e at g in
    let n : good_side north_south b.latitude ≡ true = both_left _ _ first in
    by (empty_side b.longitude) (λ f. latitude e n f) (λ f. two e n f (rw f at (both_right (good_side north_south b.latitude) _ first))))

pub record GoodOutline (n : ℕ) (ps : List Point) : Type 0 where
  pub least : least_points ≤ n
  pub most : n ≤ most_points
  pub long : length ps ≡ most_points
  pub points : all_of good_point (take n ps) ≡ true
  pub closing : closing_point ps ≡ n - 1
  pub unused : all_of empty_point (drop n ps) ≡ true

pub outline-parts : (n : ℕ) (ps : List Point) → good_outline n ps ≡ true → GoodOutline n ps
unfolding good_outline
outline-parts n ps g =
    let t = both-five (between least_points most_points n) (eqb (length ps) most_points) (all_of good_point (take n ps)) (eqb (closing_point ps) (n - 1)) _ g in
    record {
      least = between-low least_points most_points n t.0;
      most = between-high least_points most_points n t.0;
      long = eqb-true (length ps) most_points t.1;
      points = t.2;
      closing = eqb-true (closing_point ps) (n - 1) t.3;
      unused = t.4;
    }

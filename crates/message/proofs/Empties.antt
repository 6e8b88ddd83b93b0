-- What is empty is the value of no field, and that value is empty.
use mathlib.Core.Bool.{Bool, true, false, not}
use mathlib.Core.List.{List, [], ◌∷◌}
use mathlib.Core.Path.{◌≡◌, refl, ◌∙◌}
use Prim.Native.Nat.{ℕ, zero, suc, ◌-◌}
use lib.Dec.{eqb}
use lib.ListN.{length, drop, replicate, length-drop}
use borrow.Author.Tests.{eqb-true, not-true}
use Rattle.lists.specs.Choice.{both}
use Rattle.lists.specs.Lists.{all_of}
use Rattle.lists.proofs.Choice.{clash, both_left, both_right, both_true, both-four, both-five}
use Rattle.coordinates.specs.Points.{empty_point, no_point}
use Rattle.coordinates.specs.declared.Point.{Point}
use Rattle.coordinates.proofs.Goodness.{empty-is, empty-point-is, none-empty, no-point-empty}
use Rattle.levels.specs.Levels.{empty_level}
use Rattle.levels.proofs.LevelLaws.{empty-level-is}
use Rattle.message.specs.Limits.{name_bytes, most_points}
use Rattle.message.specs.Locations.{empty_side, no_side, no_points, is_nowhere, empty_extent, no_extent}
use Rattle.message.specs.Names.{zero_byte, unused_zero, empty_name, no_name}
use Rattle.message.specs.Reports.{empty_volcano, no_volcano, empty_observation, no_observation, empty_ending, empty_report, no_report}
use Rattle.message.specs.declared.Ending.{Ending}
use Rattle.message.specs.declared.Ending.TheVariants.{NoEnding, Moving, Stationary, Forecast}
use Rattle.message.specs.declared.Extent.{Extent}
use Rattle.message.specs.declared.Location.{Location}
use Rattle.message.specs.declared.Location.TheVariants.{Nowhere, Bounded, Outline, Entire}
use Rattle.message.specs.declared.Name.{Name}
use Rattle.message.specs.declared.Observation.{Observation}
use Rattle.message.specs.declared.Report.{Report}
use Rattle.message.specs.declared.Side.{Side}
use Rattle.message.specs.declared.Volcano.{Volcano}

-- A list whose elements all pass a test that only one passes is that one so many times.

all_are : {A : Type 0} (f : A → Bool) (d : A) → ((x : A) → f x ≡ true → x ≡ d) → (xs : List A) → all_of f xs ≡ true → xs ≡ replicate (length xs) d
unfolding all_of
all_are f d only [] t = refl
all_are f d only (x ∷ xs) t =
    let head : x ≡ d = only x (both_left (f x) (all_of f xs) t) in
    let tail : xs ≡ replicate (length xs) d = all_are f d only xs (both_right (f x) (all_of f xs) t) in
    λ i. head i ∷ tail i

pub all_replicate : {A : Type 0} (f : A → Bool) (n : ℕ) (x : A) → f x ≡ true → all_of f (replicate n x) ≡ true
unfolding all_of
all_replicate f zero x e = refl
all_replicate f (suc n) x e = both_true e (all_replicate f n x e)

-- A name.

-- what the bytes past a name are
pub record Unused (n : Name) : Type 0 where
  pub long : length n.bytes ≡ name_bytes
  pub rest : drop n.count n.bytes ≡ replicate (name_bytes - n.count) 0

pub unused-told : (n : Name) → unused_zero n ≡ true → Unused n
unused-told n u = record { long = long; rest = all_are zero_byte 0 (λ x e. eqb-true x 0 e) (drop n.count n.bytes) zero-bytes ∙ rw (length-drop n.count n.bytes, long) }
  where
    long : length n.bytes ≡ name_bytes
    long = eqb-true (length n.bytes) name_bytes (both_left _ _ u)

    zero-bytes : all_of zero_byte (drop n.count n.bytes) ≡ true
    zero-bytes = both_right (eqb (length n.bytes) name_bytes) _ u

pub empty-name-is : (n : Name) → empty_name n ≡ true → n ≡ no_name
unfolding empty_name
empty-name-is n e =
    let none : n.count ≡ 0 = eqb-true n.count 0 (both_left _ _ e) in
    let all : n.bytes ≡ replicate name_bytes 0 = rw none at (unused-told n (both_right (eqb n.count 0) _ e)).rest in
    λ i. record { bytes = all i; count = none i }

pub no-name-empty : empty_name no_name ≡ true
unfolding empty_name all_of
no-name-empty = refl

-- A location.

pub empty-points : (ps : List Point) → all_of empty_point ps ≡ true → ps ≡ replicate (length ps) no_point
empty-points = all_are empty_point no_point empty-point-is

pub no-points : (ps : List Point) → no_points ps ≡ true → ps ≡ no_extent.points
unfolding no_points
no-points ps t =
    let long : length ps ≡ most_points = eqb-true (length ps) most_points (both_left _ _ t) in
    rw long at (empty-points ps (both_right (eqb (length ps) most_points) _ t))

pub no-points-empty : no_points no_extent.points ≡ true
unfolding no_points
no-points-empty = all_replicate empty_point most_points no_point no-point-empty

pub no-side : (s : Side) → empty_side s ≡ true → s ≡ no_side
unfolding empty_side
no-side s t = λ i. record { of = eqb-true s.of 0 (both_left _ _ t) i; at = empty-is s.at (both_right (eqb s.of 0) _ t) i }

pub no-side-empty : empty_side no_side ≡ true
unfolding empty_side
no-side-empty = none-empty

pub nowhere-is : (l : Location) → is_nowhere l ≡ true → l ≡ Nowhere
nowhere-is Nowhere e = refl
nowhere-is (Bounded b) e = clash false e refl
nowhere-is (Outline n) e = clash false e refl
nowhere-is Entire e = clash false e refl

pub empty-extent-is : (x : Extent) → empty_extent x ≡ true → x ≡ no_extent
unfolding empty_extent
empty-extent-is x e = λ i. record {
  location = nowhere-is x.location (both_left _ _ e) i;
  points = no-points x.points (both_right (is_nowhere x.location) _ e) i;
}

pub no-extent-empty : empty_extent no_extent ≡ true
unfolding empty_extent
no-extent-empty = no-points-empty

-- A report.

pub empty-volcano-is : (v : Volcano) → empty_volcano v ≡ true → v ≡ no_volcano
unfolding empty_volcano
empty-volcano-is v e = λ i. record {
  name = empty-name-is v.name (both_left _ _ e) i;
  position = empty-point-is v.position (both_right (empty_name v.name) _ e) i;
}

pub no-volcano-empty : empty_volcano no_volcano ≡ true
unfolding empty_volcano
no-volcano-empty = both_true no-name-empty no-point-empty

pub empty-observation-is : (o : Observation) → empty_observation o ≡ true → o ≡ no_observation
unfolding empty_observation
empty-observation-is o e =
    let t = both-four (not o.timed) (eqb o.word 0) (eqb o.time.hour 0) _ e in
    λ i. record {
      word = eqb-true o.word 0 t.1 i;
      timed = not-true o.timed t.0 i;
      time = record { hour = eqb-true o.time.hour 0 t.2 i; minute = eqb-true o.time.minute 0 t.3 i };
    }

pub empty-ending-is : (e : Ending) → empty_ending e ≡ true → e ≡ NoEnding
unfolding empty_ending
empty-ending-is NoEnding h = refl
empty-ending-is (Moving d s i) h = clash false h refl
empty-ending-is (Stationary i) h = clash false h refl
empty-ending-is (Forecast i) h = clash false h refl

pub empty-report-is : (r : Report) → empty_report r ≡ true → r ≡ no_report
unfolding empty_report
empty-report-is r e =
    let first : Bool = both (eqb r.phenomenon 0) (empty_volcano r.volcano) in
    let t = both-five first (empty_observation r.observation) (empty_extent r.extent) (empty_level r.level) _ e in
    λ i. record {
      phenomenon = eqb-true r.phenomenon 0 (both_left _ _ t.0) i;
      volcano = empty-volcano-is r.volcano (both_right (eqb r.phenomenon 0) _ t.0) i;
      observation = empty-observation-is r.observation t.1 i;
      extent = empty-extent-is r.extent t.2 i;
      level = empty-level-is r.level t.3 i;
      ending = empty-ending-is r.ending (both_left _ _ t.4) i;
      forecast = empty-extent-is r.forecast (both_right (empty_ending r.ending) _ t.4) i;
    }

pub no-report-empty : empty_report no_report ≡ true
unfolding empty_report empty_observation empty_level empty_ending
no-report-empty = both_true no-volcano-empty (both_true no-extent-empty no-extent-empty)

-- A derived `==` with an empty value is the definition's test of emptiness.
use mathlib.Core.Bool.{false}
use mathlib.Core.Path.{◌≡◌, refl, sym, ◌∙◌}
use lib.Dec.{eqb}
use lib.Pointwise.{pointwise}
use borrow.Author.Tests.{eqb-true}
use Rattle.std.proofs.lemmas.Bool.{and_right}
use Rattle.lists.proofs.Choice.{by, both-unit}
use borrow.Author.Rules.{rules}
use Rattle.lists.proofs.Library.{both-and, and_both, pointwise_all}
use Rattle.coordinates.specs.Coordinates.{empty_coordinate, no_coordinate}
use Rattle.coordinates.specs.Points.{empty_point, no_point}
use Rattle.coordinates.specs.declared.Coordinate.{Coordinate}
use Rattle.coordinates.specs.declared.Point.{Point}
use Rattle.coordinates.specs.contracts.CoordinatePartialEq.TheImpl as coordinate_eq
use Rattle.coordinates.specs.contracts.PointPartialEq.TheImpl as point_eq
use Rattle.message.specs.Limits.{name_bytes}
use Rattle.message.specs.Names.{zero_byte, empty_name, no_name}
use Rattle.message.specs.Reports.{empty_volcano, no_volcano}
use Rattle.message.specs.declared.Name.{Name}
use Rattle.message.specs.declared.Volcano.{Volcano}
use Rattle.message.specs.contracts.NamePartialEq.TheImpl as name_eq
use Rattle.message.specs.contracts.VolcanoPartialEq.TheImpl as volcano_eq

coordinate-empty : (c : Coordinate) → (coordinate_eq.ghosts).eq c no_coordinate ≡ empty_coordinate c
unfolding empty_coordinate
coordinate-empty c = search rules

point-empty : (p : Point) → (point_eq.ghosts).eq p no_point ≡ empty_point p
unfolding empty_point
point-empty p = and_both (coordinate-empty p.latitude) (coordinate-empty p.longitude)

pub name_empty : (n : Name) → (name_eq.ghosts).eq n no_name ≡ empty_name n
unfolding empty_name
name_empty n =
    by (eqb n.count 0)
    (λ t.
    let none : n.count ≡ 0 = eqb-true n.count 0 t in
    sym (both-and (pointwise eqb n.bytes no_name.bytes) (eqb n.count 0)) ∙ rw (pointwise_all eqb zero_byte 0 (λ x. refl) n.bytes name_bytes, t, none) (both-unit _))
    (λ z. rw z (and_right (pointwise eqb n.bytes no_name.bytes) false refl))

pub volcano_empty : (v : Volcano) → (volcano_eq.ghosts).eq v no_volcano ≡ empty_volcano v
unfolding empty_volcano
volcano_empty v = and_both (name_empty v.name) (point-empty v.position)

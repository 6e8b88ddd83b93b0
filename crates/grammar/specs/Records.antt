-- The records that the machine makes. "Places of a record that its form does not use are zero (a choice of forms takes its empty case)".
-- Tied: `read-replied`, `replied-only` (crates/grammar/proofs/Theorems.antt).
use Rattle.std.specs.Prelude.{false, true, List, ◌++◌, ℕ, ◌-◌, length, replicate}
use Rattle.coordinates.specs.Points.{no_point}
use Rattle.coordinates.specs.declared.Point.{Point}
use Rattle.groups.specs.declared.Group.{Group}
use Rattle.groups.specs.declared.Time.{Time}
use Rattle.headings.specs.declared.Sequence.{Sequence}
use Rattle.message.specs.Limits.{name_bytes, most_points}
use Rattle.message.specs.Locations.{no_extent}
use Rattle.message.specs.Reports.{no_report}
use Rattle.message.specs.declared.Ending.{Ending}
use Rattle.message.specs.declared.Extent.{Extent}
use Rattle.message.specs.declared.Form.{Form}
use Rattle.message.specs.declared.Form.TheVariants.{Test, Cancellation, Reported}
use Rattle.message.specs.declared.Location.TheVariants.{Bounded, Outline, Entire}
use Rattle.message.specs.declared.Name.{Name}
use Rattle.message.specs.declared.Observation.{Observation}
use Rattle.message.specs.declared.Record.{Record}
use Rattle.message.specs.declared.Report.{Report}
use Rattle.message.specs.declared.Side.{Side}
use Rattle.grammar.specs.States.{ToArea, ToLevel}

-- a name of that text
abbrev pub name_of : List ℕ → Name
name_of t = record { bytes = t ++ replicate (name_bytes - length t) 0; count = length t }

-- an observation without a time, and with one
abbrev pub untimed : ℕ → Observation
untimed n = record { word = n; timed = false; time = record { hour = 0; minute = 0 } }

abbrev pub timed_at : ℕ → Time → Observation
timed_at n t = record { word = n; timed = true; time = t }

-- a bound, an outline of these points, the entire area
abbrev pub bounded : Side → Side → Extent
bounded latitude longitude = record { location = Bounded (record { latitude = latitude; longitude = longitude }); points = no_extent.points }

abbrev pub outlined : List Point → Extent
outlined ps = record { location = Outline (length ps); points = ps ++ replicate (most_points - length ps) no_point }

abbrev pub entirely : Extent
entirely = record { location = Entire; points = no_extent.points }

-- a message of that form
abbrev pub formed : ToArea → Form → Report → Record
formed o form report = record { heading = o.heading; line = o.line; area = o.area; form = form; report = report }

abbrev pub test_of : ToArea → ℕ → Record
test_of o n = formed o (Test n) no_report

abbrev pub cancellation_of : ToArea → Sequence → Group → Record
cancellation_of o s from = formed o (Cancellation s from) no_report

-- what was read before a report's parts
abbrev pub area_of : ToLevel → ToArea
area_of l = l.before.before.before.before

abbrev pub report_of : ToLevel → Ending → Extent → Record
report_of l ending forecast =
    formed (area_of l) Reported
    (record {
      phenomenon = l.before.before.before.phenomenon;
      volcano = l.before.before.before.volcano;
      observation = l.before.before.observation;
      extent = l.before.extent;
      level = l.level;
      ending = ending;
      forecast = forecast;
    })

-- The cases of 01, "The program and the sample", that speak of reading: the sample with one thing changed in it.
-- Believed.
use Rattle.std.specs.Prelude.{List, ◌++◌, ℕ}
use Prim.Native.Char.{code}
use Prim.Native.String.{String}
use Rattle.lists.specs.Base.{worth}
use Rattle.lists.specs.Text.{bytes}
use Rattle.coordinates.specs.declared.Coordinate.{Coordinate}
use Rattle.message.specs.Locations.{no_side, no_extent}
use Rattle.message.specs.Reports.{no_report}
use Rattle.message.specs.Sample.{day_and_time, sample}
use Rattle.message.specs.Words.{new_line}
use Rattle.message.specs.declared.Extent.{Extent}
use Rattle.message.specs.declared.Form.TheVariants.{Cancellation}
use Rattle.message.specs.declared.Location.TheVariants.{Bounded}
use Rattle.message.specs.declared.Record.{Record}

-- a bulletin of three lines
abbrev pub bulletin : String → String → String → List ℕ
bulletin heading line body = bytes heading ++ (new_line ++ (bytes line ++ (new_line ++ bytes body)))

-- the sample with this text after `FIR SEV ICE FCST `
abbrev pub reporting : String → List ℕ
reporting rest = bulletin "WSZZ31 QAAA 180830" "QBBB SIGMET 1 VALID 180830/181230 QAAA-" "QBBB NORTH SOUND FIR SEV ICE FCST " ++ bytes rest

-- the sample's record with another location
abbrev pub located : Extent → Record
located e =
    record {
      heading = sample.heading;
      line = sample.line;
      area = sample.area;
      form = sample.form;
      report =
          record {
            phenomenon = sample.report.phenomenon;
            volcano = sample.report.volcano;
            observation = sample.report.observation;
            extent = e;
            level = sample.report.level;
            ending = sample.report.ending;
            forecast = sample.report.forecast;
          };
    }

-- … with another longitude
abbrev pub east_of : Coordinate → Record
east_of c =
    located (record { location = Bounded (record { latitude = no_side; longitude = record { of = code "E"; at = c } }); points = no_extent.points })

-- E180
abbrev pub E180 : Coordinate
E180 = record { letter = code "E"; digits = 3; degrees = 180; minutes = 0 }

-- sequence 2, of 181100/181230, and this body: a message that may cancel the sample
abbrev pub later_saying : String → List ℕ
later_saying body = bulletin "WSZZ31 QAAA 181100" "QBBB SIGMET 2 VALID 181100/181230 QAAA-" body

-- "Sequence 2, VALID 181100/181230, `CNL SIGMET 1 180830/181230`"
abbrev pub cancelling : Record
cancelling =
    record {
      heading =
          record {
            designator = record { kind = 2; region = worth 256 (bytes "ZZ"); number = 31 };
            centre = worth 256 (bytes "QAAA");
            sent = day_and_time 18 11 0;
            correction = 0;
          };
      line =
          record {
            unit = worth 256 (bytes "QBBB");
            sequence = record { letter = 0; digits = 1; number = 2 };
            valid = record { from = day_and_time 18 11 0; to = day_and_time 18 12 30 };
            office = worth 256 (bytes "QAAA");
          };
      area = sample.area;
      form = Cancellation sample.line.sequence (day_and_time 18 8 30);
      report = no_report;
    }

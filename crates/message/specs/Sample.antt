-- The sample of 01, "The program and the sample", as a record given field by field and as its text.
-- Believed.
use Rattle.std.specs.Prelude.{false, List, ◌++◌, ℕ, replicate}
use Prim.Native.Char.{code}
use Rattle.lists.specs.Base.{worth}
use Rattle.lists.specs.Text.{bytes}
use Rattle.coordinates.specs.declared.Coordinate.{Coordinate}
use Rattle.groups.specs.declared.Group.{Group}
use Rattle.levels.specs.declared.Level.TheVariants.{SurfaceFlight}
use Rattle.message.specs.Locations.{no_side, no_extent}
use Rattle.message.specs.Reports.{no_volcano}
use Rattle.message.specs.Words.{new_line}
use Rattle.message.specs.declared.Ending.TheVariants.{Moving}
use Rattle.message.specs.declared.Form.TheVariants.{Reported}
use Rattle.message.specs.declared.Location.TheVariants.{Bounded}
use Rattle.message.specs.declared.Record.{Record}

abbrev pub day_and_time : ℕ → ℕ → ℕ → Group
day_and_time d h m = record { day = d; hour = h; minute = m }

-- E114
abbrev pub E114 : Coordinate
E114 = record { letter = code "E"; digits = 3; degrees = 114; minutes = 0 }

unfoldable pub sample : Record
sample =
    record {
      heading =
          record {
            designator = record { kind = 2; region = worth 256 (bytes "ZZ"); number = 31 };
            centre = worth 256 (bytes "QAAA");
            sent = day_and_time 18 8 30;
            correction = 0;
          };
      line =
          record {
            unit = worth 256 (bytes "QBBB");
            sequence = record { letter = 0; digits = 1; number = 1 };
            valid = record { from = day_and_time 18 8 30; to = day_and_time 18 12 30 };
            office = worth 256 (bytes "QAAA");
          };
      area =
          record {
            indicator = worth 256 (bytes "QBBB");
            name = record { bytes = bytes "NORTH SOUND" ++ replicate 39 0; count = 11 };
            closing = 1;
          };
      form = Reported;
      report =
          record {
            phenomenon = 10;
            volcano = no_volcano;
            observation = record { word = 2; timed = false; time = record { hour = 0; minute = 0 } };
            extent = record { location = Bounded (record { latitude = no_side; longitude = record { of = code "E"; at = E114 } }); points = no_extent.points };
            level = SurfaceFlight 100;
            ending = Moving 4 (record { value = 20; unit = 1 }) 2;
            forecast = no_extent;
          };
    }

-- "Sample, 130 bytes with CR LF at the line ends"
unfoldable pub sample_text : List ℕ
sample_text =
    bytes "WSZZ31 QAAA 180830"
    ++ (new_line
    ++ (bytes "QBBB SIGMET 1 VALID 180830/181230 QAAA-"
    ++ (new_line ++ bytes "QBBB NORTH SOUND FIR SEV ICE FCST E OF E114 SFC/FL100 MOV E 20KT WKN=")))

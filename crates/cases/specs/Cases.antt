-- Texts that the paper describes, with their records given field by field.
-- Tied: `eruption-read` and its neighbours (crates/cases/proofs/Readings.antt).
use Rattle.std.specs.Prelude.{true, false, List, [], ◌∷◌, ◌++◌, ℕ, zero, suc, ◌-◌, replicate}
use Prim.Native.Char.{code}
use Prim.Native.String.{String}
use Rattle.lists.specs.Base.{worth}
use Rattle.lists.specs.Text.{bytes}
use Rattle.figures.specs.Figures.{in_figures}
use Rattle.coordinates.specs.Points.{point, no_point}
use Rattle.coordinates.specs.declared.Coordinate.{Coordinate}
use Rattle.coordinates.specs.declared.Point.{Point}
use Rattle.headings.specs.declared.Sequence.{Sequence}
use Rattle.levels.specs.declared.Level.TheVariants.{Band, TopAboveFlight}
use Rattle.message.specs.Limits.{most_points}
use Rattle.message.specs.Locations.{no_extent}
use Rattle.message.specs.Reports.{no_volcano, no_report}
use Rattle.message.specs.Sample.{day_and_time, sample}
use Rattle.message.specs.declared.Area.{Area}
use Rattle.message.specs.declared.Ending.TheVariants.{Stationary, Forecast}
use Rattle.message.specs.declared.Extent.{Extent}
use Rattle.message.specs.declared.FirstLine.{FirstLine}
use Rattle.message.specs.declared.Form.TheVariants.{Test, Reported}
use Rattle.message.specs.declared.Heading.{Heading}
use Rattle.message.specs.declared.Location.TheVariants.{Bounded, Outline, Entire}
use Rattle.message.specs.declared.Name.{Name}
use Rattle.message.specs.declared.Record.{Record}
use Rattle.cases.specs.Samples.{bulletin, reporting}

-- the sample's heading and first line, and this body; so too in a WV
abbrev pub saying : String → List ℕ
saying body = bulletin "WSZZ31 QAAA 180830" "QBBB SIGMET 1 VALID 180830/181230 QAAA-" body

abbrev pub ash_saying : String → List ℕ
ash_saying body = bulletin "WVZZ31 QAAA 180830" "QBBB SIGMET 1 VALID 180830/181230 QAAA-" body

-- The parts of the records, as the texts write them.

abbrev pub coordinate : ℕ → ℕ → ℕ → ℕ → Coordinate
coordinate letter digits degrees minutes = record { letter = letter; digits = digits; degrees = degrees; minutes = minutes }

-- `WSZZ31 QAAA 180830`, or `WVZZ31 …`, with a correction or none
abbrev pub sample_heading : ℕ → ℕ → Heading
sample_heading kind correction =
    record {
      designator = record { kind = kind; region = worth 256 (bytes "ZZ"); number = 31 };
      centre = worth 256 (bytes "QAAA");
      sent = day_and_time 18 8 30;
      correction = correction;
    }

abbrev pub sequence_one : Sequence
sequence_one = record { letter = 0; digits = 1; number = 1 }

-- `QBBB SIGMET 1 VALID 180830/181230 QAAA-`, with this sequence
abbrev pub sample_line : Sequence → FirstLine
sample_line s =
    record {
      unit = worth 256 (bytes "QBBB");
      sequence = s;
      valid = record { from = day_and_time 18 8 30; to = day_and_time 18 12 30 };
      office = worth 256 (bytes "QAAA");
    }

-- `NORTH SOUND`: 11 characters
abbrev pub north_sound : Name
north_sound = record { bytes = bytes "NORTH SOUND" ++ replicate 39 0; count = 11 }

-- `QBBB NORTH SOUND FIR`, or with another closing word
abbrev pub sample_area : ℕ → Area
sample_area closing = record { indicator = worth 256 (bytes "QBBB"); name = north_sound; closing = closing }

-- an outline in whole degrees north and east
abbrev pub north_east : ℕ → ℕ → Point
north_east north east = point (coordinate (code "N") 2 north 0) (coordinate (code "E") 3 east 0)

-- four points, the last equal to the first on the other side of the meridian of 180 degrees
abbrev pub meridian_outline : Extent
meridian_outline =
    record {
      location = Outline 4;
      points =
          north_east 10 180
          ∷ north_east 11 180
          ∷ north_east 11 179
          ∷ point (coordinate (code "N") 2 10 0) (coordinate (code "W") 5 180 0)
          ∷ replicate (most_points - 4) no_point;
    }

-- so many points northward along E010, and their text, a ` - ` after each
unfoldable pub climb : ℕ → ℕ → List Point
climb north zero = []
climb north (suc n) = north_east north 10 ∷ climb (suc north) n

unfoldable pub climb_text : ℕ → ℕ → List ℕ
climb_text north zero = []
climb_text north (suc n) = bytes "N" ++ (in_figures 2 north ++ (bytes " E010 - " ++ climb_text (suc north) n))

-- an outline of so many points: one less, and then the first again
abbrev pub closed_at : ℕ → List Point
closed_at n = climb 10 (n - 1) ++ (north_east 10 10 ∷ replicate (most_points - n) no_point)

abbrev pub longest_outline : Extent
longest_outline = record { location = Outline most_points; points = closed_at most_points }

-- the sample with the longest outline but for its last point, and this text from there on
abbrev pub last_point : String → List ℕ
last_point rest = reporting "WI " ++ (climb_text 10 (most_points - 1) ++ bytes rest)

-- … with the longest outline in a forecast, too
abbrev pub longest_twice : List ℕ
longest_twice = last_point "N10 E010 SFC/FL100 WKN FCST AT 1230Z WI " ++ (climb_text 10 (most_points - 1) ++ bytes "N10 E010=")

-- the sample's record with that location both times
abbrev pub foreseen : Extent → Record
foreseen e =
    record {
      heading = sample.heading;
      line = sample.line;
      area = sample.area;
      form = Reported;
      report =
          record {
            phenomenon = sample.report.phenomenon;
            volcano = no_volcano;
            observation = sample.report.observation;
            extent = e;
            level = sample.report.level;
            ending = Forecast 2;
            forecast = e;
          };
    }

-- a name of 50 characters
abbrev pub fifty_name : Name
fifty_name = record { bytes = bytes "ABCDEFGHI ABCDEFGHI ABCDEFGHI ABCDEFGHI ABCDEFGHIJ"; count = 50 }

-- "a test: `TEST`, or `TEST SIGMET PLEASE DISREGARD`, or `TEST. THIS IS A TEST SIGMET, PLEASE DISREGARD`": the n-th, in the sample's place
abbrev pub testing : ℕ → Record
testing n =
    record { heading = sample_heading 2 0; line = sample_line sequence_one; area = sample_area 1; form = Test n; report = no_report }

-- the first test, in an area with a name of 50 characters
abbrev pub testing_fifty : Record
testing_fifty =
    record {
      heading = sample_heading 2 0;
      line = sample_line sequence_one;
      area = record { indicator = worth 256 (bytes "QBBB"); name = fifty_name; closing = 1 };
      form = Test 1;
      report = no_report;
    }

-- "WV: …, or `VA ERUPTION`, perhaps `MT` and a name (…), `PSN`, a point, `VA CLD`"; an outline whose last point is equal to its first and is
-- written otherwise; "`TOP ABV FLnnn`"; "or `STNR`, then …". Sequence A2.
abbrev pub eruption_text : List ℕ
eruption_text =
    bulletin "WVZZ31 QAAA 180830" "QBBB SIGMET A2 VALID 180830/181230 QAAA-"
    "QBBB NORTH SOUND FIR VA ERUPTION MT SAINT-ELM PEAK PSN N5412 W01030 VA CLD OBS WI N00 E010 - N01 E010 - N01 E011 - S0000 E01000 TOP ABV FL350 STNR NC="

abbrev pub eruption_record : Record
eruption_record =
    record {
      heading = sample_heading 3 0;
      line = sample_line (record { letter = code "A"; digits = 1; number = 2 });
      area = sample_area 1;
      form = Reported;
      report =
          record {
            phenomenon = 17;
            volcano =
                record {
                  name = record { bytes = bytes "SAINT-ELM PEAK" ++ replicate 36 0; count = 14 };
                  position = point (coordinate (code "N") 4 54 12) (coordinate (code "W") 5 10 30);
                };
            observation = record { word = 1; timed = false; time = record { hour = 0; minute = 0 } };
            extent =
                record {
                  location = Outline 4;
                  points =
                      point (coordinate (code "N") 2 0 0) (coordinate (code "E") 3 10 0)
                      ∷ point (coordinate (code "N") 2 1 0) (coordinate (code "E") 3 10 0)
                      ∷ point (coordinate (code "N") 2 1 0) (coordinate (code "E") 3 11 0)
                      ∷ point (coordinate (code "S") 4 0 0) (coordinate (code "E") 5 10 0)
                      ∷ replicate (most_points - 4) no_point;
                };
            level = TopAboveFlight 350;
            ending = Stationary 3;
            forecast = no_extent;
          };
    }

-- a correction; "`FIR/UIR`"; "`OBS` or `FCST`, perhaps `AT GGggZ`"; "`ENTIRE FIR`"; "`FLnnn/nnn`"; "the intensity word first and then
-- `FCST AT GGggZ` and a location"; "a latitude bound, `AND`, a longitude bound"
abbrev pub corrected_text : List ℕ
corrected_text =
    bulletin "WSZZ31 QAAA 180830 CCB" "QBBB SIGMET 1 VALID 180830/181230 QAAA-"
    "QBBB NORTH SOUND FIR/UIR SEV TURB OBS AT 0825Z ENTIRE FIR FL250/370 INTSF FCST AT 1230Z N OF N54 AND W OF W010="

abbrev pub corrected_record : Record
corrected_record =
    record {
      heading = sample_heading 2 (code "B");
      line = sample_line sequence_one;
      area = sample_area 2;
      form = Reported;
      report =
          record {
            phenomenon = 9;
            volcano = no_volcano;
            observation = record { word = 1; timed = true; time = record { hour = 8; minute = 25 } };
            extent = record { location = Entire; points = no_extent.points };
            level = Band 250 370;
            ending = Forecast 1;
            forecast =
                record {
                  location =
                      Bounded
                      (record {
                        latitude = record { of = code "N"; at = coordinate (code "N") 2 54 0 };
                        longitude = record { of = code "W"; at = coordinate (code "W") 3 10 0 };
                      });
                  points = no_extent.points;
                };
          };
    }

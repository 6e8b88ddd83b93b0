-- The starred cases of 01, "The program and the sample", line by line in its order, about the definitions.
-- Believed.
use Rattle.std.specs.Prelude.{List, [], ◌∷◌, ◌++◌, ◌≡◌, ℕ, ◌+◌, ◌-◌, ◌*◌, leb, pos, neg_ℤ, length, replicate}
use Prim.Native.Char.{code}
use Prim.Native.String.{String}
use Rattle.lists.specs.Choice.{pick}
use Rattle.lists.specs.Text.{bytes}
use Rattle.coordinates.specs.Coordinates.{north_south, coordinate_of, no_coordinate, Valued}
use Rattle.message.specs.Sample.{day_and_time, sample, sample_text}
use Rattle.message.specs.Words.{text_of}
use Rattle.message.specs.declared.Record.{Record}
use Rattle.grammar.specs.Bulletins.{acceptance, refusal}
use Rattle.grammar.specs.Reads.{read_of}
use Rattle.cases.specs.Samples.{reporting, later_saying, east_of, E180, cancelling}
use Rattle.calendar.specs.Gregorian.{first_day}
use Rattle.calendar.specs.Meanings.{IsStart, IsEnd, IsTarget}
use Rattle.board.specs.Boards.{empty_board}
use Rattle.board.specs.Posts.{post_of}
use Rattle.board.specs.declared.Board.{Board}
use Rattle.pens.specs.Outcomes.{written}
use Rattle.listing.specs.Answers.{list_of}

-- bytes in hex: two figures each, 0 to 9 and A to F
abbrev pub nibble : ℕ → ℕ
nibble c = pick (leb c (code "9")) (c - code "0") (c - code "A" + 10)

unfoldable pub in_pairs : List ℕ → List ℕ
in_pairs [] = []
in_pairs (a ∷ []) = []
in_pairs (a ∷ b ∷ rest) = (nibble a * 16 + nibble b) ∷ in_pairs rest

abbrev pub hex : String → List ℕ
hex s = in_pairs (bytes s)

-- a date and time in minutes from 2000-01-01 0000Z
abbrev pub minute_of : ℕ → ℕ → ℕ → ℕ → ℕ → ℕ
minute_of year month day hour minute = (first_day ((year - 2000) * 12 + (month - 1)) + (day - 1)) * 1440 + (hour * 60 + minute)

-- the sample with VALID 290100/290500
abbrev pub on_the_twenty_ninth : Record
on_the_twenty_ninth =
    record {
      heading = sample.heading;
      line =
          record {
            unit = sample.line.unit;
            sequence = sample.line.sequence;
            valid = record { from = day_and_time 29 1 0; to = day_and_time 29 5 0 };
            office = sample.line.office;
          };
      area = sample.area;
      form = sample.form;
      report = sample.report;
    }

-- "Sample posted then"; and then the cancellation, "posted at 12,648,180"
abbrev pub with_sample : Board
with_sample = (post_of empty_board 12648030 sample).board

abbrev pub with_cancellation : Board
with_cancellation = (post_of with_sample 12648180 cancelling).board

-- a buffer with nothing in it yet
abbrev pub page : ℕ → List ℕ
page size = replicate size 0

pub record Starred : Type 0 where
  -- "Sample, 130 bytes": read as its record, whose canonical text it is
  pub sample-length : length sample_text ≡ 130
  pub sample-read : read_of sample_text ≡ acceptance sample
  pub sample-written : text_of sample ≡ sample_text
  -- "`E180` for E114: read. `E181`: 9 at 100."
  pub east-180 : read_of (reporting "E OF E180 SFC/FL100 MOV E 20KT WKN=") ≡ acceptance (east_of E180)
  pub east-181 : read_of (reporting "E OF E181 SFC/FL100 MOV E 20KT WKN=") ≡ refusal 9 100 4
  -- "`FCST` for WKN: 11 at 126. ` NC` after WKN: 12 at 130. No `=`: 3 at 129."
  pub forecast-for-intensity : read_of (reporting "E OF E114 SFC/FL100 MOV E 20KT FCST=") ≡ refusal 11 126 4
  pub intensity-twice : read_of (reporting "E OF E114 SFC/FL100 MOV E 20KT WKN NC=") ≡ refusal 12 130 2
  pub no_sign : read_of (reporting "E OF E114 SFC/FL100 MOV E 20KT WKN") ≡ refusal 3 129 0
  -- "N00 and S0000 both have value 0. S90 is -5,400; N9001 is refused."
  pub north-0 : Valued north_south "N00" (pos 0)
  pub south-0 : Valued north_south "S0000" (pos 0)
  pub south-90 : Valued north_south "S90" (neg_ℤ (pos 5400))
  pub north-90-01 : coordinate_of north_south (bytes "N9001") ≡ no_coordinate
  pub north-90-01-read : read_of (reporting "N OF N9001 SFC/FL100 MOV E 20KT WKN=") ≡ refusal 9 100 5
  -- "Clock 12,648,030 (2024-01-18 0830Z): start 12,648,030, end 12,648,270."
  pub the-18th : minute_of 2024 1 18 8 30 ≡ 12648030
  pub start : IsStart 12648030 sample.line.valid.from 12648030
  pub end : IsEnd sample.heading.designator.kind 12648030 sample.line.valid.to 12648270
  -- "Sample posted then; listed at that minute, in hex: `01 00C0FE5E 02 51424242 312020 20 00C0FE5E 00C0FF4E`."
  pub posted : (post_of empty_board 12648030 sample).answer ≡ 0
  pub listed : list_of with_sample 12648030 (page 22)
      ≡ written (hex "01" ++ (hex "00C0FE5E" ++ (hex "02" ++ (hex "51424242" ++ (hex "312020" ++ (hex "20" ++ (hex "00C0FE5E" ++ hex "00C0FF4E"))))))) (page 22)
  -- "At 12,648,269 one message; at 12,648,270 only kind 1."
  pub last-minute : list_of with_sample 12648269 (page 22)
      ≡ written (hex "01" ++ (hex "00C0FF4D" ++ (hex "02" ++ (hex "51424242" ++ (hex "312020" ++ (hex "20" ++ (hex "00C0FE5E" ++ hex "00C0FF4E"))))))) (page 22)
  pub over : list_of with_sample 12648270 (page 22) ≡ written (hex "01" ++ hex "00C0FF4E") (page 22)
  -- "Clock 12,709,380 (2024-02-29 2300Z), start 010100 is 12,709,500. Clock 2023-02-28 2300Z, start 290100: 18."
  pub the-29th : minute_of 2024 2 29 23 0 ≡ 12709380
  pub leap-year : IsStart 12709380 (day_and_time 1 1 0) 12709500
  pub the-28th : minute_of 2023 2 28 23 0 ≡ 12182340
  pub no-29th : (t : ℕ) → IsStart 12182340 (day_and_time 29 1 0) t → ⊥
  pub common-year : (post_of empty_board 12182340 on_the_twenty_ninth).answer ≡ 18
  -- "Sequence 2, VALID 181100/181230, `CNL SIGMET 1 180830/181230`, posted at 12,648,180: the sample is off the list; at
  -- 12,648,181 the sample posted again gets 22, the cancellation posted again 21."
  pub cancellation-read : read_of (later_saying "QBBB NORTH SOUND FIR CNL SIGMET 1 180830/181230=") ≡ acceptance cancelling
  pub target : IsTarget cancelling.heading.designator.kind 12648270 sample.line.valid.from 12648030
  pub cancelled : (post_of with_sample 12648180 cancelling).answer ≡ 0
  pub off-the-list : list_of with_cancellation 12648180 (page 22) ≡ written (hex "01" ++ hex "00C0FEF4") (page 22)
  pub late-copy : (post_of with_cancellation 12648181 sample).answer ≡ 22
  pub cancelled-again : (post_of with_cancellation 12648181 cancelling).answer ≡ 21

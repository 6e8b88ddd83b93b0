-- The starred cases, evaluated.
use mathlib.Core.Bool.{true, false}
use mathlib.Core.List.{List, ◌∷◌, ◌++◌}
use mathlib.Core.Path.{◌≡◌, refl, ap, subst, ◌∙◌}
use Prim.Native.Nat.{ℕ, ◌<◌}
use native.Mathlib.Omega.{arith}
use lib.ListN.{replicate}
use Rattle.lists.specs.Base.{worth_after, places}
use Rattle.lists.specs.Lists.{index_of, all_of, same}
use Rattle.coordinates.specs.Coordinates.{good_coordinate, empty_coordinate}
use Rattle.coordinates.specs.Points.{empty_point}
use Rattle.figures.specs.Figures.{figures_of}
use Rattle.figures.specs.Letters.{good_letters, letters_of}
use Rattle.groups.specs.declared.Group.{Group}
use Rattle.groups.specs.Groups.{good_group, good_period, good_time}
use Rattle.headings.specs.Headings.{type_words, good_designator, good_correction}
use Rattle.headings.specs.Sequences.{good_sequence, sequence_of, spell_sequence}
use Rattle.levels.specs.Levels.{good_level_word, good_level, empty_level}
use Rattle.names.specs.Names.{closing_words, name_word, pieces, name_text}
use Rattle.motions.specs.Speeds.{unit_words, good_speed}
use Rattle.motions.specs.Motions.{compass_words, intensity_words}
use Rattle.message.specs.Names.{good_name, empty_name}
use Rattle.message.specs.Locations.{good_side, empty_side, good_bound, no_points, good_extent, empty_extent}
use Rattle.message.specs.Records.{good_heading, good_line, good_area, good_form, good, names_itself}
use Rattle.message.specs.Reports.{empty_volcano, good_phenomenon, good_observation, empty_observation, good_ending, empty_ending, good_report, empty_report}
use Rattle.message.specs.Sample.{day_and_time, sample}
use Rattle.message.specs.declared.Record.{Record}
use Rattle.cases.specs.Samples.{cancelling}
use Rattle.calendar.specs.Gregorian.{never, first_day, month_length}
use Rattle.calendar.specs.Instants.{day_from, day_of_month, matches, on_day, instant_in, start_of, end_of, target_of}
use Rattle.places.specs.Padded.{padded, unpadded, held_sequence}
use Rattle.places.specs.Places.{same_identity, no_place, empty_place, held_identity, held_correction, held_place, good_place}
use Rattle.board.specs.Boards.{distinct, good_places, good_board, empty_board, refusal_at}
use Rattle.places.specs.Claims.{report_place, target_place, ending, cancels, timed, claim_of}
use Rattle.board.specs.Posts.{dropped, objection, spot_of, place_at, settled, claimed_on, post_of}
use Rattle.listing.specs.Rows.{in_force, selected, inserted, sorted_after, rows_of}
use Rattle.pens.specs.Outcomes.{written}
use Rattle.listing.specs.Listings.{time_record, message_record, records}
use Rattle.listing.specs.Answers.{listing_of, list_of}
use Rattle.board.specs.declared.Board.{Board}
use Rattle.places.specs.declared.Identity.{Identity}
use Rattle.places.specs.declared.Place.{Place}
use Rattle.calendar.specs.Meanings.{IsStart, IsEnd, IsTarget}
use Rattle.calendar.proofs.CalendarLaws.{start-found, start_none, end-found, target_found, case-leap-year, case-common-year, case-at-the-clock, case-at-the-limit}
use Rattle.coordinates.proofs.Cases.{n00, s0000, s90, n9001}
use Rattle.cases.proofs.Readings.{sample-read, sample-E180, sample-E181, sample-N9001, sample-FCST, sample-NC, sample-open, cancellation-read}
use Rattle.message.proofs.Samples.{sample-length, sample-text}
use Rattle.promises.specs.Starred.{hex, in_pairs, minute_of, on_the_twenty_ninth, with_sample, with_cancellation, page, Starred}

-- what a post comes to, with every definition open: a theorem that unfolds this one computes
opened : Record → Record
unfolding
    post_of claimed_on settled place_at refusal_at good_board good_places distinct good_place held_place held_identity held_correction held_sequence unpadded padded empty_place same_identity objection spot_of dropped claim_of timed ending cancels report_place target_place start_of end_of target_of instant_in on_day matches day_of_month day_from month_length spell_sequence sequence_of letters_of good_correction good sample good_heading good_line good_area good_form names_itself good_report empty_report good_designator good_letters good_group good_period good_sequence good_name good_phenomenon good_observation good_extent good_level good_ending empty_volcano empty_name empty_point empty_coordinate empty_side good_bound good_side good_coordinate no_points empty_extent good_level_word good_speed unit_words intensity_words closing_words type_words worth_after places all_of name_text pieces name_word index_of same good_time compass_words figures_of empty_observation empty_level empty_ending
opened r = r

-- the sample's place, and the same with the mark of its cancellation
abbrev pub sample_identity : Identity
sample_identity = record { kind = 2; area = 1363296834; sequence = 3219488; start = 12648030; end = 12648270 }

abbrev pub sample_place : Place
sample_place = record { identity = sample_identity; correction = 0; marked = false }

abbrev pub cancelled_place : Place
cancelled_place = record { identity = sample_identity; correction = 0; marked = true }

abbrev pub board_at : Place → ℕ → Board
board_at p clock = record { clock = clock; places = p ∷ replicate 63 no_place }

pub sample-posted : post_of empty_board 12648030 sample ≡ record { answer = 0; board = board_at sample_place 12648030 }
unfolding opened
sample-posted = refl

pub sample-cancelled : post_of (board_at sample_place 12648030) 12648180 cancelling ≡ record { answer = 0; board = board_at cancelled_place 12648180 }
unfolding opened
sample-cancelled = refl

pub sample-again : (post_of (board_at cancelled_place 12648180) 12648181 sample).answer ≡ 22
unfolding opened
sample-again = refl

pub cancelling-again : (post_of (board_at cancelled_place 12648180) 12648181 cancelling).answer ≡ 21
unfolding opened
cancelling-again = refl

pub twenty-ninth : (post_of empty_board 12182340 on_the_twenty_ninth).answer ≡ 18
unfolding opened
twenty-ninth = refl

-- the sample's record in a listing
abbrev pub sample_record : List ℕ
sample_record = hex "02" ++ (hex "51424242" ++ (hex "312020" ++ (hex "20" ++ (hex "00C0FE5E" ++ hex "00C0FF4E"))))

listed_then : list_of (board_at sample_place 12648030) 12648030 (page 22) ≡ written (hex "01" ++ (hex "00C0FE5E" ++ sample_record)) (page 22)
unfolding opened list_of listing_of rows_of selected in_force sorted_after inserted records message_record time_record in_pairs
listed_then = refl

listed-late : list_of (board_at sample_place 12648030) 12648269 (page 22) ≡ written (hex "01" ++ (hex "00C0FF4D" ++ sample_record)) (page 22)
unfolding opened list_of listing_of rows_of selected in_force sorted_after inserted records message_record time_record in_pairs
listed-late = refl

listed-over : list_of (board_at sample_place 12648030) 12648270 (page 22) ≡ written (hex "01" ++ hex "00C0FF4E") (page 22)
unfolding opened list_of listing_of rows_of selected in_force sorted_after inserted records message_record time_record in_pairs
listed-over = refl

pub listed-cancelled : list_of (board_at cancelled_place 12648180) 12648180 (page 22) ≡ written (hex "01" ++ hex "00C0FEF4") (page 22)
unfolding opened list_of listing_of rows_of selected in_force sorted_after inserted records message_record time_record in_pairs
listed-cancelled = refl

-- the same at the minute of the cancellation, before it
pub listed-meanwhile : list_of (board_at sample_place 12648030) 12648180 (page 22) ≡ written (hex "01" ++ (hex "00C0FEF4" ++ sample_record)) (page 22)
unfolding opened list_of listing_of rows_of selected in_force sorted_after inserted records message_record time_record in_pairs
listed-meanwhile = refl

-- dates
the-18th : minute_of 2024 1 18 8 30 ≡ 12648030
unfolding first_day month_length
the-18th = refl

the-29th : minute_of 2024 2 29 23 0 ≡ 12709380
unfolding first_day month_length
the-29th = refl

the-28th : minute_of 2023 2 28 23 0 ≡ 12182340
unfolding first_day month_length
the-28th = refl

-- instants: what is found is what the paper means
start_is : (clock : ℕ) (g : Group) (t : ℕ) → start_of clock g ≡ t → t < never → IsStart clock g t
start_is clock g t e l = subst (IsStart clock g) e (start-found clock g (rw e l))

end_is : (kind start : ℕ) (g : Group) (t : ℕ) → end_of kind start g ≡ t → t < never → IsEnd kind start g t
end_is kind start g t e l = subst (IsEnd kind start g) e (end-found kind start g (rw e l))

target_is : (kind end : ℕ) (g : Group) (t : ℕ) → target_of kind end g ≡ t → t < never → IsTarget kind end g t
target_is kind end g t e l = subst (IsTarget kind end g) e (target_found kind end g (rw e l))

found_target : target_of 2 12648270 (day_and_time 18 8 30) ≡ 12648030
unfolding opened
found_target = refl

sample-start : IsStart 12648030 sample.line.valid.from 12648030
unfolding sample
sample-start = start_is 12648030 (day_and_time 18 8 30) 12648030 case-at-the-clock (omega (arith))

sample-end : IsEnd sample.heading.designator.kind 12648030 sample.line.valid.to 12648270
unfolding sample
sample-end = end_is 2 12648030 (day_and_time 18 12 30) 12648270 case-at-the-limit (omega (arith))

sample-target : IsTarget cancelling.heading.designator.kind 12648270 sample.line.valid.from 12648030
unfolding sample
sample-target = target_is 2 12648270 (day_and_time 18 8 30) 12648030 found_target (omega (arith))

-- the boards of the cases are these two
with-sample : with_sample ≡ board_at sample_place 12648030
with-sample = ap (λ x. x.board) sample-posted

with-cancellation : with_cancellation ≡ board_at cancelled_place 12648180
with-cancellation = ap (λ (b : Board). (post_of b 12648180 cancelling).board) with-sample ∙ ap (λ x. x.board) sample-cancelled

pub starred : Starred
starred =
    record {
      sample-length = sample-length;
      sample-read = sample-read;
      sample-written = sample-text;
      east-180 = sample-E180;
      east-181 = sample-E181;
      forecast-for-intensity = sample-FCST;
      intensity-twice = sample-NC;
      no_sign = sample-open;
      north-0 = n00;
      south-0 = s0000;
      south-90 = s90;
      north-90-01 = n9001;
      north-90-01-read = sample-N9001;
      the-18th = the-18th;
      start = sample-start;
      end = sample-end;
      posted = ap (λ x. x.answer) sample-posted;
      listed = ap (λ (b : Board). list_of b 12648030 (page 22)) with-sample ∙ listed_then;
      last-minute = ap (λ (b : Board). list_of b 12648269 (page 22)) with-sample ∙ listed-late;
      over = ap (λ (b : Board). list_of b 12648270 (page 22)) with-sample ∙ listed-over;
      the-29th = the-29th;
      leap-year = start_is 12709380 (day_and_time 1 1 0) 12709500 case-leap-year (omega (arith));
      the-28th = the-28th;
      no-29th = start_none 12182340 (day_and_time 29 1 0) case-common-year;
      common-year = twenty-ninth;
      cancellation-read = cancellation-read;
      target = sample-target;
      cancelled = ap (λ (b : Board). (post_of b 12648180 cancelling).answer) with-sample ∙ ap (λ x. x.answer) sample-cancelled;
      off-the-list = ap (λ (b : Board). list_of b 12648180 (page 22)) with-cancellation ∙ listed-cancelled;
      late-copy = ap (λ (b : Board). (post_of b 12648181 sample).answer) with-cancellation ∙ sample-again;
      cancelled-again = ap (λ (b : Board). (post_of b 12648181 cancelling).answer) with-cancellation ∙ cancelling-again;
    }

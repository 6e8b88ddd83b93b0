-- 01, "Refusal numbers": the part of the message that each word of a record belongs to, by the table's numbers. Nothing here knows the
-- machine.
-- Believed.
use Rattle.std.specs.Prelude.{List, [], ◌∷◌, ◌++◌, map, ℕ, take, drop}
use Rattle.words.specs.Words.{equals_sign}
use Rattle.levels.specs.Levels.{level_words}
use Rattle.message.specs.Locations.{extent_words}
use Rattle.message.specs.Reports.{phenomenon_words, observation_words, ending_words}
use Rattle.message.specs.Words.{heading_words, line_words, area_words, form_words, time_of_day}
use Rattle.message.specs.declared.Form.{Form}
use Rattle.message.specs.declared.Form.TheVariants.{NoForm, Test, Cancellation, Reported}
use Rattle.message.specs.declared.Record.{Record}

-- a word and the number of its part
pub record Marked : Type 0 where
  pub number : ℕ
  pub word : List ℕ

abbrev pub marked : ℕ → List ℕ → Marked
marked n w = record { number = n; word = w }

-- all these words belong to one part
abbrev pub in_part : ℕ → List (List ℕ) → List Marked
in_part n ws = map (marked n) ws

-- 8 observation, 9 location, 10 level, 11 ending: "A forecast's location belongs to the ending (11)."
abbrev pub report_parts : Record → List Marked
report_parts r =
    in_part 7 (phenomenon_words r.report.phenomenon r.report.volcano)
    ++ (in_part 8 (observation_words r.report.observation)
    ++ (in_part 9 (extent_words r.area.closing r.report.extent)
    ++ (in_part 10 (level_words r.report.level)
    ++ in_part 11 (ending_words (time_of_day r.line.valid.to) r.area.closing r.report.ending r.report.forecast))))

-- 7 test, cancellation or phenomenon
abbrev pub form_parts : Record → Form → List Marked
form_parts r NoForm = []
form_parts r (Test n) = in_part 7 (form_words r (Test n))
form_parts r (Cancellation s from) = in_part 7 (form_words r (Cancellation s from))
form_parts r Reported = report_parts r

-- 4 "heading's first three words"; 5 "correction or first line"; 6 "area, name, closing word"
unfoldable pub parts_of : Record → List Marked
parts_of r =
    in_part 4 (take 3 (heading_words r.heading))
    ++ (in_part 5 (drop 3 (heading_words r.heading))
    ++ (in_part 5 (line_words r.line) ++ (in_part 6 (area_words r.area) ++ form_parts r r.form)))

-- with the `=`, which has a number of its own: 12 is "a word where `=` would also be accepted"
abbrev pub message_parts : Record → List Marked
message_parts r = parts_of r ++ (marked 12 equals_sign ∷ [])

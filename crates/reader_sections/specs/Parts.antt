-- 01, "Refusal numbers", 4 to 12: the number of each part of a message.
-- Internal contract.
use Rattle.std.specs.Prelude.{ℕ}
use Rattle.reader_sections.specs.declared.parts.Part.{Part}
use Rattle.reader_sections.specs.declared.parts.Part.TheVariants.{Heading, FirstLine, Area, Form, Observation, Location, Level, Ending, End}

abbrev pub part_number : Part → ℕ
part_number Heading = 4
part_number FirstLine = 5
part_number Area = 6
part_number Form = 7
part_number Observation = 8
part_number Location = 9
part_number Level = 10
part_number Ending = 11
part_number End = 12

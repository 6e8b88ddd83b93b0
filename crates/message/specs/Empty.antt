-- 01, "A refusal returns an empty record, all zero."
-- Believed.
use Rattle.groups.specs.Groups.{no_group, no_period}
use Rattle.headings.specs.Headings.{no_designator}
use Rattle.headings.specs.Sequences.{no_sequence}
use Rattle.message.specs.Names.{no_name}
use Rattle.message.specs.Reports.{no_report}
use Rattle.message.specs.declared.FirstLine.{FirstLine}
use Rattle.message.specs.declared.Form.TheVariants.{NoForm}
use Rattle.message.specs.declared.Heading.{Heading}
use Rattle.message.specs.declared.Record.{Record}

abbrev pub no_heading : Heading
no_heading = record { designator = no_designator; centre = 0; sent = no_group; correction = 0 }

abbrev pub no_line : FirstLine
no_line = record { unit = 0; sequence = no_sequence; valid = no_period; office = 0 }

abbrev pub no_record : Record
no_record =
    record { heading = no_heading; line = no_line; area = record { indicator = 0; name = no_name; closing = 0 }; form = NoForm; report = no_report }

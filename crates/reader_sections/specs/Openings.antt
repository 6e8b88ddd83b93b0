-- What stands before the form, as the machine carries it.
-- Internal contract.
use Rattle.grammar.specs.States.{ToArea}
use Rattle.reader_sections.specs.declared.opening.Opening.{Opening}

abbrev pub area_in : Opening → ToArea
area_in o = record { heading = o.heading; line = o.line; area = o.area }

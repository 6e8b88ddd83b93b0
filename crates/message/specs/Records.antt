-- 01, the whole record: heading, first line, area, and "Then one of: a test: …; a cancellation: …; a report: …".
-- "a record with anything else there, or with any part outside the rules above, is a bad record, and every other is good."
-- Believed.
use Rattle.std.specs.Prelude.{Bool, false, not, ℕ, eqb}
use Rattle.lists.specs.Choice.{both, either}
use Rattle.words.specs.Bytes.{between}
use Rattle.figures.specs.Letters.{good_letters}
use Rattle.groups.specs.Groups.{good_group, same_group, good_period}
use Rattle.headings.specs.Headings.{good_designator, good_correction}
use Rattle.headings.specs.Sequences.{good_sequence}
use Rattle.names.specs.Names.{good_closing}
use Rattle.groups.specs.declared.Group.{Group}
use Rattle.headings.specs.declared.Sequence.{Sequence}
use Rattle.message.specs.Limits.{name_bytes}
use Rattle.message.specs.Names.{good_name}
use Rattle.message.specs.Reports.{good_report, empty_report}
use Rattle.message.specs.declared.Area.{Area}
use Rattle.message.specs.declared.FirstLine.{FirstLine}
use Rattle.message.specs.declared.Form.{Form}
use Rattle.message.specs.declared.Form.TheVariants.{NoForm, Test, Cancellation, Reported}
use Rattle.message.specs.declared.Heading.{Heading}
use Rattle.message.specs.declared.Record.{Record}
use Rattle.message.specs.declared.Report.{Report}

-- "Heading: `WS` or `WV`, two letters, two digits, as one word; four letters (centre); day, hour, minute in six digits; then perhaps a
-- correction"
unfoldable pub good_heading : Heading → Bool
good_heading h =
    both (good_designator h.designator)
    (both (good_letters 4 h.centre) (both (good_group h.sent) (either (eqb h.correction 0) (good_correction h.correction))))

-- "First line: four letters (unit), `SIGMET`, sequence, `VALID`, `group/group`, four letters and a hyphen."
unfoldable pub good_line : FirstLine → Bool
good_line l = both (good_letters 4 l.unit) (both (good_sequence l.sequence) (both (good_period l.valid) (good_letters 4 l.office)))

-- "four letters (area; it may differ from the unit), a name, then `FIR`, `FIR/UIR` or `CTA`"
unfoldable pub good_area : Area → Bool
good_area a = both (good_letters 4 a.indicator) (both (good_name false name_bytes a.name) (good_closing a.closing))

abbrev pub same_sequence : Sequence → Sequence → Bool
same_sequence s t = both (eqb s.letter t.letter) (both (eqb s.digits t.digits) (eqb s.number t.number))

-- "Sequence and both groups are not all those of the message itself": the second group is that of VALID in any case
unfoldable pub names_itself : FirstLine → Sequence → Group → Bool
names_itself l s from = both (same_sequence s l.sequence) (same_group from l.valid.from)

-- "a cancellation: `CNL SIGMET`, a sequence, `group/group`. …"
abbrev pub good_cancellation : FirstLine → Sequence → Group → Bool
good_cancellation l s from = both (good_sequence s) (both (good_group from) (not (names_itself l s from)))

-- "Then one of: a test …; a cancellation …; a report …": the form, in a bulletin of that kind with that first line
unfoldable pub good_form : ℕ → FirstLine → Report → Form → Bool
good_form kind l report NoForm = false
good_form kind l report (Test n) = both (between 1 3 n) (empty_report report)
good_form kind l report (Cancellation s from) = both (good_cancellation l s from) (empty_report report)
good_form kind l report Reported = good_report kind report

unfoldable pub good : Record → Bool
good r =
    both (good_heading r.heading)
    (both (good_line r.line) (both (good_area r.area) (good_form r.heading.designator.kind r.line r.report r.form)))

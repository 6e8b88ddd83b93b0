-- The words of a record, and 01, "Canonical text: one space between words, CR LF after the heading and after the first line, no space
-- before `=`, nothing after it."
-- Believed.
use Rattle.std.specs.Prelude.{List, [], ◌∷◌, ◌++◌, ℕ, ◌-◌, eqb, get_or}
use Rattle.lists.specs.Choice.{pick}
use Rattle.lists.specs.Text.{bytes}
use Rattle.words.specs.Words.{line}
use Rattle.figures.specs.Letters.{in_letters}
use Rattle.groups.specs.Groups.{spell_group, spell_period}
use Rattle.headings.specs.Headings.{spell_designator, spell_correction, spell_office}
use Rattle.headings.specs.Sequences.{spell_sequence}
use Rattle.figures.specs.Tables.{numbered}
use Rattle.names.specs.Names.{closing_words}
use Rattle.groups.specs.declared.Group.{Group}
use Rattle.groups.specs.declared.Time.{Time}
use Rattle.message.specs.Names.{name_words}
use Rattle.message.specs.Reports.{report_words}
use Rattle.message.specs.declared.Area.{Area}
use Rattle.message.specs.declared.FirstLine.{FirstLine}
use Rattle.message.specs.declared.Form.{Form}
use Rattle.message.specs.declared.Form.TheVariants.{NoForm, Test, Cancellation, Reported}
use Rattle.message.specs.declared.Heading.{Heading}
use Rattle.message.specs.declared.Record.{Record}

abbrev pub correction_words : ℕ → List (List ℕ)
correction_words c = pick (eqb c 0) [] (spell_correction c ∷ [])

unfoldable pub heading_words : Heading → List (List ℕ)
heading_words h = spell_designator h.designator ∷ in_letters 4 h.centre ∷ spell_group h.sent ∷ correction_words h.correction

unfoldable pub line_words : FirstLine → List (List ℕ)
line_words l =
    in_letters 4 l.unit
    ∷ bytes "SIGMET"
    ∷ spell_sequence l.sequence
    ∷ bytes "VALID"
    ∷ spell_period l.valid
    ∷ spell_office l.office
    ∷ []

unfoldable pub area_words : Area → List (List ℕ)
area_words a = in_letters 4 a.indicator ∷ (name_words a.name ++ (numbered 1 closing_words a.closing ∷ []))

-- "a test: `TEST`, or `TEST SIGMET PLEASE DISREGARD`, or `TEST. THIS IS A TEST SIGMET, PLEASE DISREGARD`"
unfoldable pub test_texts : List (List (List ℕ))
test_texts =
    (bytes "TEST" ∷ [])
    ∷ (bytes "TEST" ∷ bytes "SIGMET" ∷ bytes "PLEASE" ∷ bytes "DISREGARD" ∷ [])
    ∷ (bytes "TEST."
    ∷ bytes "THIS"
    ∷ bytes "IS"
    ∷ bytes "A"
    ∷ bytes "TEST"
    ∷ bytes "SIGMET,"
    ∷ bytes "PLEASE"
    ∷ bytes "DISREGARD"
    ∷ [])
    ∷ []

abbrev pub time_of_day : Group → Time
time_of_day g = record { hour = g.hour; minute = g.minute }

-- "a cancellation: `CNL SIGMET`, a sequence, `group/group`. The second group equals the second group of VALID."
unfoldable pub form_words : Record → Form → List (List ℕ)
form_words r NoForm = []
form_words r (Test n) = get_or test_texts (n - 1) []
form_words r (Cancellation s from) =
    bytes "CNL" ∷ bytes "SIGMET" ∷ spell_sequence s ∷ spell_period (record { from = from; to = r.line.valid.to }) ∷ []
form_words r Reported = report_words (time_of_day r.line.valid.to) r.area.closing r.report

unfoldable pub body_words : Record → List (List ℕ)
body_words r = area_words r.area ++ form_words r r.form

-- all words of a record before the `=`
unfoldable pub words_of : Record → List (List ℕ)
words_of r = heading_words r.heading ++ (line_words r.line ++ body_words r)

-- CR LF
abbrev pub new_line : List ℕ
new_line = bytes "\r\n"

-- the canonical text
unfoldable pub text_of : Record → List ℕ
text_of r =
    line (heading_words r.heading)
    ++ (new_line ++ (line (line_words r.line) ++ (new_line ++ (line (body_words r) ++ bytes "="))))

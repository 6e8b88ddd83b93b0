-- What a state has been told: the words read so far with the numbers of their parts, the last word first.
use mathlib.Core.List.{List, [], ◌∷◌, ◌++◌, map-append}
use mathlib.Core.Path.{◌≡◌, refl, ◌∙◌}
use Prim.Native.Nat.{ℕ}
use lib.Dec.{eqb}
use lib.ListN.{take}
use Rattle.lists.specs.Choice.{pick}
use Rattle.lists.specs.Text.{bytes}
use Rattle.figures.specs.Letters.{in_letters}
use Rattle.figures.specs.Tables.{numbered}
use Rattle.coordinates.specs.Coordinates.{north_south, spell_coordinate}
use Rattle.coordinates.specs.Points.{point_words}
use Rattle.coordinates.specs.declared.Point.{Point}
use Rattle.groups.specs.Groups.{spell_group, spell_period, spell_time}
use Rattle.groups.specs.declared.Group.{Group}
use Rattle.headings.specs.Headings.{spell_designator}
use Rattle.headings.specs.Sequences.{spell_sequence}
use Rattle.headings.specs.declared.Designator.{Designator}
use Rattle.levels.specs.Levels.{level_words}
use Rattle.motions.specs.Motions.{spell_compass, spell_intensity}
use Rattle.motions.specs.Speeds.{spell_speed}
use Rattle.names.specs.Names.{pieces}
use Rattle.message.specs.Locations.{empty_side, side_words, joined, extent_words}
use Rattle.message.specs.Reports.{no_report, mount_words, phenomenon_words, observation_words, ending_words}
use Rattle.message.specs.Words.{correction_words, heading_words, line_words, area_words, form_words}
use Rattle.message.specs.declared.Ending.{Ending}
use Rattle.message.specs.declared.Extent.{Extent}
use Rattle.message.specs.declared.FirstLine.{FirstLine}
use Rattle.message.specs.declared.Form.{Form}
use Rattle.message.specs.declared.Form.TheVariants.{Test, Cancellation, Reported}
use Rattle.message.specs.declared.Heading.{Heading}
use Rattle.message.specs.declared.Name.{Name}
use Rattle.message.specs.declared.Report.{Report}
use Rattle.message.specs.declared.Volcano.{Volcano}
use Rattle.message.specs.declared.Record.{Record}
use Rattle.message.specs.declared.Side.{Side}
use Rattle.headings.specs.declared.Sequence.{Sequence}
use Rattle.grammar.specs.Numbers.{location_part}
use Rattle.grammar.specs.Parts.{Marked, marked, in_part, form_parts, parts_of}
use Rattle.grammar.specs.Records.{formed, test_of, cancellation_of, area_of, report_of}
use Rattle.grammar.specs.States.{ToArea, ToPhenomenon, ToObservation, ToLocation, ToLevel, Site, Placing, State}
use Rattle.grammar.specs.States.Site.{in_report, in_forecast}
use Rattle.grammar.specs.States.Placing.{at_location, at_latitude_of, at_latitude_bound, at_and, at_second_bound, at_longitude_of, at_longitude_bound, at_entire, at_latitude, at_longitude, at_dash}
use Rattle.grammar.specs.States.State.{at_designator, at_centre, at_sent, at_correction, at_unit, at_sigmet, at_sequence, at_valid, at_period, at_office, at_indicator, at_name, at_more_name, at_form, at_test, at_test_text, at_cancel_sigmet, at_cancel_sequence, at_cancel_period, at_storm, at_severe, at_ice, at_heavy, at_radioactive, at_ash, at_eruption, at_mountain, at_more_mountain, at_position, at_position_longitude, at_volcano_ash, at_volcano_cloud, at_observation, at_observed, at_observed_time, at_place, at_level, at_top, at_above, at_top_above, at_ending, at_compass, at_speed, at_moving_intensity, at_stationary, at_forecast, at_forecast_at, at_forecast_time, at_end}
use Rattle.grammar.specs.Steps.{storm_words, test_text, closing_at, end_time}

-- a list turned around, in front of another
abbrev pub rev_onto : {A : Type 0} → List A → List A → List A
rev_onto [] back = back
rev_onto (x ∷ xs) back = rev_onto xs (x ∷ back)

pub rev-append : {A : Type 0} (xs ys back : List A) → rev_onto (xs ++ ys) back ≡ rev_onto ys (rev_onto xs back)
rev-append [] ys back = refl
rev-append (x ∷ xs) ys back = rev-append xs ys (x ∷ back)

pub rev-last : {A : Type 0} (xs : List A) (x : A) (back : List A) → rev_onto (xs ++ (x ∷ [])) back ≡ x ∷ rev_onto xs back
rev-last xs x back = rev-append xs (x ∷ []) back

-- words of one part, behind what was told before
abbrev pub onward : ℕ → List (List ℕ) → List Marked → List Marked
onward n ws back = rev_onto (in_part n ws) back

pub onward-append : (n : ℕ) (vs ws : List (List ℕ)) (back : List Marked) → onward n (vs ++ ws) back ≡ onward n ws (onward n vs back)
onward-append n vs ws back = rw (map-append (marked n) vs ws) (rev-append (in_part n vs) (in_part n ws) back)

pub onward-last : (n : ℕ) (vs : List (List ℕ)) (w : List ℕ) (back : List Marked) → onward n (vs ++ (w ∷ [])) back ≡ marked n w ∷ onward n vs back
onward-last n vs w back = onward-append n vs (w ∷ []) back

abbrev pub told_three : Designator → ℕ → Group → List Marked
told_three d c g = marked 4 (spell_group g) ∷ marked 4 (in_letters 4 c) ∷ marked 4 (spell_designator d) ∷ []

abbrev pub told_heading : Heading → List Marked
told_heading h = onward 5 (correction_words h.correction) (told_three h.designator h.centre h.sent)

abbrev pub told_line : Heading → FirstLine → List Marked
told_line h l = onward 5 (line_words l) (told_heading h)

abbrev pub told_area : ToArea → List Marked
told_area o = onward 6 (area_words o.area) (told_line o.heading o.line)

abbrev pub told_phenomenon : ToPhenomenon → List Marked
told_phenomenon p = onward 7 (phenomenon_words p.phenomenon p.volcano) (told_area p.before)

abbrev pub told_observation : ToObservation → List Marked
told_observation q = onward 8 (observation_words q.observation) (told_phenomenon q.before)

abbrev pub told_location : ToLocation → List Marked
told_location q = onward 9 (extent_words (closing_at (in_report q.before)) q.extent) (told_observation q.before)

abbrev pub told_level : ToLevel → List Marked
told_level l = onward 10 (level_words l.level) (told_location l.before)

-- up to a forecast's location
abbrev pub forecast_words : ToLevel → ℕ → List (List ℕ)
forecast_words l i = spell_intensity i ∷ bytes "FCST" ∷ bytes "AT" ∷ spell_time (end_time l) ∷ []

abbrev pub told_site : Site → List Marked
told_site (in_report o) = told_observation o
told_site (in_forecast l i) = onward 11 (forecast_words l i) (told_level l)

-- points each followed by `-`
abbrev pub trailed : List Point → List (List ℕ)
trailed [] = []
trailed (p ∷ ps) = point_words p ++ (bytes "-" ∷ trailed ps)

-- a latitude bound and its `AND`, where there is one
abbrev pub first_bound : Side → List (List ℕ)
first_bound latitude = pick (empty_side latitude) [] (side_words north_south latitude ++ (bytes "AND" ∷ []))

-- the words of a location so far
abbrev pub placing_words : Placing → List (List ℕ)
placing_words at_location = []
placing_words (at_latitude_of side) = (side ∷ []) ∷ []
placing_words (at_latitude_bound side) = (side ∷ []) ∷ bytes "OF" ∷ []
placing_words (at_and latitude) = side_words north_south latitude
placing_words (at_second_bound latitude) = side_words north_south latitude ++ (bytes "AND" ∷ [])
placing_words (at_longitude_of latitude side) = first_bound latitude ++ ((side ∷ []) ∷ [])
placing_words (at_longitude_bound latitude side) = first_bound latitude ++ ((side ∷ []) ∷ bytes "OF" ∷ [])
placing_words at_entire = bytes "ENTIRE" ∷ []
placing_words (at_latitude ps) = bytes "WI" ∷ trailed ps
placing_words (at_longitude ps latitude) = bytes "WI" ∷ (trailed ps ++ (spell_coordinate north_south latitude ∷ []))
placing_words (at_dash ps) = bytes "WI" ∷ joined ps

abbrev pub told_record : Record → List Marked
told_record r = rev_onto (parts_of r) []

abbrev pub told_unit : Heading → ℕ → List Marked
told_unit h u = marked 5 (in_letters 4 u) ∷ told_heading h

abbrev pub told_sequence : Heading → ℕ → Sequence → List Marked
told_sequence h u s = marked 5 (spell_sequence s) ∷ marked 5 (bytes "SIGMET") ∷ told_unit h u

-- up to the mountain's name, and up to the point
abbrev pub told_mountain : ToArea → Name → List Marked
told_mountain o n = onward 7 (bytes "VA" ∷ bytes "ERUPTION" ∷ mount_words n) (told_area o)

abbrev pub told_volcano : ToArea → Volcano → List Marked
told_volcano o v = onward 7 (bytes "PSN" ∷ point_words v.position) (told_mountain o v.name)

-- `OBS` or `FCST`
abbrev pub observed : ℕ → List ℕ
observed n = pick (eqb n 1) (bytes "OBS") (bytes "FCST")

unfoldable pub told : State → List Marked
told at_designator = []
told (at_centre d) = marked 4 (spell_designator d) ∷ []
told (at_sent d c) = marked 4 (in_letters 4 c) ∷ marked 4 (spell_designator d) ∷ []
told (at_correction d c g) = told_three d c g
told (at_unit h) = told_heading h
told (at_sigmet h u) = told_unit h u
told (at_sequence h u) = marked 5 (bytes "SIGMET") ∷ told_unit h u
told (at_valid h u s) = told_sequence h u s
told (at_period h u s) = marked 5 (bytes "VALID") ∷ told_sequence h u s
told (at_office h u s p) = marked 5 (spell_period p) ∷ marked 5 (bytes "VALID") ∷ told_sequence h u s
told (at_indicator h l) = told_line h l
told (at_name h l i) = marked 6 (in_letters 4 i) ∷ told_line h l
told (at_more_name h l i t) = onward 6 (pieces t) (marked 6 (in_letters 4 i) ∷ told_line h l)
told (at_form o) = told_area o
told (at_test o) = onward 7 (bytes "TEST" ∷ []) (told_area o)
told (at_test_text o n read) = onward 7 (take read (test_text n)) (told_area o)
told (at_cancel_sigmet o) = onward 7 (bytes "CNL" ∷ []) (told_area o)
told (at_cancel_sequence o) = onward 7 (bytes "CNL" ∷ bytes "SIGMET" ∷ []) (told_area o)
told (at_cancel_period o s) = onward 7 (bytes "CNL" ∷ bytes "SIGMET" ∷ spell_sequence s ∷ []) (told_area o)
told (at_storm o n) = onward 7 (numbered 1 storm_words n ∷ []) (told_area o)
told (at_severe o) = onward 7 (bytes "SEV" ∷ []) (told_area o)
told (at_ice o) = onward 7 (bytes "SEV" ∷ bytes "ICE" ∷ []) (told_area o)
told (at_heavy o) = onward 7 (bytes "HVY" ∷ []) (told_area o)
told (at_radioactive o) = onward 7 (bytes "RDOACT" ∷ []) (told_area o)
told (at_ash o) = onward 7 (bytes "VA" ∷ []) (told_area o)
told (at_eruption o) = onward 7 (bytes "VA" ∷ bytes "ERUPTION" ∷ []) (told_area o)
told (at_mountain o) = onward 7 (bytes "VA" ∷ bytes "ERUPTION" ∷ bytes "MT" ∷ []) (told_area o)
told (at_more_mountain o t) = onward 7 (bytes "VA" ∷ bytes "ERUPTION" ∷ bytes "MT" ∷ pieces t) (told_area o)
told (at_position o n) = marked 7 (bytes "PSN") ∷ told_mountain o n
told (at_position_longitude o n c) = marked 7 (spell_coordinate north_south c) ∷ marked 7 (bytes "PSN") ∷ told_mountain o n
told (at_volcano_ash o v) = told_volcano o v
told (at_volcano_cloud o v) = marked 7 (bytes "VA") ∷ told_volcano o v
told (at_observation p) = told_phenomenon p
told (at_observed p n) = marked 8 (observed n) ∷ told_phenomenon p
told (at_observed_time p n) = marked 8 (bytes "AT") ∷ marked 8 (observed n) ∷ told_phenomenon p
told (at_place site p) = onward (location_part site) (placing_words p) (told_site site)
told (at_level q) = told_location q
told (at_top q) = onward 10 (bytes "TOP" ∷ []) (told_location q)
told (at_above q) = onward 10 (bytes "ABV" ∷ []) (told_location q)
told (at_top_above q) = onward 10 (bytes "TOP" ∷ bytes "ABV" ∷ []) (told_location q)
told (at_ending l) = told_level l
told (at_compass l) = onward 11 (bytes "MOV" ∷ []) (told_level l)
told (at_speed l d) = onward 11 (bytes "MOV" ∷ spell_compass d ∷ []) (told_level l)
told (at_moving_intensity l d v) = onward 11 (bytes "MOV" ∷ spell_compass d ∷ spell_speed v ∷ []) (told_level l)
told (at_stationary l) = onward 11 (bytes "STNR" ∷ []) (told_level l)
told (at_forecast l i) = onward 11 (spell_intensity i ∷ []) (told_level l)
told (at_forecast_at l i) = onward 11 (spell_intensity i ∷ bytes "FCST" ∷ []) (told_level l)
told (at_forecast_time l i) = onward 11 (spell_intensity i ∷ bytes "FCST" ∷ bytes "AT" ∷ []) (told_level l)
told (at_end r) = told_record r

-- What is told of a whole record, by its form.

told-formed : (o : ToArea) (f : Form) (report : Report)
    → told_record (formed o f report) ≡ rev_onto (form_parts (formed o f report) f) (told_area o)
unfolding parts_of heading_words
told-formed o f report =
    let r : Record = formed o f report in
    let five : List Marked = in_part 5 (correction_words o.heading.correction) in
    rev-append five (in_part 5 (line_words o.line) ++ (in_part 6 (area_words o.area) ++ form_parts r f)) (told_three o.heading.designator o.heading.centre o.heading.sent)
    ∙ (rev-append (in_part 5 (line_words o.line)) (in_part 6 (area_words o.area) ++ form_parts r f) (told_heading o.heading)
    ∙ rev-append (in_part 6 (area_words o.area)) (form_parts r f) (told_line o.heading o.line))

pub told-test : (o : ToArea) (n : ℕ) → told_record (test_of o n) ≡ onward 7 (test_text n) (told_area o)
unfolding form_words
told-test o n = told-formed o (Test n) no_report

pub told-cancellation : (o : ToArea) (s : Sequence) (from : Group)
    → told_record (cancellation_of o s from)
    ≡ onward 7 (bytes "CNL" ∷ bytes "SIGMET" ∷ spell_sequence s ∷ spell_period (record { from = from; to = o.line.valid.to }) ∷ []) (told_area o)
unfolding form_words
told-cancellation o s from = told-formed o (Cancellation s from) no_report

pub told-report : (l : ToLevel) (e : Ending) (f : Extent)
    → told_record (report_of l e f) ≡ onward 11 (ending_words (end_time l) (area_of l).area.closing e f) (told_level l)
told-report l e f =
    let r : Record = report_of l e f in
    let q : ToLocation = l.before in
    let o : ToObservation = q.before in
    let p : ToPhenomenon = o.before in
    let seven : List Marked = in_part 7 (phenomenon_words p.phenomenon p.volcano) in
    let eight : List Marked = in_part 8 (observation_words o.observation) in
    let nine : List Marked = in_part 9 (extent_words (closing_at (in_report o)) q.extent) in
    let ten : List Marked = in_part 10 (level_words l.level) in
    let eleven : List Marked = in_part 11 (ending_words (end_time l) (area_of l).area.closing e f) in
    told-formed (area_of l) Reported r.report
    ∙ (rev-append seven (eight ++ (nine ++ (ten ++ eleven))) (told_area p.before)
    ∙ (rev-append eight (nine ++ (ten ++ eleven)) (told_phenomenon p)
    ∙ (rev-append nine (ten ++ eleven) (told_observation o) ∙ rev-append ten eleven (told_location q))))

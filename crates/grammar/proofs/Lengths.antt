-- Every good record's text has at most 2,048 bytes: by the size of its words, each counted with a space, part by part.
use mathlib.Core.Bool.{Bool, true, false}
use mathlib.Core.List.{List, [], ◌∷◌, ◌++◌}
use mathlib.Core.Path.{◌≡◌, refl}
use Prim.Native.Nat.{ℕ, zero, suc, ◌+◌, ◌-◌, ◌*◌, ◌^◌, ◌≤◌, ◌<◌, zero-le}
use native.Mathlib.Nat.{not-suc-le-zero}
use native.Mathlib.Omega.{arith}
use lib.Dec.{leb, ltb, eqb, lit≤}
use lib.ListN.{length, take, get_or, length-append, length-take}
use borrow.Author.Tests.{leb-true, le-ltb}
use Rattle.lists.specs.Choice.{pick, both}
use Rattle.lists.specs.Lists.{all_of}
use Rattle.lists.specs.Text.{bytes}
use Rattle.lists.proofs.Choice.{by, both_left, both_right, either-cases}
use Rattle.words.specs.Bytes.{between, letter}
use Rattle.words.specs.Words.{line}
use Rattle.words.proofs.Ranges.{between-high}
use Rattle.figures.specs.Figures.{in_figures}
use Rattle.figures.specs.Letters.{in_letters}
use Rattle.figures.specs.Tables.{numbered}
use Rattle.figures.proofs.FigureLaws.{length-in_figures}
use Rattle.figures.proofs.LetterLaws.{length-in_letters}
use Rattle.coordinates.specs.Coordinates.{Axis, north_south, east_west, spell_coordinate}
use Rattle.coordinates.specs.Points.{point_words}
use Rattle.coordinates.specs.declared.Coordinate.{Coordinate}
use Rattle.coordinates.specs.declared.Point.{Point}
use Rattle.groups.specs.Groups.{spell_time}
use Rattle.groups.specs.declared.Time.{Time}
use Rattle.groups.proofs.GroupLaws.{length-group, length-period, length-time}
use Rattle.headings.specs.Headings.{type_words, spell_designator}
use Rattle.headings.specs.Sequences.{characters, good_sequence, letter_of, spell_sequence}
use Rattle.headings.proofs.HeadingLaws.{length-office}
use Rattle.headings.specs.declared.Designator.{Designator}
use Rattle.headings.specs.declared.Sequence.{Sequence}
use Rattle.levels.specs.Levels.{feet_figures, spell_level_word, level_words}
use Rattle.levels.specs.declared.Level.{Level}
use Rattle.levels.specs.declared.Level.TheVariants.{NoLevel, Flight, SurfaceFlight, SurfaceMetres, SurfaceFeet, Band, TopFlight, AboveFlight, TopAboveFlight}
use Rattle.motions.specs.Motions.{compass_words, spell_compass, intensity_words, spell_intensity}
use Rattle.motions.specs.Speeds.{unit_words, spell_speed}
use Rattle.motions.specs.declared.Speed.{Speed}
use Rattle.names.specs.Names.{closing_words, onto, pieces}
use Rattle.names.proofs.NameLaws.{pieces-some}
use Rattle.message.specs.Limits.{most_points, name_bytes, mountain_limit, cta, eruption}
use Rattle.message.specs.Locations.{empty_side, located_by, good_extent, side_words, bound_words, dashed, joined, location_words, extent_words}
use Rattle.message.specs.Names.{good_name, empty_name, name_words}
use Rattle.message.specs.Records.{good_area, good_form, good}
use Rattle.message.specs.Reports.{phenomena, good_volcano, empty_volcano, good_phenomenon, mount_words, volcano_words, phenomenon_words, observation_words, good_ending, ending_words, good_report, report_words}
use Rattle.message.specs.Words.{heading_words, line_words, area_words, test_texts, time_of_day, form_words, body_words, text_of}
use Rattle.message.specs.declared.Area.{Area}
use Rattle.message.specs.declared.Bound.{Bound}
use Rattle.message.specs.declared.Ending.{Ending}
use Rattle.message.specs.declared.Ending.TheVariants.{NoEnding, Moving, Stationary, Forecast}
use Rattle.message.specs.declared.Extent.{Extent}
use Rattle.message.specs.declared.FirstLine.{FirstLine}
use Rattle.message.specs.declared.Form.{Form}
use Rattle.message.specs.declared.Form.TheVariants.{NoForm, Test, Cancellation, Reported}
use Rattle.message.specs.declared.Heading.{Heading}
use Rattle.message.specs.declared.Location.{Location}
use Rattle.message.specs.declared.Location.TheVariants.{Nowhere, Bounded, Outline, Entire}
use Rattle.message.specs.declared.Name.{Name}
use Rattle.message.specs.declared.Observation.{Observation}
use Rattle.message.specs.declared.Record.{Record}
use Rattle.message.specs.declared.Report.{Report}
use Rattle.message.specs.declared.Side.{Side}
use Rattle.message.specs.declared.Volcano.{Volcano}
use Rattle.message.proofs.Empties.{empty-name-is, empty-volcano-is}
use Rattle.message.proofs.Goodness.{good-parts, line-parts, area-parts, name-parts, cancellation-parts, report-parts, phenomenon-cases, volcano-parts, forecast-parts, outline-parts}
use Rattle.grammar.specs.Writes.{write_of}

-- Words, each with a space after it.

abbrev size : List (List ℕ) → ℕ
size [] = 0
size (w ∷ ws) = suc (length w + size ws)

line-size : (ws : List (List ℕ)) → length (line ws) ≤ size ws
unfolding line
line-size [] = zero-le
line-size (w ∷ []) = omega arith
line-size (w ∷ v ∷ ws) = rw (length-append w (32 ∷ line (v ∷ ws))) (omega (arith, line-size (v ∷ ws)))

size-append : (vs ws : List (List ℕ)) → size (vs ++ ws) ≡ size vs + size ws
size-append [] ws = omega arith
size-append (v ∷ vs) ws = omega (arith, size-append vs ws)

size-pick : (t : Bool) (vs ws : List (List ℕ)) (k : ℕ) → size vs ≤ k → size ws ≤ k → size (pick t vs ws) ≤ k
size-pick true vs ws k h l = h
size-pick false vs ws k h l = l

-- The longest of a table: what is not in it counts as empty.

at_most : {A : Type 0} (f : A → ℕ) (k : ℕ) (xs : List A) (d : A) → f d ≤ k → all_of (λ (x : A). leb (f x) k) xs ≡ true → (i : ℕ) → f (get_or xs i d) ≤ k
unfolding all_of
at_most f k [] d h t i = h
at_most f k (x ∷ xs) d h t zero = leb-true (f x) k (both_left (leb (f x) k) (all_of (λ (y : _). leb (f y) k) xs) t)
at_most f k (x ∷ xs) d h t (suc i) = at_most f k xs d h (both_right (leb (f x) k) (all_of (λ (y : _). leb (f y) k) xs) t) i

word-most : (k : ℕ) (table : List (List ℕ)) (i : ℕ) → all_of (λ (w : List ℕ). leb (length w) k) table ≡ true → length (get_or table i []) ≤ k
word-most k table i t = at_most length k table [] zero-le t i

numbered-most : (k first : ℕ) (table : List (List ℕ)) (n : ℕ) → all_of (λ (w : List ℕ). leb (length w) k) table ≡ true
    → length (numbered first table n) ≤ k
numbered-most k first table n t = go (ltb n first)
  where
    go : (b : Bool) → length (pick b [] (get_or table (n - first) [])) ≤ k
    go true = zero-le
    go false = word-most k table (n - first) t

-- The heading.

designator-most : (d : Designator) → length (spell_designator d) ≤ 6
unfolding spell_designator type_words all_of
designator-most d =
    rw (length-append (numbered 2 type_words d.kind), length-append (in_letters 2 d.region), length-in_letters 2 d.region, length-in_figures 2 d.number)
    (omega (arith, numbered-most 2 2 type_words d.kind refl))

heading-size : (h : Heading) → size (heading_words h) ≤ 23
unfolding heading_words
heading-size h =
    rw (length-in_letters 4 h.centre, length-group h.sent)
    (omega (arith, designator-most h.designator, size-pick (eqb h.correction 0) [] ((67 ∷ 67 ∷ h.correction ∷ []) ∷ []) 4 zero-le (lit≤ tt)))

-- The first line.

letter-most : (l : ℕ) → length (letter_of l) ≤ 1
letter-most l = go (eqb l 0)
  where
    go : (b : Bool) → length (pick b [] (l ∷ [])) ≤ 1
    go true = zero-le
    go false = lit≤ tt

sequence-digits : (s : Sequence) → good_sequence s ≡ true → s.digits ≤ 3
unfolding good_sequence
sequence-digits s g =
    either-cases (both (eqb s.letter 0) (between 1 3 s.digits)) (both (letter s.letter) (between 1 2 s.digits))
    (both_left (characters s) (both (ltb 0 s.number) (ltb s.number (10 ^ s.digits))) g)
    (λ e. between-high 1 3 s.digits (both_right (eqb s.letter 0) (between 1 3 s.digits) e))
    (λ e. omega (arith, between-high 1 2 s.digits (both_right (letter s.letter) (between 1 2 s.digits) e)))

sequence-most : (s : Sequence) → good_sequence s ≡ true → length (spell_sequence s) ≤ 4
unfolding spell_sequence
sequence-most s g =
    rw (length-append (letter_of s.letter), length-in_figures s.digits s.number)
    (omega (arith, letter-most s.letter, sequence-digits s g))

first-size : (l : FirstLine) → good_sequence l.sequence ≡ true → size (line_words l) ≤ 43
unfolding line_words
first-size l g =
    rw (length-in_letters 4 l.unit, length-period l.valid, length-office l.office)
    (omega (arith, sequence-most l.sequence g))

-- The area.

onto-size : (x : ℕ) (ws : List (List ℕ)) → 0 < length ws → size (onto x ws) ≡ suc (size ws)
onto-size x [] h = absurd (not-suc-le-zero h)
onto-size x (w ∷ ws) h = omega arith

pieces-size : (t : List ℕ) → size (pieces t) ≡ suc (length t)
unfolding pieces
pieces-size [] = refl
pieces-size (x ∷ xs) = by (eqb x 32)
    (λ e. rw e (omega (arith, pieces-size xs)))
    (λ e. rw e (omega (arith, onto-size x (pieces xs) (pieces-some xs), pieces-size xs)))

name-size : (n : Name) → size (name_words n) ≤ suc n.count
name-size n = omega (arith, pieces-size (take n.count n.bytes), length-take n.count n.bytes)

closing-most : (n : ℕ) → length (numbered 1 closing_words n) ≤ 7
unfolding closing_words all_of
closing-most n = numbered-most 7 1 closing_words n refl

area-size : (a : Area) → good_area a ≡ true → size (area_words a) ≤ 64
unfolding area_words
area-size a g =
    rw (length-in_letters 4 a.indicator, size-append (name_words a.name) (numbered 1 closing_words a.closing ∷ []))
    (omega (arith, name-size a.name, (name-parts false name_bytes a.name (area-parts a g).name).fits, closing-most a.closing))

-- A point, and a location.

coordinate-most : (a : Axis) (c : Coordinate) → length (spell_coordinate a c) ≤ a.width + 3
unfolding spell_coordinate
coordinate-most a c =
    rw (length-append (in_figures a.width c.degrees), length-in_figures a.width c.degrees)
    (omega (arith, go (eqb c.digits a.width)))
  where
    go : (b : Bool) → length (pick b [] (in_figures 2 c.minutes)) ≤ 2
    go true = zero-le
    go false = omega (arith, length-in_figures 2 c.minutes)

point-size : (p : Point) → size (point_words p) ≤ 13
point-size p = omega (arith, coordinate-most north_south p.latitude, coordinate-most east_west p.longitude)

side-size : (a : Axis) (s : Side) → size (side_words a s) ≤ a.width + 9
side-size a s = omega (arith, coordinate-most a s.at)

bound-size : (b : Bound) → size (bound_words b) ≤ 27
unfolding bound_words
bound-size b =
    let one : List (List ℕ) = side_words east_west b.longitude in
    let two : List (List ℕ) = side_words north_south b.latitude in
    let rest : List (List ℕ) = pick (empty_side b.longitude) [] (bytes "AND" ∷ one) in
    let east : size one ≤ 12 = side-size east_west b.longitude in
    let north : size two ≤ 11 = side-size north_south b.latitude in
    let more : size rest ≤ 16 = size-pick (empty_side b.longitude) [] (bytes "AND" ∷ one) 16 zero-le (omega arith) in
    size-pick (empty_side b.latitude) one (two ++ rest) 27 (omega arith) (rw (size-append two rest) (omega arith))

dashed-size : (ps : List Point) → size (dashed ps) ≤ length ps * 15
unfolding dashed
dashed-size [] = zero-le
dashed-size (p ∷ ps) = omega (arith, size-append (point_words p) (dashed ps), point-size p, dashed-size ps)

joined-size : (ps : List Point) → size (joined ps) ≤ length ps * 15
unfolding joined
joined-size [] = zero-le
joined-size (p ∷ ps) = omega (arith, size-append (point_words p) (dashed ps), point-size p, dashed-size ps)

-- what a location takes at most: `WI` and its points, each with its spaces and its `-`
abbrev pub location_most : ℕ
location_most = 3 + most_points * 15

located-size : (closing : ℕ) (l : Location) (ps : List Point) → located_by l ps ≡ true → size (location_words closing l ps) ≤ location_most
located-size closing Nowhere ps g = zero-le
located-size closing (Bounded b) ps g = omega (arith, bound-size b)
located-size closing (Outline n) ps g = omega (arith, joined-size (take n ps), length-take n ps, (outline-parts n ps g).most)
located-size closing Entire ps g = go (eqb closing cta)
  where
    go : (b : Bool) → size (bytes "ENTIRE" ∷ pick b (bytes "CTA") (bytes "FIR") ∷ []) ≤ location_most
    go true = lit≤ tt
    go false = lit≤ tt

extent-size : (closing : ℕ) (e : Extent) → good_extent e ≡ true → size (extent_words closing e) ≤ location_most
unfolding extent_words good_extent
extent-size closing e g = located-size closing e.location e.points g

-- The parts of a report.

empty-volcano : (v : Volcano) → empty_volcano v ≡ true → v.name.count ≤ mountain_limit
empty-volcano v e = rw (empty-volcano-is v e) zero-le

good-volcano : (v : Volcano) → good_volcano v ≡ true → v.name.count ≤ mountain_limit
good-volcano v g =
    either-cases (empty_name v.name) (good_name true mountain_limit v.name) (volcano-parts v g).name
    (λ e. rw (empty-name-is v.name e) zero-le)
    (λ e. (name-parts true mountain_limit v.name e).fits)

volcano-count : (kind n : ℕ) (v : Volcano) → good_phenomenon kind n v ≡ true → v.name.count ≤ mountain_limit
volcano-count kind n v g = phenomenon-cases kind n v g (λ k b e. empty-volcano v e) (λ k c e. empty-volcano v e) (λ k c e. good-volcano v e)

phenomena-size : (i : ℕ) → size (get_or phenomena i []) ≤ 15
unfolding phenomena all_of
phenomena-size i = at_most size 15 phenomena [] zero-le refl i

volcano-size : (v : Volcano) → v.name.count ≤ mountain_limit → size (volcano_words v) ≤ 58
volcano-size v h =
    let more : List (List ℕ) = point_words v.position ++ (bytes "VA" ∷ bytes "CLD" ∷ []) in
    let mount : size (mount_words v.name) ≤ 34 =
    size-pick (empty_name v.name) [] (bytes "MT" ∷ name_words v.name) 34 zero-le (omega (arith, name-size v.name)) in
    rw (size-append (mount_words v.name) (bytes "PSN" ∷ more), size-append (point_words v.position) (bytes "VA" ∷ bytes "CLD" ∷ []))
    (omega (arith, point-size v.position))

phenomenon-size : (kind n : ℕ) (v : Volcano) → good_phenomenon kind n v ≡ true → size (phenomenon_words n v) ≤ 73
unfolding phenomenon_words
phenomenon-size kind n v g =
    rw (size-append (get_or phenomena (n - 1) []) (pick (eqb n eruption) (volcano_words v) []))
    (omega (
      arith,
      phenomena-size (n - 1),
      size-pick (eqb n eruption) (volcano_words v) [] 58 (volcano-size v (volcano-count kind n v g)) zero-le,
    ))

observation-size : (o : Observation) → size (observation_words o) ≤ 14
unfolding observation_words
observation-size o =
    omega (
      arith,
      go (eqb o.word 1),
      size-pick o.timed (bytes "AT" ∷ spell_time o.time ∷ []) [] 9 (omega (arith, length-time o.time)) zero-le,
    )
  where
    go : (b : Bool) → length (pick b (bytes "OBS") (bytes "FCST")) ≤ 4
    go true = lit≤ tt
    go false = lit≤ tt

feet-most : (n : ℕ) → feet_figures n ≤ 5
feet-most n = go (ltb n 10000)
  where
    go : (b : Bool) → pick b 4 5 ≤ 5
    go true = lit≤ tt
    go false = lit≤ tt

flight-length : (n : ℕ) → length (spell_level_word (Flight n)) ≡ 5
unfolding spell_level_word
flight-length n = rw (length-in_figures 3 n)

level-size : (l : Level) → size (level_words l) ≤ 20
unfolding level_words spell_level_word
level-size NoLevel = zero-le
level-size (Flight n) = omega (arith, flight-length n)
level-size (SurfaceFlight n) = omega (arith, length-in_figures 3 n)
level-size (SurfaceMetres n) = omega (arith, length-append (in_figures 4 n) (bytes "M"), length-in_figures 4 n)
level-size (SurfaceFeet n) = omega (arith, length-append (in_figures (feet_figures n) n) (bytes "FT"), length-in_figures (feet_figures n) n, feet-most n)
level-size (Band low high) = omega (arith, length-append (in_figures 3 low) (47 ∷ in_figures 3 high), length-in_figures 3 low, length-in_figures 3 high)
level-size (TopFlight n) = omega (arith, flight-length n)
level-size (AboveFlight n) = omega (arith, flight-length n)
level-size (TopAboveFlight n) = omega (arith, flight-length n)

compass-most : (n : ℕ) → length (spell_compass n) ≤ 3
unfolding compass_words all_of
compass-most n = word-most 3 compass_words n refl

intensity-most : (n : ℕ) → length (spell_intensity n) ≤ 5
unfolding intensity_words all_of
intensity-most n = numbered-most 5 1 intensity_words n refl

speed-most : (s : Speed) → length (spell_speed s) ≤ 5
unfolding spell_speed unit_words all_of
speed-most s =
    rw (length-append (in_figures 2 s.value), length-in_figures 2 s.value)
    (omega (arith, numbered-most 3 1 unit_words s.unit refl))

ending-size : (kind : ℕ) (end : Time) (closing : ℕ) (e : Ending) (f : Extent) → good_ending kind e f ≡ true → size (ending_words end closing e f) ≤ 20 + location_most
unfolding ending_words
ending-size kind end closing NoEnding f g = zero-le
ending-size kind end closing (Moving d s i) f g = omega (arith, compass-most d, speed-most s, intensity-most i)
ending-size kind end closing (Stationary i) f g = omega (arith, intensity-most i)
ending-size kind end closing (Forecast i) f g =
    omega (arith, intensity-most i, length-time end, extent-size closing f (forecast-parts kind i f g).forecast)

report-size : (kind : ℕ) (end : Time) (closing : ℕ) (r : Report) → good_report kind r ≡ true → size (report_words end closing r) ≤ 127 + 2 * location_most
unfolding report_words
report-size kind end closing r g =
    let parts = report-parts kind r g in
    let p : List (List ℕ) = phenomenon_words r.phenomenon r.volcano in
    let o : List (List ℕ) = observation_words r.observation in
    let e : List (List ℕ) = extent_words closing r.extent in
    let l : List (List ℕ) = level_words r.level in
    let f : List (List ℕ) = ending_words end closing r.ending r.forecast in
    rw (size-append p (o ++ (e ++ (l ++ f))), size-append o (e ++ (l ++ f)), size-append e (l ++ f), size-append l f)
    (omega (
      arith,
      phenomenon-size kind r.phenomenon r.volcano parts.phenomenon,
      observation-size r.observation,
      extent-size closing r.extent parts.extent,
      level-size r.level,
      ending-size kind end closing r.ending r.forecast parts.ending,
    ))

-- The whole.

tests-size : (i : ℕ) → size (get_or test_texts i []) ≤ 46
unfolding test_texts all_of
tests-size i = at_most size 46 test_texts [] zero-le refl i

form-size : (kind : ℕ) (r : Record) (f : Form) → good_form kind r.line r.report f ≡ true → size (form_words r f) ≤ 127 + 2 * location_most
unfolding form_words good_form
form-size kind r NoForm g = zero-le
form-size kind r (Test n) g = omega (arith, tests-size (n - 1))
form-size kind r (Cancellation s from) g =
    omega (
      arith,
      sequence-most s (cancellation-parts r.line s from (both_left _ _ g)).sequence,
      length-period (record { from = from; to = r.line.valid.to }),
    )
form-size kind r Reported g = report-size kind (time_of_day r.line.valid.to) r.area.closing r.report g

text-length : (r : Record) → length (text_of r) ≤ size (heading_words r.heading) + size (line_words r.line) + size (body_words r) + 5
unfolding text_of
text-length r =
    let h : List ℕ = line (heading_words r.heading) in
    let l : List ℕ = line (line_words r.line) in
    let b : List ℕ = line (body_words r) in
    rw (length-append h, length-append l, length-append b)
    (omega (arith, line-size (heading_words r.heading), line-size (line_words r.line), line-size (body_words r)))

-- the longest words of every section, each with its space, and two locations
pub text-short : (r : Record) → good r ≡ true → length (text_of r) ≤ 262 + 2 * location_most
unfolding body_words
text-short r g =
    let parts = good-parts r g in
    omega (
      arith,
      text-length r,
      heading-size r.heading,
      first-size r.line (line-parts r.line parts.line).sequence,
      size-append (area_words r.area) (form_words r r.form),
      area-size r.area parts.area,
      form-size r.heading.designator.kind r r.form parts.form,
    )

-- "24 text over 2,048 bytes" is never given with the limits of today
pub text-fits : (r : Record) → good r ≡ true → length (text_of r) ≤ 2048
text-fits r g = omega (arith, text-short r g)

pub never-24 : (r : Record) (buffer : List ℕ) → (write_of r buffer).number ≡ 24 → ⊥
unfolding write_of
never-24 r buffer e =
    by (good r)
    (λ g. by (ltb (length buffer) (length (text_of r)))
    (λ t. let z : ◌≡◌ {A = ℕ} 14 24 = rw (g, le-ltb 2048 (length (text_of r)) (text-fits r g), t) at e in omega arith)
    (λ f. let z : ◌≡◌ {A = ℕ} 0 24 = rw (g, le-ltb 2048 (length (text_of r)) (text-fits r g), f) at e in omega arith))
    (λ f. let z : ◌≡◌ {A = ℕ} 13 24 = rw f at e in omega arith)

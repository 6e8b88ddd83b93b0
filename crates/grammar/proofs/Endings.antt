-- The level and the ending, state by state: what is told is what was read, some words lead on, and the words of a good level and ending
-- lead through.
use mathlib.Core.Bool.{Bool, true, false, not}
use mathlib.Core.List.{List, [], ◌∷◌, ◌++◌}
use mathlib.Core.Logic.{inl, inr}
use mathlib.Core.Path.{◌≡◌, refl, ◌∙◌}
use Prim.Native.Nat.{ℕ}
use lib.Dec.{eqb, lit<}
use borrow.Author.Tests.{eqb-true, eq-eqb, not-true}
use Rattle.lists.specs.Base.{worth_after}
use Rattle.lists.specs.Choice.{both}
use Rattle.lists.specs.Lists.{index_of, all_of, same}
use Rattle.lists.specs.Text.{bytes}
use Rattle.lists.proofs.Choice.{clash, both_left, both_right, both_true}
use Rattle.lists.proofs.Lists.{same-is}
use Rattle.words.specs.Bytes.{between, allowed}
use Rattle.words.specs.Words.{equals_sign, plain_word}
use Rattle.figures.specs.Figures.{figures_of}
use Rattle.figures.specs.Reads.{Reads}
use Rattle.figures.proofs.ReadsLaws.{Back, reads-spelled}
use Rattle.figures.proofs.TableLaws.{numbered-all}
use Rattle.groups.specs.Groups.{good_group, time_of, good_time, spell_time}
use Rattle.groups.specs.declared.Period.{Period}
use Rattle.groups.specs.declared.Time.{Time}
use Rattle.groups.proofs.GroupLaws.{time-reads, time-plain}
use Rattle.levels.specs.Levels.{flight, level_of, good_level_word, spell_level_word, good_level, level_words}
use Rattle.levels.specs.declared.Level.{Level}
use Rattle.levels.specs.declared.Level.TheVariants.{NoLevel, Flight, SurfaceFlight, SurfaceMetres, SurfaceFeet, Band, TopFlight, AboveFlight, TopAboveFlight}
use Rattle.levels.proofs.LevelLaws.{level-reads, good-level-word, level-plain}
use Rattle.motions.specs.Motions.{compass_words, compass_of, good_compass, spell_compass, intensity_words, intensity_of, good_intensity, spell_intensity}
use Rattle.motions.specs.Speeds.{unit_words, speed_of, good_speed, spell_speed}
use Rattle.motions.specs.declared.Speed.{Speed}
use Rattle.motions.proofs.MotionLaws.{compass-reads, compass-plain, intensity-reads, intensity-plain, speed-reads, speed-plain}
use Rattle.message.specs.Limits.{ws}
use Rattle.message.specs.Locations.{good_extent, no_extent, extent_words}
use Rattle.message.specs.Records.{good_form, good}
use Rattle.message.specs.Reports.{good_ending, good_report, ending_words}
use Rattle.message.specs.declared.Ending.{Ending}
use Rattle.message.specs.declared.Ending.TheVariants.{NoEnding, Moving, Stationary, Forecast}
use Rattle.message.specs.declared.Extent.{Extent}
use Rattle.message.specs.declared.Form.TheVariants.{Reported}
use Rattle.message.specs.declared.Record.{Record}
use Rattle.message.proofs.Empties.{empty-extent-is, no-extent-empty}
use Rattle.message.proofs.Goodness.{line-parts, period-parts, moving-parts, stationary-parts, forecast-parts}
use Rattle.grammar.specs.Placing.{is}
use Rattle.grammar.specs.Records.{area_of, report_of}
use Rattle.grammar.specs.Runs.{walk}
use Rattle.grammar.specs.States.{ToLocation, ToLevel, Site}
use Rattle.grammar.specs.States.Move.{goes, done}
use Rattle.grammar.specs.States.Placing.{at_location}
use Rattle.grammar.specs.States.Site.{in_forecast}
use Rattle.grammar.specs.States.State.{at_place, at_level, at_top, at_above, at_top_above, at_ending, at_compass, at_speed, at_moving_intensity, at_stationary, at_forecast, at_forecast_at, at_forecast_time, at_end}
use Rattle.grammar.specs.Steps.{forecasts, kind_of, flight_of, levelled, step_level, step_ending, same_time, end_time, closing_at, after, step}
use Rattle.grammar.proofs.Invariant.{OpeningOk, PhenomenonOk, LevelOk, ForecastOk, SiteOk, Ok}
use Rattle.grammar.proofs.Moves.{Fine, chosen, goes-if, Next, next-by, next-end, walk_step}
use Rattle.grammar.proofs.Moves.Fine.{leads}
use Rattle.grammar.proofs.Opening.{good-formed, reads_on}
use Rattle.grammar.proofs.Told.{onward, told_site, told_record, told, told-report}

-- The number of a `FLnnn`.

module _ (w : List ℕ) where
  flight-back : (l : Level) → Back spell_level_word good_level_word NoLevel w l → Back (λ (n : ℕ). spell_level_word (Flight n)) flight 0 w (flight_of l)
  unfolding good_level_word
  flight-back NoLevel b = inl refl
  flight-back (Flight n) (inl e) = inl (cc)
  flight-back (Flight n) (inr p) = inr p
  flight-back (SurfaceFlight n) b = inl refl
  flight-back (SurfaceMetres n) b = inl refl
  flight-back (SurfaceFeet n) b = inl refl
  flight-back (Band low high) b = inl refl
  flight-back (TopFlight n) b = inl refl
  flight-back (AboveFlight n) b = inl refl
  flight-back (TopAboveFlight n) b = inl refl

pub flight-reads : Reads (λ (w : List ℕ). flight_of (level_of w)) (λ (n : ℕ). spell_level_word (Flight n)) flight 0
unfolding good_level_word
flight-reads = record {
  forth = λ n g. rw (level-reads.forth (Flight n) g);
  back = λ w. flight-back w (level_of w) (level-reads.back w);
  refuses = refl;
}

-- a level that is one word
one_word : (l : Level) → good_level_word l ≡ true → level_words l ≡ spell_level_word l ∷ []
unfolding good_level_word level_words
one_word NoLevel g = clash false g refl
one_word (Flight n) g = refl
one_word (SurfaceFlight n) g = refl
one_word (SurfaceMetres n) g = refl
one_word (SurfaceFeet n) g = refl
one_word (Band low high) g = refl
one_word (TopFlight n) g = clash false g refl
one_word (AboveFlight n) g = clash false g refl
one_word (TopAboveFlight n) g = clash false g refl

-- Sound, the level.

pub level-sound : (q : ToLocation) (w : List ℕ) → Ok (at_level q) → Fine (at_level q) w (step (at_level q) w)
unfolding step step_level told
level-sound q w ok =
    chosen (is "TOP" w) (λ e. leads (record { ok = ok; tells = rw (same-is w (bytes "TOP") e) }))
    (λ _. chosen (is "ABV" w) (λ e. leads (record { ok = ok; tells = rw (same-is w (bytes "ABV") e) }))
    (λ _. goes-if (good_level_word (level_of w)) (λ g. record {
      ok = record { before = ok; level = good-level-word (level_of w) g };
      tells = rw (one_word (level_of w) g, reads-spelled level-reads w g);
    })))

-- `FLnnn` after `TOP`, `ABV` or both
pub top_sound : (q : ToLocation) (w : List ℕ) → Ok (at_top q) → Fine (at_top q) w (step (at_top q) w)
unfolding step told level_words good_level
top_sound q w ok =
    chosen (is "ABV" w) (λ e. leads (record { ok = ok; tells = rw (same-is w (bytes "ABV") e) }))
    (λ _. goes-if (flight (flight_of (level_of w))) (λ g. record { ok = record { before = ok; level = g }; tells = rw (reads-spelled flight-reads w g) }))

pub above-sound : (q : ToLocation) (w : List ℕ) → Ok (at_above q) → Fine (at_above q) w (step (at_above q) w)
unfolding step told level_words good_level
above-sound q w ok =
    goes-if (flight (flight_of (level_of w))) (λ g. record { ok = record { before = ok; level = g }; tells = rw (reads-spelled flight-reads w g) })

pub top-above-sound : (q : ToLocation) (w : List ℕ) → Ok (at_top_above q) → Fine (at_top_above q) w (step (at_top_above q) w)
unfolding step told level_words good_level
top-above-sound q w ok =
    goes-if (flight (flight_of (level_of w))) (λ g. record { ok = record { before = ok; level = g }; tells = rw (reads-spelled flight-reads w g) })

-- A report whose ending is good is good.

pub good-report : (l : ToLevel) (e : Ending) (f : Extent) → LevelOk l → good_ending (kind_of (area_of l)) e f ≡ true → good (report_of l e f) ≡ true
unfolding good_form good_report
good-report l e f ok g =
    let phenomenon : PhenomenonOk l.before.before.before = ok.before.before.before in
    good-formed (area_of l) Reported (report_of l e f).report phenomenon.before
    (both_true phenomenon.phenomenon (both_true ok.before.before.observation (both_true ok.before.extent (both_true ok.level g))))

pub forecast-end : (l : ToLevel) (i : ℕ) (f : Extent) → ForecastOk l i → good_extent f ≡ true
    → (good (report_of l (Forecast i) f) ≡ true)
    × (told_record (report_of l (Forecast i) f) ≡ onward 11 (extent_words (area_of l).area.closing f) (told_site (in_forecast l i)))
unfolding good_ending ending_words
forecast-end l i f ok g =
    (good-report l (Forecast i) f ok.level (both_true (both_true ok.kind ok.intensity) g), told-report l (Forecast i) f)

-- Sound, the ending.

pub ending-sound : (l : ToLevel) (w : List ℕ) → Ok (at_ending l) → Fine (at_ending l) w (step (at_ending l) w)
unfolding step step_ending told
ending-sound l w ok =
    let kind : Bool = eqb (kind_of (area_of l)) ws in
    chosen (is "MOV" w) (λ e. leads (record { ok = ok; tells = rw (same-is w (bytes "MOV") e) }))
    (λ _. chosen (is "STNR" w) (λ e. leads (record { ok = ok; tells = rw (same-is w (bytes "STNR") e) }))
    (λ _. goes-if (forecasts l w) (λ g. record {
      ok = record { level = ok; kind = both_left kind (good_intensity (intensity_of w)) g; intensity = both_right kind (good_intensity (intensity_of w)) g };
      tells = rw (reads-spelled intensity-reads w (both_right kind (good_intensity (intensity_of w)) g));
    })))

pub compass-sound : (l : ToLevel) (w : List ℕ) → Ok (at_compass l) → Fine (at_compass l) w (step (at_compass l) w)
unfolding step told
compass-sound l w ok = goes-if (good_compass (compass_of w)) (λ g. record { ok = (ok, g); tells = rw (reads-spelled compass-reads w g) })

pub speed-sound : (l : ToLevel) (d : ℕ) (w : List ℕ) → Ok (at_speed l d) → Fine (at_speed l d) w (step (at_speed l d) w)
unfolding step told
speed-sound l d w ok = goes-if (good_speed (speed_of w)) (λ g. record { ok = (ok.0, ok.1, g); tells = rw (reads-spelled speed-reads w g) })

pub moving-intensity-sound : (l : ToLevel) (d : ℕ) (v : Speed) (w : List ℕ) → Ok (at_moving_intensity l d v) → Fine (at_moving_intensity l d v) w (step (at_moving_intensity l d v) w)
unfolding step told good_ending ending_words
moving-intensity-sound l d v w ok =
    goes-if (good_intensity (intensity_of w)) (λ g. record {
      ok = good-report l (Moving d v (intensity_of w)) no_extent ok.0 (both_true (both_true ok.1 (both_true ok.2 g)) no-extent-empty);
      tells = rw (told-report l (Moving d v (intensity_of w)) no_extent, reads-spelled intensity-reads w g);
    })

pub stationary-sound : (l : ToLevel) (w : List ℕ) → Ok (at_stationary l) → Fine (at_stationary l) w (step (at_stationary l) w)
unfolding step told good_ending ending_words
stationary-sound l w ok =
    goes-if (good_intensity (intensity_of w)) (λ g. record {
      ok = good-report l (Stationary (intensity_of w)) no_extent ok (both_true g no-extent-empty);
      tells = rw (told-report l (Stationary (intensity_of w)) no_extent, reads-spelled intensity-reads w g);
    })

pub forecast-sound : (l : ToLevel) (i : ℕ) (w : List ℕ) → Ok (at_forecast l i) → Fine (at_forecast l i) w (step (at_forecast l i) w)
unfolding step told
forecast-sound l i w ok = goes-if (is "FCST" w) (λ g. record { ok = ok; tells = rw (same-is w (bytes "FCST") g) })

pub forecast-at-sound : (l : ToLevel) (i : ℕ) (w : List ℕ) → Ok (at_forecast_at l i) → Fine (at_forecast_at l i) w (step (at_forecast_at l i) w)
unfolding step told
forecast-at-sound l i w ok = goes-if (is "AT" w) (λ g. record { ok = ok; tells = rw (same-is w (bytes "AT") g) })

-- the same hour and minute are the same time
same-time-is : (t u : Time) → same_time t u ≡ true → t ≡ u
same-time-is t u e = λ i. record {
  hour = eqb-true t.hour u.hour (both_left (eqb t.hour u.hour) (eqb t.minute u.minute) e) i;
  minute = eqb-true t.minute u.minute (both_right (eqb t.hour u.hour) (eqb t.minute u.minute) e) i;
}

same-time-refl : (t : Time) → same_time t t ≡ true
same-time-refl t = both_true (eq-eqb t.hour t.hour refl) (eq-eqb t.minute t.minute refl)

pub forecast-time-sound : (l : ToLevel) (i : ℕ) (w : List ℕ) → Ok (at_forecast_time l i) → Fine (at_forecast_time l i) w (step (at_forecast_time l i) w)
unfolding step told
forecast-time-sound l i w ok =
    goes-if (both (good_time (time_of w)) (same_time (time_of w) (end_time l))) (λ g.
    let time : time_of w ≡ end_time l = same-time-is (time_of w) (end_time l) (both_right (good_time (time_of w)) (same_time (time_of w) (end_time l)) g) in
    record {
      ok = (ok, tt);
      tells = rw (← time, reads-spelled time-reads w (both_left (good_time (time_of w)) (same_time (time_of w) (end_time l)) g));
    })

-- Live.

pub stationary-next : (l : ToLevel) → Ok (at_stationary l) → Next (at_stationary l)
unfolding step intensity_words index_of same
stationary-next l ok =
    let r : Record = report_of l (Stationary (intensity_of (bytes "NC"))) no_extent in
    next-by (at_stationary l) (bytes "NC") (at_end r) refl refl (next-end r)

pub moving-intensity-next : (l : ToLevel) (d : ℕ) (v : Speed) → Ok (at_moving_intensity l d v) → Next (at_moving_intensity l d v)
unfolding step intensity_words index_of same
moving-intensity-next l d v ok =
    let r : Record = report_of l (Moving d v (intensity_of (bytes "NC"))) no_extent in
    next-by (at_moving_intensity l d v) (bytes "NC") (at_end r) refl refl (next-end r)

pub speed-next : (l : ToLevel) (d : ℕ) → Ok (at_speed l d) → Next (at_speed l d)
unfolding step speed_of good_speed unit_words figures_of worth_after index_of all_of same
speed-next l d ok =
    let w : List ℕ = bytes "20KT" in
    next-by (at_speed l d) w (at_moving_intensity l d (speed_of w)) refl refl (moving-intensity-next l d (speed_of w) (ok.0, ok.1, refl))

pub compass-next : (l : ToLevel) → Ok (at_compass l) → Next (at_compass l)
unfolding step compass_words index_of same
compass-next l ok =
    let w : List ℕ = bytes "E" in
    next-by (at_compass l) w (at_speed l (compass_of w)) refl refl (speed-next l (compass_of w) (ok, refl))

pub ending-next : (l : ToLevel) → Ok (at_ending l) → Next (at_ending l)
unfolding step step_ending same
ending-next l ok = next-by (at_ending l) (bytes "STNR") (at_stationary l) refl refl (stationary-next l ok)

pub top-above-next : (q : ToLocation) → Ok (at_top_above q) → Next (at_top_above q)
unfolding step level_of good_level_word good_level figures_of worth_after all_of same
top-above-next q ok =
    let w : List ℕ = bytes "FL100" in
    let l : ToLevel = record { before = q; level = TopAboveFlight (flight_of (level_of w)) } in
    next-by (at_top_above q) w (at_ending l) refl refl (ending-next l (record { before = ok; level = refl }))

pub above-next : (q : ToLocation) → Ok (at_above q) → Next (at_above q)
unfolding step level_of good_level_word good_level figures_of worth_after all_of same
above-next q ok =
    let w : List ℕ = bytes "FL100" in
    let l : ToLevel = record { before = q; level = AboveFlight (flight_of (level_of w)) } in
    next-by (at_above q) w (at_ending l) refl refl (ending-next l (record { before = ok; level = refl }))

pub top-next : (q : ToLocation) → Ok (at_top q) → Next (at_top q)
unfolding step level_of good_level_word good_level figures_of worth_after all_of same
top-next q ok =
    let w : List ℕ = bytes "FL100" in
    let l : ToLevel = record { before = q; level = TopFlight (flight_of (level_of w)) } in
    next-by (at_top q) w (at_ending l) refl refl (ending-next l (record { before = ok; level = refl }))

pub level-next : (q : ToLocation) → Ok (at_level q) → Next (at_level q)
unfolding step step_level level_of good_level_word good_level figures_of worth_after all_of same
level-next q ok =
    let w : List ℕ = bytes "FL100" in
    let l : ToLevel = record { before = q; level = level_of w } in
    next-by (at_level q) w (at_ending l) refl refl (ending-next l (record { before = ok; level = refl }))

-- the end of VALID is a good time
end-good : (l : ToLevel) → LevelOk l → good_time (end_time l) ≡ true
unfolding good_time good_group
end-good l ok =
    let p : Period = (area_of l).line.valid in
    let opening : OpeningOk (area_of l) = ok.before.before.before.before in
    both_right (between 1 31 p.to.day) _ (period-parts p (line-parts (area_of l).line opening.line).valid).to

-- its word leads to the forecast's location
time-step : (l : ToLevel) (i : ℕ) → LevelOk l → step (at_forecast_time l i) (spell_time (end_time l)) ≡ goes (at_place (in_forecast l i) at_location)
unfolding step
time-step l i ok = rw (time-reads.forth (end_time l) (end-good l ok), end-good l ok, same-time-refl (end_time l))

module _ (located : (site : Site) → SiteOk site → Next (at_place site at_location)) where
  pub forecast-time-next : (l : ToLevel) (i : ℕ) → Ok (at_forecast_time l i) → Next (at_forecast_time l i)
  forecast-time-next l i ok =
      next-by (at_forecast_time l i) (spell_time (end_time l)) (at_place (in_forecast l i) at_location) (time-step l i ok.level) refl (located (in_forecast l i) ok)

  pub forecast-at-next : (l : ToLevel) (i : ℕ) → Ok (at_forecast_at l i) → Next (at_forecast_at l i)
  unfolding step same
  forecast-at-next l i ok = next-by (at_forecast_at l i) (bytes "AT") (at_forecast_time l i) refl refl (forecast-time-next l i ok)

  pub forecast-next : (l : ToLevel) (i : ℕ) → Ok (at_forecast l i) → Next (at_forecast l i)
  unfolding step same
  forecast-next l i ok = next-by (at_forecast l i) (bytes "FCST") (at_forecast_at l i) refl refl (forecast-at-next l i ok)

-- Forth, the level.

-- one word that is neither `TOP` nor `ABV`
forth-word : (q : ToLocation) (l : Level) (ws : List (List ℕ)) → good_level_word l ≡ true → is "TOP" (spell_level_word l) ≡ false → is "ABV" (spell_level_word l) ≡ false
    → walk (goes (at_level q)) (spell_level_word l ∷ ws) ≡ walk (goes (levelled q l)) ws
unfolding step step_level
forth-word q l ws g top above =
    walk_step (at_level q) (levelled q l) (spell_level_word l) ws (rw (top, above) (reads_on level-reads (levelled q) l g))

pub forth-level : (q : ToLocation) (l : Level) (ws : List (List ℕ)) → good_level l ≡ true
    → walk (goes (at_level q)) (level_words l ++ ws) ≡ walk (goes (at_ending (record { before = q; level = l }))) ws
unfolding step step_level level_words good_level spell_level_word same
forth-level q NoLevel _ g = clash false g refl
forth-level q (Flight n) ws g = forth-word q (Flight n) ws g refl refl
forth-level q (SurfaceFlight n) ws g = forth-word q (SurfaceFlight n) ws g refl refl
forth-level q (SurfaceMetres n) ws g = forth-word q (SurfaceMetres n) ws g refl refl
forth-level q (SurfaceFeet n) ws g = forth-word q (SurfaceFeet n) ws g refl refl
forth-level q (Band low high) ws g = forth-word q (Band low high) ws g refl refl
forth-level q (TopFlight n) ws g =
    walk_step (at_level q) (at_top q) (bytes "TOP") (spell_level_word (Flight n) ∷ ws) refl
    ∙ walk_step (at_top q) (levelled q (TopFlight n)) (spell_level_word (Flight n)) ws (reads_on flight-reads (λ (m : ℕ). levelled q (TopFlight m)) n g)
forth-level q (AboveFlight n) ws g =
    walk_step (at_level q) (at_above q) (bytes "ABV") (spell_level_word (Flight n) ∷ ws) refl
    ∙ walk_step (at_above q) (levelled q (AboveFlight n)) (spell_level_word (Flight n)) ws (reads_on flight-reads (λ (m : ℕ). levelled q (AboveFlight m)) n g)
forth-level q (TopAboveFlight n) ws g =
    walk_step (at_level q) (at_top q) (bytes "TOP") (bytes "ABV" ∷ spell_level_word (Flight n) ∷ ws) refl
    ∙ (walk_step (at_top q) (at_top_above q) (bytes "ABV") (spell_level_word (Flight n) ∷ ws) refl
    ∙ walk_step (at_top_above q) (levelled q (TopAboveFlight n)) (spell_level_word (Flight n)) ws (reads_on flight-reads (λ (m : ℕ). levelled q (TopAboveFlight m)) n g))

pub level-first : (l : Level) → good_level l ≡ true → (w : List ℕ) × (rest : List (List ℕ)) × (level_words l ≡ w ∷ rest) × (is "AND" w ≡ false)
unfolding level_words good_level spell_level_word same
level-first NoLevel g = clash false g refl
level-first (Flight n) g = (spell_level_word (Flight n), [], refl, refl)
level-first (SurfaceFlight n) g = (spell_level_word (SurfaceFlight n), [], refl, refl)
level-first (SurfaceMetres n) g = (spell_level_word (SurfaceMetres n), [], refl, refl)
level-first (SurfaceFeet n) g = (spell_level_word (SurfaceFeet n), [], refl, refl)
level-first (Band low high) g = (spell_level_word (Band low high), [], refl, refl)
level-first (TopFlight n) g = (bytes "TOP", spell_level_word (Flight n) ∷ [], refl, refl)
level-first (AboveFlight n) g = (bytes "ABV", spell_level_word (Flight n) ∷ [], refl, refl)
level-first (TopAboveFlight n) g = (bytes "TOP", bytes "ABV" ∷ spell_level_word (Flight n) ∷ [], refl, refl)

-- Forth, the ending.

-- the intensity words are no other first words of an ending
intensity-other : (i : ℕ) → good_intensity i ≡ true → both (not (is "MOV" (spell_intensity i))) (not (is "STNR" (spell_intensity i))) ≡ true
unfolding intensity_words all_of same
intensity-other i g = numbered-all (λ (w : List ℕ). both (not (is "MOV" w)) (not (is "STNR" w))) 1 intensity_words (lit< tt) refl i g

forth-moving : (l : ToLevel) (d : ℕ) (v : Speed) (i : ℕ) → good_compass d ≡ true → good_speed v ≡ true → good_intensity i ≡ true
    → walk (goes (at_ending l)) (bytes "MOV" ∷ spell_compass d ∷ spell_speed v ∷ spell_intensity i ∷ equals_sign ∷ []) ≡ done (report_of l (Moving d v i) no_extent)
unfolding walk step step_ending same
forth-moving l d v i g h k =
    walk_step (at_ending l) (at_compass l) (bytes "MOV") (spell_compass d ∷ spell_speed v ∷ spell_intensity i ∷ equals_sign ∷ []) refl
    ∙ (walk_step (at_compass l) (at_speed l d) (spell_compass d) (spell_speed v ∷ spell_intensity i ∷ equals_sign ∷ []) (reads_on compass-reads (at_speed l) d g)
    ∙ (walk_step (at_speed l d) (at_moving_intensity l d v) (spell_speed v) (spell_intensity i ∷ equals_sign ∷ []) (reads_on speed-reads (at_moving_intensity l d) v h)
    ∙ walk_step (at_moving_intensity l d v) (at_end (report_of l (Moving d v i) no_extent)) (spell_intensity i) (equals_sign ∷ []) (reads_on intensity-reads (λ (n : ℕ). at_end (report_of l (Moving d v n) no_extent)) i k)))

forth-stationary : (l : ToLevel) (i : ℕ) → good_intensity i ≡ true
    → walk (goes (at_ending l)) (bytes "STNR" ∷ spell_intensity i ∷ equals_sign ∷ []) ≡ done (report_of l (Stationary i) no_extent)
unfolding walk step step_ending same
forth-stationary l i g =
    walk_step (at_ending l) (at_stationary l) (bytes "STNR") (spell_intensity i ∷ equals_sign ∷ []) refl
    ∙ walk_step (at_stationary l) (at_end (report_of l (Stationary i) no_extent)) (spell_intensity i) (equals_sign ∷ []) (reads_on intensity-reads (λ (n : ℕ). at_end (report_of l (Stationary n) no_extent)) i g)

forecast-step : (l : ToLevel) (i : ℕ) → eqb (kind_of (area_of l)) ws ≡ true → good_intensity i ≡ true → step (at_ending l) (spell_intensity i) ≡ goes (at_forecast l i)
unfolding step step_ending
forecast-step l i k g =
    let moving : Bool = is "MOV" (spell_intensity i) in
    let still : Bool = is "STNR" (spell_intensity i) in
    let m : moving ≡ false = not-true moving (both_left (not moving) (not still) (intensity-other i g)) in
    let s : still ≡ false = not-true still (both_right (not moving) (not still) (intensity-other i g)) in
    rw (m, s, k) (reads_on intensity-reads (at_forecast l) i g)

forth-forecast : (l : ToLevel) (i : ℕ) (rest : List (List ℕ)) → LevelOk l → eqb (kind_of (area_of l)) ws ≡ true → good_intensity i ≡ true
    → walk (goes (at_ending l)) (spell_intensity i ∷ bytes "FCST" ∷ bytes "AT" ∷ spell_time (end_time l) ∷ rest) ≡ walk (goes (at_place (in_forecast l i) at_location)) rest
unfolding step same
forth-forecast l i rest ok k g =
    walk_step (at_ending l) (at_forecast l i) (spell_intensity i) (bytes "FCST" ∷ bytes "AT" ∷ spell_time (end_time l) ∷ rest) (forecast-step l i k g)
    ∙ (walk_step (at_forecast l i) (at_forecast_at l i) (bytes "FCST") (bytes "AT" ∷ spell_time (end_time l) ∷ rest) refl
    ∙ (walk_step (at_forecast_at l i) (at_forecast_time l i) (bytes "AT") (spell_time (end_time l) ∷ rest) refl
    ∙ walk_step (at_forecast_time l i) (at_place (in_forecast l i) at_location) (spell_time (end_time l)) rest (time-step l i ok)))

module _ (forth-extent : (site : Site) (e : Extent) (w : List ℕ) (ws : List (List ℕ)) → good_extent e ≡ true → is "AND" w ≡ false
    → walk (goes (at_place site at_location)) (extent_words (closing_at site) e ++ (w ∷ ws)) ≡ walk (goes (after site e)) (w ∷ ws)) where
  pub forth-ending : (l : ToLevel) (e : Ending) (f : Extent) → LevelOk l → good_ending (kind_of (area_of l)) e f ≡ true
      → walk (goes (at_ending l)) (ending_words (end_time l) (area_of l).area.closing e f ++ (equals_sign ∷ [])) ≡ done (report_of l e f)
  unfolding good_ending ending_words walk step same
  forth-ending l NoEnding f ok g = clash false g refl
  forth-ending l (Moving d v i) f ok g =
      let parts = moving-parts (kind_of (area_of l)) d v i f g in
      rw (empty-extent-is f parts.forecast) (forth-moving l d v i parts.compass parts.speed parts.intensity)
  forth-ending l (Stationary i) f ok g =
      let parts = stationary-parts (kind_of (area_of l)) i f g in
      rw (empty-extent-is f parts.forecast) (forth-stationary l i parts.intensity)
  forth-ending l (Forecast i) f ok g =
      let parts = forecast-parts (kind_of (area_of l)) i f g in
      forth-forecast l i (extent_words (area_of l).area.closing f ++ (equals_sign ∷ [])) ok parts.kind parts.intensity
      ∙ forth-extent (in_forecast l i) f equals_sign [] parts.forecast refl

-- Plain: these words have only plain bytes.

pub plain-level : (l : Level) → good_level l ≡ true → all_of plain_word (level_words l) ≡ true
unfolding level_words good_level good_level_word all_of allowed
plain-level NoLevel g = clash false g refl
plain-level (Flight n) g = both_true (level-plain (Flight n) g) refl
plain-level (SurfaceFlight n) g = both_true (level-plain (SurfaceFlight n) g) refl
plain-level (SurfaceMetres n) g = both_true (level-plain (SurfaceMetres n) g) refl
plain-level (SurfaceFeet n) g = both_true (level-plain (SurfaceFeet n) g) refl
plain-level (Band low high) g = both_true (level-plain (Band low high) g) refl
plain-level (TopFlight n) g = both_true (level-plain (Flight n) g) refl
plain-level (AboveFlight n) g = both_true (level-plain (Flight n) g) refl
plain-level (TopAboveFlight n) g = both_true (level-plain (Flight n) g) refl

module _ (plain-extent : (closing : ℕ) (e : Extent) → good_extent e ≡ true → all_of plain_word (extent_words closing e) ≡ true) where
  pub plain-ending : (kind : ℕ) (end : Time) (closing : ℕ) (e : Ending) (f : Extent) → good_ending kind e f ≡ true → all_of plain_word (ending_words end closing e f) ≡ true
  unfolding ending_words all_of allowed
  plain-ending kind end closing NoEnding f g = refl
  plain-ending kind end closing (Moving d v i) f g =
      let parts = moving-parts kind d v i f g in
      both_true (compass-plain d parts.compass) (both_true (speed-plain v parts.speed) (both_true (intensity-plain i parts.intensity) refl))
  plain-ending kind end closing (Stationary i) f g = both_true (intensity-plain i (stationary-parts kind i f g).intensity) refl
  plain-ending kind end closing (Forecast i) f g =
      let parts = forecast-parts kind i f g in
      both_true (intensity-plain i parts.intensity) (both_true (time-plain end) (plain-extent closing f parts.forecast))

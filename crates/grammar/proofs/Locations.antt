-- The states inside a location, in a report or in a forecast.
use mathlib.Core.Bool.{true, false}
use mathlib.Core.List.{List, [], ◌∷◌, ◌++◌}
use mathlib.Core.Path.{◌≡◌, refl, ap, sym, ◌∙◌}
use Prim.Native.Char.{code}
use Prim.Native.Nat.{ℕ, zero, suc, ◌+◌, ◌≤◌, ◌<◌}
use native.Mathlib.Omega.{arith}
use lib.Dec.{leb}
use lib.ListN.{length, length-append}
use borrow.Author.Tests.{leb-true, leb-false, lt-ltb}
use Rattle.lists.specs.Choice.{either}
use Rattle.lists.specs.Base.{worth_after}
use Rattle.lists.specs.Lists.{all_of, same}
use Rattle.lists.specs.Text.{bytes}
use Rattle.lists.proofs.Choice.{by, clash, either_left, either-right, either-cases}
use Rattle.lists.proofs.Lists.{same_refl}
use Rattle.words.specs.Words.{equals_sign}
use Rattle.figures.specs.Figures.{figures_of}
use Rattle.coordinates.specs.Coordinates.{north_south, east_west, good_coordinate, spell_coordinate}
use Rattle.coordinates.specs.declared.Coordinate.{Coordinate}
use Rattle.coordinates.specs.declared.Point.{Point}
use Rattle.coordinates.proofs.Axes.{latitude-reads, longitude-reads}
use Rattle.levels.specs.Levels.{level_of, good_level_word, good_level}
use Rattle.levels.specs.declared.Level.TheVariants.{Flight}
use Rattle.message.specs.Limits.{least_points, most_points}
use Rattle.message.specs.Locations.{good_side, no_side, good_extent, extent_words, entire_word}
use Rattle.message.specs.Records.{good}
use Rattle.message.specs.declared.Ending.TheVariants.{Forecast}
use Rattle.message.specs.declared.Extent.{Extent}
use Rattle.message.specs.declared.Side.{Side}
use Rattle.message.proofs.Goodness.{point-good}
use Rattle.grammar.specs.Numbers.{location_part, place_number}
use Rattle.grammar.specs.Parts.{marked}
use Rattle.grammar.specs.Placing.{is, Placed, closes, same_latitude, room_after, locating, place_step}
use Rattle.grammar.specs.Placing.Placed.{on, there}
use Rattle.grammar.specs.Records.{bounded, outlined, entirely, area_of, report_of}
use Rattle.grammar.specs.Runs.{walk}
use Rattle.grammar.specs.States.{ToObservation, ToLocation, ToLevel, Site, Placing, State}
use Rattle.grammar.specs.States.Site.{in_report, in_forecast}
use Rattle.grammar.specs.States.Placing.{at_location, at_latitude_of, at_latitude_bound, at_and, at_second_bound, at_longitude_of, at_longitude_bound, at_entire, at_latitude, at_longitude, at_dash}
use Rattle.grammar.specs.States.State.{at_place, at_level, at_ending}
use Rattle.grammar.specs.States.Move.{goes}
use Rattle.grammar.specs.Steps.{levelled, step_level, closing_at, after, settled, step_place, step}
use Rattle.grammar.proofs.Invariant.{ObservationOk, LocationOk, LevelOk, ForecastOk, SiteOk, OutlineOk, PlacingOk, Ok, place_mark}
use Rattle.grammar.proofs.Moves.{Fine, fine-as, fine_end, Next, next-by, next-end}
use Rattle.grammar.proofs.Moves.Fine.{leads, dies}
use Rattle.grammar.proofs.Outlines.{point_at, latitude-on, dash-on, longitude-on, longitude-there, first_good, other-latitude, first-latitude, first-longitude, east, east-zero, north, north-zero, Elsewhere, elsewhere}
use Rattle.grammar.proofs.LocationLaws.{PlaceFine, place-fine, outline-last, good-side, bounded-first, first-none, first-side}
use Rattle.grammar.proofs.LocationLaws.PlaceFine.{goes_on, is_there, is_past, is_nowhere}
use Rattle.grammar.proofs.Told.{onward, onward-last, placing_words, told_site, told, told_record}

-- Sound. One more word of a location stands behind what was told before it.
grown : (site : Site) (p : Placing) (w : List ℕ) (vs : List (List ℕ)) → vs ≡ placing_words p ++ (w ∷ []) → place_mark site p w ≡ location_part site
    → onward (location_part site) vs (told_site site) ≡ marked (place_mark site p w) w ∷ onward (location_part site) (placing_words p) (told_site site)
grown site p w vs e k = rw (e, k) (onward-last (location_part site) (placing_words p) w (told_site site))

module _
    (level-sound : (q : ToLocation) (w : List ℕ) → Ok (at_level q) → Fine (at_level q) w (step (at_level q) w))
    (forecast-end : (l : ToLevel) (i : ℕ) (f : Extent) → ForecastOk l i → good_extent f ≡ true
    → (good (report_of l (Forecast i) f) ≡ true)
    × (told_record (report_of l (Forecast i) f) ≡ onward 11 (extent_words (area_of l).area.closing f) (told_site (in_forecast l i))))
  where
    settled-sound : (site : Site) (p : Placing) (w : List ℕ) {m : Placed} → SiteOk site → PlaceFine (closing_at site) p w m → Fine (at_place site p) w (settled site w m)
    unfolding step told
    settled-sound site p w ok (goes_on {next} f) =
        leads {next = at_place site next} (record { ok = (ok, f.ok); tells = grown site p w (placing_words next) f.words (f.part site) })
    settled-sound (in_report o) p w ok (is_there {e} f) =
        let site : Site = in_report o in
        leads {next = after site e}
        (record { ok = record { before = ok; extent = f.is_good }; tells = grown site p w (extent_words (closing_at site) e) f.words (f.part site) })
    settled-sound (in_forecast l i) p w ok (is_there {e} f) =
        let site : Site = in_forecast l i in
        leads {next = after site e}
        (record {
          ok = (forecast-end l i e ok f.is_good).0;
          tells = (forecast-end l i e ok f.is_good).1 ∙ grown site p w (extent_words (closing_at site) e) f.words (f.part site);
        })
    settled-sound (in_report o) p w ok (is_past {e} f) =
        fine-as (at_place (in_report o) p) (after (in_report o) e) (rw f.words) (sym (f.part (in_report o)))
        (level-sound (record { before = o; extent = e }) w (record { before = ok; extent = f.is_good }))
    settled-sound (in_forecast l i) p w ok (is_past {e} f) =
        fine-as (at_place (in_forecast l i) p) (after (in_forecast l i) e) ((forecast-end l i e ok f.is_good).1 ∙ rw f.words) (sym (f.part (in_forecast l i)))
        (fine_end (report_of l (Forecast i) e) w (forecast-end l i e ok f.is_good).0)
    settled-sound site p w ok is_nowhere = dies

    pub place-sound : (site : Site) (p : Placing) (w : List ℕ) → SiteOk site → PlacingOk p → Fine (at_place site p) w (step_place site p w)
    place-sound site p w ok placed = settled-sound site p w ok (place-fine (closing_at site) p w placed)

-- Live: from every state inside a location some words lead to the end.

-- a location that ends with this word is good
ends-good : {closing : ℕ} {p : Placing} {w : List ℕ} {x : Extent} → PlaceFine closing p w (there x) → good_extent x ≡ true
ends-good (is_there f) = f.is_good

flight-level : (q : ToLocation) → step (at_level q) (bytes "FL100") ≡ goes (levelled q (Flight 100))
unfolding step step_level same level_of good_level_word figures_of all_of worth_after
flight-level q = refl

flight-good : good_level (Flight 100) ≡ true
unfolding good_level good_level_word
flight-good = refl

module _ (ending : (l : ToLevel) → LevelOk l → Next (at_ending l)) where
  level-next : (q : ToLocation) → LocationOk q → Next (at_ending (record { before = q; level = Flight 100 }))
  level-next q ok = ending (record { before = q; level = Flight 100 }) (record { before = ok; level = flight-good })

  after_next : (site : Site) (x : Extent) → SiteOk site → good_extent x ≡ true → Next (after site x)
  after_next (in_report o) x ok g =
      let q : ToLocation = record { before = o; extent = x } in
      next-by (at_level q) (bytes "FL100") (levelled q (Flight 100)) (flight-level q) refl (level-next q (record { before = ok; extent = g }))
  after_next (in_forecast l i) x ok g = next-end (report_of l (Forecast i) x)

  -- after a latitude bound: a level, or the `=`
  and-next : (site : Site) (latitude : Side) → SiteOk site → good_side north_south latitude ≡ true → Next (at_place site (at_and latitude))
  unfolding step place_step step_level walk same level_of good_level_word figures_of all_of worth_after
  and-next (in_report o) latitude ok g =
      let q : ToLocation = record { before = o; extent = bounded latitude no_side } in
      next-by (at_place (in_report o) (at_and latitude)) (bytes "FL100") (levelled q (Flight 100)) refl refl
      (level-next q (record { before = ok; extent = bounded-first latitude g }))
  and-next (in_forecast l i) latitude ok g = record { word = equals_sign; rest = []; message = report_of l (Forecast i) (bounded latitude no_side); ends = refl; part = refl }

  module _ (site : Site) (ok : SiteOk site) where
    -- a word that goes on, and one that ends the location
    by_word : (p next : Placing) (w : List ℕ) → place_step (closing_at site) p w ≡ on next → place_mark site p w ≡ place_number site p → Next (at_place site next) → Next (at_place site p)
    unfolding step
    by_word p next w e k n = next-by (at_place site p) w (at_place site next) (ap (settled site w) e) k n

    by_last : (p : Placing) (w : List ℕ) (x : Extent) → PlacingOk p → place_step (closing_at site) p w ≡ there x → place_mark site p w ≡ place_number site p → Next (at_place site p)
    unfolding step
    by_last p w x placed e k =
        next-by (at_place site p) w (after site x) (ap (settled site w) e) k (after_next site x ok (ends-good (rw e at (place-fine (closing_at site) p w placed))))

    -- An outline. Once there are points enough, point 1's own words close it.
    shut-longitude : (first : Point) (ps : List Point) (latitude : Coordinate) → PlacingOk (at_longitude (first ∷ ps) latitude) → same_latitude (first ∷ ps) latitude ≡ true
        → least_points ≤ length (first ∷ ps) + 1 → Next (at_place site (at_longitude (first ∷ ps) latitude))
    shut-longitude first ps latitude placed e h =
        by_last (at_longitude (first ∷ ps) latitude) (spell_coordinate east_west first.longitude) (outlined ((first ∷ ps) ++ (point_at latitude first.longitude ∷ []))) placed
        (longitude-there (closing_at site) (first ∷ ps) latitude first.longitude (first_good first ps placed.0.points).longitude (first-longitude first ps latitude e) h) refl

    shut-latitude : (ps : List Point) → OutlineOk ps → least_points ≤ length ps + 1 → Next (at_place site (at_latitude ps))
    shut-latitude [] placed h = absurd (omega arith)
    shut-latitude (first ∷ ps) placed h =
        let g : good_coordinate north_south first.latitude ≡ true = (first_good first ps placed.points).latitude in
        let s : same_latitude (first ∷ ps) first.latitude ≡ true = first-latitude first ps in
        let r : either (room_after (first ∷ ps)) (same_latitude (first ∷ ps) first.latitude) ≡ true = either-right (room_after (first ∷ ps)) s in
        by_word (at_latitude (first ∷ ps)) (at_longitude (first ∷ ps) first.latitude) (spell_coordinate north_south first.latitude)
        (latitude-on (closing_at site) (first ∷ ps) first.latitude g r) refl
        (shut-longitude first ps first.latitude (placed, g, r) s h)

    -- a point that does not close it
    one_more : (ps : List Point) (latitude c : Coordinate) → PlacingOk (at_longitude ps latitude) → good_coordinate east_west c ≡ true
        → closes ps (point_at latitude c) ≡ false → room_after ps ≡ true
        → ((qs : List Point) → OutlineOk qs → length qs ≡ length ps + 1 → Next (at_place site (at_latitude qs))) → Next (at_place site (at_longitude ps latitude))
    one_more ps latitude c placed g n r on' =
        let p : Point = point_at latitude c in
        let qs : List Point = ps ++ (p ∷ []) in
        by_word (at_longitude ps latitude) (at_dash qs) (spell_coordinate east_west c) (longitude-on (closing_at site) ps latitude c g n r) refl
        (by_word (at_dash qs) (at_latitude qs) (bytes "-") (dash-on (closing_at site) qs) refl
        (on' qs (outline-last ps p placed.0 (point-good p (record { latitude = placed.1; longitude = g })) n r) (length-append ps (p ∷ []))))

    late-longitude : (ps : List Point) (latitude : Coordinate) → PlacingOk (at_longitude ps latitude) → least_points ≤ length ps + 1 → Next (at_place site (at_longitude ps latitude))
    late-longitude [] latitude placed h = absurd (omega arith)
    late-longitude (first ∷ ps) latitude placed h =
        by (same_latitude (first ∷ ps) latitude) (λ e. shut-longitude first ps latitude placed e h)
        (λ e. one_more (first ∷ ps) latitude (east 0) placed east-zero (other-latitude first ps (point_at latitude (east 0)) e)
        (either-cases (room_after (first ∷ ps)) (same_latitude (first ∷ ps) latitude) placed.2 (λ r. r) (λ s. clash (same_latitude (first ∷ ps) latitude) s e))
        (λ qs k l. shut-latitude qs k (omega arith)))

    early-longitude : (ps : List Point) (latitude : Coordinate) → PlacingOk (at_longitude ps latitude) → length ps + 1 < least_points
        → ((qs : List Point) → OutlineOk qs → length qs ≡ length ps + 1 → Next (at_place site (at_latitude qs))) → Next (at_place site (at_longitude ps latitude))
    early-longitude ps latitude placed h on' =
        let x : Elsewhere ps latitude = elsewhere ps latitude placed.0.points in
        one_more ps latitude x.longitude placed x.is_good x.is_open (lt-ltb (length ps + 1) most_points (omega arith)) on'

    -- so many more points, and it can be closed
    latitude-next : (more : ℕ) (ps : List Point) → OutlineOk ps → least_points ≤ length ps + 1 + more → Next (at_place site (at_latitude ps))
    latitude-next zero ps placed h = shut-latitude ps placed (omega arith)
    latitude-next (suc more) ps placed h =
        by (leb least_points (length ps + 1)) (λ e. shut-latitude ps placed (leb-true least_points (length ps + 1) e))
        (λ e.
        let few : length ps + 1 < least_points = leb-false least_points (length ps + 1) e in
        let r : either (room_after ps) (same_latitude ps (north 0)) ≡ true = either_left _ (lt-ltb (length ps + 1) most_points (omega arith)) in
        by_word (at_latitude ps) (at_longitude ps (north 0)) (spell_coordinate north_south (north 0)) (latitude-on (closing_at site) ps (north 0) north-zero r) refl
        (early-longitude ps (north 0) (placed, north-zero, r) few (λ qs k l. latitude-next more qs k (omega arith))))

    longitude-next : (ps : List Point) (latitude : Coordinate) → PlacingOk (at_longitude ps latitude) → Next (at_place site (at_longitude ps latitude))
    longitude-next ps latitude placed =
        by (leb least_points (length ps + 1)) (λ e. late-longitude ps latitude placed (leb-true least_points (length ps + 1) e))
        (λ e. early-longitude ps latitude placed (leb-false least_points (length ps + 1) e) (λ qs k l. latitude-next least_points qs k (omega arith)))

    -- Bounds and the entire area.
    longitude-bound : (latitude : Side) (side : ℕ) → PlacingOk (at_longitude_bound latitude side) → Next (at_place site (at_longitude_bound latitude side))
    unfolding place_step
    longitude-bound latitude side placed =
        by_last (at_longitude_bound latitude side) (spell_coordinate east_west (east 0)) (bounded latitude (record { of = side; at = east 0 })) placed
        (rw (longitude-reads.forth (east 0) east-zero, east-zero)) refl

    longitude-of : (latitude : Side) (side : ℕ) → PlacingOk (at_longitude_of latitude side) → Next (at_place site (at_longitude_of latitude side))
    unfolding place_step same
    longitude-of latitude side placed = by_word (at_longitude_of latitude side) (at_longitude_bound latitude side) (bytes "OF") refl refl (longitude-bound latitude side placed)

    latitude-bound : (side : ℕ) → PlacingOk (at_latitude_bound side) → Next (at_place site (at_latitude_bound side))
    unfolding place_step
    latitude-bound side placed =
        let s : Side = record { of = side; at = north 0 } in
        by_word (at_latitude_bound side) (at_and s) (spell_coordinate north_south (north 0)) (rw (latitude-reads.forth (north 0) north-zero, north-zero)) refl
        (and-next site s ok (good-side north_south s placed north-zero))

    first-bound : Next (at_place site (at_longitude_of no_side (code "E")))
    first-bound = longitude-of no_side (code "E") (first-none, refl)

    entire-next : Next (at_place site at_entire)
    unfolding place_step
    entire-next = by_last at_entire (entire_word (closing_at site)) entirely tt (rw (same_refl (entire_word (closing_at site)))) refl

    placing-next : (p : Placing) → PlacingOk p → Next (at_place site p)
    unfolding place_step locating same
    placing-next at_location placed = by_word at_location (at_longitude_of no_side (code "E")) (bytes "E") refl refl first-bound
    placing-next (at_latitude_of side) placed = by_word (at_latitude_of side) (at_latitude_bound side) (bytes "OF") refl refl (latitude-bound side placed)
    placing-next (at_latitude_bound side) placed = latitude-bound side placed
    placing-next (at_and latitude) placed = and-next site latitude ok placed
    placing-next (at_second_bound latitude) placed =
        by_word (at_second_bound latitude) (at_longitude_of latitude (code "E")) (bytes "E") refl refl (longitude-of latitude (code "E") (first-side latitude placed, refl))
    placing-next (at_longitude_of latitude side) placed = longitude-of latitude side placed
    placing-next (at_longitude_bound latitude side) placed = longitude-bound latitude side placed
    placing-next at_entire placed = entire-next
    placing-next (at_latitude ps) placed = latitude-next least_points ps placed (omega arith)
    placing-next (at_longitude ps latitude) placed = longitude-next ps latitude placed
    placing-next (at_dash ps) placed = by_word (at_dash ps) (at_latitude ps) (bytes "-") refl refl (latitude-next least_points ps placed.0 (omega arith))

  pub place-next : (site : Site) (p : Placing) → SiteOk site → PlacingOk p → Next (at_place site p)
  place-next site p ok placed = placing-next site ok p placed

  -- a location may begin with a word that is no `AT`
  pub location-starts : (o : ToObservation) → ObservationOk o
      → (w : List ℕ) × (next : State) × (step (at_place (in_report o) at_location) w ≡ goes next) × (is "AT" w ≡ false) × Next next
  unfolding step place_step locating same
  location-starts o ok = (bytes "E", at_place (in_report o) (at_longitude_of no_side (code "E")), refl, refl, first-bound (in_report o) ok)

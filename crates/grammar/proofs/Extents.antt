-- The words of a good location: they lead through it, the first is no `AT`, and all are plain.
use mathlib.Core.Bool.{true, false}
use mathlib.Core.List.{List, [], ◌∷◌, ◌++◌}
use mathlib.Core.Path.{◌≡◌, refl, ap, ◌∙◌}
use Prim.Native.Char.{code}
use Prim.Native.Nat.{ℕ}
use lib.Dec.{eqb}
use lib.ListN.{take}
use borrow.Author.Tests.{eqb-true}
use Rattle.lists.specs.Choice.{pick}
use Rattle.lists.specs.Lists.{all_of, same}
use Rattle.lists.specs.Text.{bytes}
use Rattle.lists.proofs.Choice.{by, clash, both_left, both_right, both_true, both-false-right, either-cases}
use Rattle.lists.proofs.Lists.{same_refl, all_append}
use Rattle.words.specs.Bytes.{letter, allowed}
use Rattle.words.specs.Words.{plain_word}
use Rattle.figures.proofs.PlainLaws.{letter-plain, plain-cons}
use Rattle.coordinates.specs.Coordinates.{Axis, north_south, east_west, good_coordinate, spell_coordinate}
use Rattle.coordinates.specs.Points.{good_point, point_words}
use Rattle.coordinates.specs.declared.Point.{Point}
use Rattle.coordinates.proofs.Axes.{spell-plain, latitude-reads, longitude-reads, latitude-plain, longitude-plain}
use Rattle.message.specs.Limits.{cta}
use Rattle.message.specs.Locations.{good_side, empty_side, no_side, good_bound, located_by, good_extent, side_words, bound_words, dashed, joined, location_words, extent_words, entire_word}
use Rattle.message.specs.declared.Extent.{Extent}
use Rattle.message.specs.declared.Location.{Location}
use Rattle.message.specs.declared.Location.TheVariants.{Nowhere, Bounded, Outline, Entire}
use Rattle.message.specs.declared.Side.{Side}
use Rattle.message.proofs.Empties.{no-points, no-side}
use Rattle.message.proofs.Goodness.{point-parts, side-parts, bound-cases, outline-parts}
use Rattle.grammar.specs.Placing.{is, locating, place_step}
use Rattle.grammar.specs.Placing.Placed.{on}
use Rattle.grammar.specs.Records.{bounded, entirely}
use Rattle.grammar.specs.Runs.{walk}
use Rattle.grammar.specs.States.{Site, Placing}
use Rattle.grammar.specs.States.Site.{in_report, in_forecast}
use Rattle.grammar.specs.States.Placing.{at_location, at_latitude_of, at_latitude_bound, at_and, at_second_bound, at_longitude_of, at_longitude_bound, at_entire, at_latitude}
use Rattle.grammar.specs.States.State.{at_place}
use Rattle.grammar.specs.States.Move.{goes}
use Rattle.grammar.specs.Steps.{closing_at, after, step}
use Rattle.grammar.proofs.Invariant.{letter_on}
use Rattle.grammar.proofs.Outlines.{walk-on, walk-there, outline-on, Outlined, outline-told}

-- Forth: they lead through it.

module _ (closing side : ℕ) where
  north-south : letter_on north_south side ≡ true → place_step closing at_location (side ∷ []) ≡ on (at_latitude_of side)
  unfolding place_step locating same
  north-south l = either-cases (eqb side (code "N")) (eqb side (code "S")) l (λ e. rw (eqb-true side (code "N") e)) (λ e. rw (eqb-true side (code "S") e))

  east-west : letter_on east_west side ≡ true → place_step closing at_location (side ∷ []) ≡ on (at_longitude_of no_side side)
  unfolding place_step locating same
  east-west l = either-cases (eqb side (code "E")) (eqb side (code "W")) l (λ e. rw (eqb-true side (code "E") e)) (λ e. rw (eqb-true side (code "W") e))

  second : (latitude : Side) → letter_on east_west side ≡ true → place_step closing (at_second_bound latitude) (side ∷ []) ≡ on (at_longitude_of latitude side)
  unfolding place_step same
  second latitude l = either-cases (eqb side (code "E")) (eqb side (code "W")) l (λ e. rw (eqb-true side (code "E") e)) (λ e. rw (eqb-true side (code "W") e))

module _ (site : Site) where
  -- a longitude bound, from a state that takes its letter
  longitude-words : (p : Placing) (latitude longitude : Side) (ws : List (List ℕ)) → good_side east_west longitude ≡ true
      → place_step (closing_at site) p (longitude.of ∷ []) ≡ on (at_longitude_of latitude longitude.of)
      → walk (goes (at_place site p)) (side_words east_west longitude ++ ws) ≡ walk (goes (after site (bounded latitude longitude))) ws
  unfolding place_step same
  longitude-words p latitude longitude ws g e =
      let c : List ℕ = spell_coordinate east_west longitude.at in
      let h : good_coordinate east_west longitude.at ≡ true = (side-parts east_west longitude g).at in
      walk-on site p (longitude.of ∷ []) (bytes "OF" ∷ c ∷ ws) (at_longitude_of latitude longitude.of) e
      ∙ (walk-on site (at_longitude_of latitude longitude.of) (bytes "OF") (c ∷ ws) (at_longitude_bound latitude longitude.of) refl
      ∙ walk-there site (at_longitude_bound latitude longitude.of) c ws (bounded latitude longitude) (rw (longitude-reads.forth longitude.at h, h)))

  latitude-words : (latitude : Side) (ws : List (List ℕ)) → good_side north_south latitude ≡ true
      → walk (goes (at_place site at_location)) (side_words north_south latitude ++ ws) ≡ walk (goes (at_place site (at_and latitude))) ws
  unfolding place_step same
  latitude-words latitude ws g =
      let c : List ℕ = spell_coordinate north_south latitude.at in
      let h : good_coordinate north_south latitude.at ≡ true = (side-parts north_south latitude g).at in
      walk-on site at_location (latitude.of ∷ []) (bytes "OF" ∷ c ∷ ws) (at_latitude_of latitude.of) (north-south (closing_at site) latitude.of (side-parts north_south latitude g).letter)
      ∙ (walk-on site (at_latitude_of latitude.of) (bytes "OF") (c ∷ ws) (at_latitude_bound latitude.of) refl
      ∙ walk-on site (at_latitude_bound latitude.of) c ws (at_and latitude) (rw (latitude-reads.forth latitude.at h, h)))

-- after a latitude bound, a word that is no `AND` is judged as what follows
walk-past : (site : Site) (latitude : Side) (w : List ℕ) (ws : List (List ℕ)) → is "AND" w ≡ false
    → walk (goes (at_place site (at_and latitude))) (w ∷ ws) ≡ walk (goes (after site (bounded latitude no_side))) (w ∷ ws)
unfolding walk step place_step
walk-past (in_report o) latitude w ws n = rw n
walk-past (in_forecast l i) latitude w ws n = rw n

module _ (site : Site) (w : List ℕ) (ws : List (List ℕ)) (n : is "AND" w ≡ false) where
  bound-on : (latitude longitude : Side) → good_bound (record { latitude = latitude; longitude = longitude }) ≡ true
      → walk (goes (at_place site at_location)) (bound_words (record { latitude = latitude; longitude = longitude }) ++ (w ∷ ws)) ≡ walk (goes (after site (bounded latitude longitude))) (w ∷ ws)
  unfolding bound_words place_step same
  bound-on latitude longitude g =
      bound-cases (record { latitude = latitude; longitude = longitude }) g
      (λ e h. rw (e, no-side latitude e) (longitude-words site at_location no_side longitude (w ∷ ws) h (east-west (closing_at site) longitude.of (side-parts east_west longitude h).letter)))
      (λ e h f. rw (e, f, no-side longitude f) (latitude-words site latitude (w ∷ ws) h ∙ walk-past site latitude w ws n))
      (λ e h f k. rw (e, f)
      (latitude-words site latitude (bytes "AND" ∷ (side_words east_west longitude ++ (w ∷ ws))) h
      ∙ (walk-on site (at_and latitude) (bytes "AND") (side_words east_west longitude ++ (w ∷ ws)) (at_second_bound latitude) refl
      ∙ longitude-words site (at_second_bound latitude) latitude longitude (w ∷ ws) k (second (closing_at site) longitude.of latitude (side-parts east_west longitude k).letter))))

  located : (l : Location) (ps : List Point) → located_by l ps ≡ true
      → walk (goes (at_place site at_location)) (location_words (closing_at site) l ps ++ (w ∷ ws)) ≡ walk (goes (after site (record { location = l; points = ps }))) (w ∷ ws)
  unfolding place_step locating same
  located Nowhere ps g = clash false g refl
  located (Bounded b) ps g = rw (no-points ps (both_right (good_bound b) _ g)) (bound-on b.latitude b.longitude (both_left _ _ g))
  located (Outline k) ps g =
      let o : Outlined k ps = outline-told k ps (outline-parts k ps g) in
      walk-on site at_location (bytes "WI") (joined (take k ps) ++ (w ∷ ws)) (at_latitude []) refl
      ∙ rw (o.taken, o.whole) (outline-on site o.before o.last (w ∷ ws) o.points o.end o.room o.least o.is_open o.shut)
  located Entire ps g =
      rw (no-points ps g)
      (walk-on site at_location (bytes "ENTIRE") (entire_word (closing_at site) ∷ w ∷ ws) at_entire refl
      ∙ walk-there site at_entire (entire_word (closing_at site)) (w ∷ ws) entirely (rw (same_refl (entire_word (closing_at site)))))

pub forth-extent : (site : Site) (e : Extent) (w : List ℕ) (ws : List (List ℕ)) → good_extent e ≡ true → is "AND" w ≡ false
    → walk (goes (at_place site at_location)) (extent_words (closing_at site) e ++ (w ∷ ws)) ≡ walk (goes (after site e)) (w ∷ ws)
unfolding good_extent extent_words
forth-extent site e w ws g n = located site w ws n e.location e.points g

-- The words of a good location: the first is no `AT`, …

one-letter : (x : ℕ) → is "AT" (x ∷ []) ≡ false
unfolding same
one-letter x = both-false-right (eqb x (code "A")) refl

first_of : (closing : ℕ) (l : Location) (ps : List Point) → located_by l ps ≡ true
    → (w : List ℕ) × (rest : List (List ℕ)) × (location_words closing l ps ≡ w ∷ rest) × (is "AT" w ≡ false)
unfolding bound_words same
first_of closing Nowhere ps g = clash false g refl
first_of closing (Bounded b) ps g =
    let latitude : Side = b.latitude in
    let longitude : Side = b.longitude in
    by (empty_side latitude)
    (λ e. (longitude.of ∷ [], bytes "OF" ∷ spell_coordinate east_west longitude.at ∷ [], rw e, one-letter longitude.of))
    (λ e. (
      latitude.of ∷ [],
      bytes "OF" ∷ spell_coordinate north_south latitude.at ∷ pick (empty_side longitude) [] (bytes "AND" ∷ side_words east_west longitude),
      rw e,
      one-letter latitude.of,
    ))
first_of closing (Outline n) ps g = (bytes "WI", joined (take n ps), refl, refl)
first_of closing Entire ps g = (bytes "ENTIRE", entire_word closing ∷ [], refl, refl)

pub extent-first : (closing : ℕ) (e : Extent) → good_extent e ≡ true
    → (w : List ℕ) × (rest : List (List ℕ)) × (extent_words closing e ≡ w ∷ rest) × (is "AT" w ≡ false)
unfolding good_extent extent_words
extent-first closing e g = first_of closing e.location e.points g

-- … and all have plain bytes alone

side-plain : (a : Axis) (s : Side) → letter a.plus ≡ true → letter a.minus ≡ true → good_side a s ≡ true → all_of plain_word (side_words a s) ≡ true
unfolding all_of allowed
side-plain a s p m g =
    let parts = side-parts a s g in
    let l : letter s.of ≡ true =
    either-cases (eqb s.of a.plus) (eqb s.of a.minus) parts.letter (λ e. rw (eqb-true s.of a.plus e) p) (λ e. rw (eqb-true s.of a.minus e) m) in
    both_true (plain-cons s.of [] (letter-plain s.of l) refl) (both_true (spell-plain a p m s.at parts.at) refl)

point-plain : (p : Point) → good_point p ≡ true → all_of plain_word (point_words p) ≡ true
unfolding all_of
point-plain p g =
    let parts = point-parts p g in
    both_true (latitude-plain p.latitude parts.latitude) (both_true (longitude-plain p.longitude parts.longitude) refl)

dashed-plain : (ps : List Point) → all_of good_point ps ≡ true → all_of plain_word (dashed ps) ≡ true
unfolding dashed all_of allowed
dashed-plain [] g = refl
dashed-plain (p ∷ ps) g = all_append plain_word (point_words p) (dashed ps) ∙ both_true (point-plain p (both_left _ _ g)) (dashed-plain ps (both_right (good_point p) (all_of good_point ps) g))

joined-plain : (ps : List Point) → all_of good_point ps ≡ true → all_of plain_word (joined ps) ≡ true
unfolding joined all_of
joined-plain [] g = refl
joined-plain (p ∷ ps) g = all_append plain_word (point_words p) (dashed ps) ∙ both_true (point-plain p (both_left _ _ g)) (dashed-plain ps (both_right (good_point p) (all_of good_point ps) g))

bound-plain : (latitude longitude : Side) → good_bound (record { latitude = latitude; longitude = longitude }) ≡ true
    → all_of plain_word (bound_words (record { latitude = latitude; longitude = longitude })) ≡ true
unfolding bound_words all_of allowed
bound-plain latitude longitude g =
    bound-cases (record { latitude = latitude; longitude = longitude }) g
    (λ e h. rw e (side-plain east_west longitude refl refl h))
    (λ e h f. rw (e, f) (side-plain north_south latitude refl refl h))
    (λ e h f k. rw (e, f)
    (all_append plain_word (side_words north_south latitude) (bytes "AND" ∷ side_words east_west longitude)
    ∙ both_true (side-plain north_south latitude refl refl h) (side-plain east_west longitude refl refl k)))

location-plain : (closing : ℕ) (l : Location) (ps : List Point) → located_by l ps ≡ true → all_of plain_word (location_words closing l ps) ≡ true
unfolding all_of allowed
location-plain closing Nowhere ps g = clash false g refl
location-plain closing (Bounded b) ps g = bound-plain b.latitude b.longitude (both_left _ _ g)
location-plain closing (Outline n) ps g =
    let o : Outlined n ps = outline-told n ps (outline-parts n ps g) in
    ap (λ (qs : List Point). all_of plain_word (joined qs)) o.taken
    ∙ joined-plain (o.before ++ (o.last ∷ [])) (all_append good_point o.before (o.last ∷ []) ∙ both_true o.points (both_true o.end refl))
location-plain closing Entire ps g = by (eqb closing cta) (λ e. rw e) (λ e. rw e)

pub plain-extent : (closing : ℕ) (e : Extent) → good_extent e ≡ true → all_of plain_word (extent_words closing e) ≡ true
unfolding good_extent extent_words
plain-extent closing e g = location-plain closing e.location e.points g

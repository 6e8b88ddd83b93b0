-- One word of a location, wherever the location stands: what was read stays good, and the words of the location grow by this one.
use mathlib.Core.Bool.{Bool, true, false, not}
use mathlib.Core.List.{List, [], ◌∷◌, ◌++◌, append_assoc}
use mathlib.Core.Path.{◌≡◌, refl, ap, sym, ◌∙◌}
use Prim.Native.Nat.{ℕ, ◌+◌, ◌-◌, ◌≤◌, ◌<◌}
use native.Mathlib.Omega.{arith}
use lib.Dec.{eqb, leb, lit<}
use lib.ListN.{length, take, drop, get_or, replicate, length-append, length-replicate}
use lib.Seq.{take_at, drop_at}
use borrow.Author.Tests.{leb-true, le-leb, ltb-true, eq-eqb}
use Rattle.lists.specs.Choice.{pick, both}
use Rattle.lists.specs.Lists.{all_of, index_of, same}
use Rattle.lists.specs.Text.{bytes}
use Rattle.lists.proofs.Choice.{by, clash, both_left, both_right, both_true, either_left, either-right, either-cases}
use Rattle.lists.proofs.Lists.{same-is, all_append, index-past}
use Rattle.figures.proofs.ReadsLaws.{reads-spelled}
use Rattle.coordinates.specs.Coordinates.{Axis, north_south, east_west, coordinate_of, good_coordinate, spell_coordinate}
use Rattle.coordinates.specs.Points.{same_point, good_point, empty_point, no_point, point_words}
use Rattle.coordinates.specs.declared.Coordinate.{Coordinate}
use Rattle.coordinates.specs.declared.Point.{Point}
use Rattle.coordinates.proofs.Axes.{latitude-reads, longitude-reads}
use Rattle.coordinates.proofs.Goodness.{good-not-empty, no-point-empty}
use Rattle.message.specs.Limits.{least_points, most_points}
use Rattle.message.specs.Locations.{good_side, empty_side, no_side, good_bound, closing_point, good_outline, good_extent, side_words, bound_words, dashed, joined, extent_words, entire_word}
use Rattle.message.specs.declared.Extent.{Extent}
use Rattle.message.specs.declared.Side.{Side}
use Rattle.message.proofs.Empties.{all_replicate, no-points-empty, no-side-empty}
use Rattle.message.proofs.Goodness.{point-good, side-parts}
use Rattle.grammar.specs.Numbers.{location_part, following_part}
use Rattle.grammar.specs.Placing.{enough, may_follow, is, Placed, on_if, there_if, side_word, closes, room_after, pointed, locating, place_step}
use Rattle.grammar.specs.Placing.Placed.{on, there, past, nowhere}
use Rattle.grammar.specs.Records.{bounded, outlined, entirely}
use Rattle.grammar.specs.States.{Site, Placing}
use Rattle.grammar.specs.States.Placing.{at_location, at_latitude_of, at_latitude_bound, at_and, at_second_bound, at_longitude_of, at_longitude_bound, at_entire, at_latitude, at_longitude, at_dash}
use Rattle.grammar.proofs.Invariant.{letter_on, unclosed, OutlineOk, first_side_good, PlacingOk, place_mark}
use Rattle.grammar.proofs.Told.{trailed, first_bound, placing_words}

-- What a word of a location owes. It goes on: …
pub record GoesOn (p : Placing) (w : List ℕ) (next : Placing) : Type 0 where
  pub ok : PlacingOk next
  pub words : placing_words next ≡ placing_words p ++ (w ∷ [])
  pub part : (site : Site) → place_mark site p w ≡ location_part site

-- … it is the last one: …
pub record Ends (closing : ℕ) (p : Placing) (w : List ℕ) (e : Extent) : Type 0 where
  pub is_good : good_extent e ≡ true
  pub words : extent_words closing e ≡ placing_words p ++ (w ∷ [])
  pub part : (site : Site) → place_mark site p w ≡ location_part site

-- … or the location had ended
pub record Ended (closing : ℕ) (p : Placing) (w : List ℕ) (e : Extent) : Type 0 where
  pub is_good : good_extent e ≡ true
  pub words : extent_words closing e ≡ placing_words p
  pub part : (site : Site) → place_mark site p w ≡ following_part site

pub data PlaceFine (closing : ℕ) (p : Placing) (w : List ℕ) : Placed → Type 0 where
  goes_on : {next : Placing} → GoesOn p w next → PlaceFine closing p w (on next)
  is_there : {e : Extent} → Ends closing p w e → PlaceFine closing p w (there e)
  is_past : {e : Extent} → Ended closing p w e → PlaceFine closing p w (past e)
  is_nowhere : PlaceFine closing p w nowhere

settle : {closing : ℕ} {p : Placing} {w : List ℕ} {a b : Placed} (t : Bool)
    → (t ≡ true → PlaceFine closing p w a) → (t ≡ false → PlaceFine closing p w b) → PlaceFine closing p w (pick t a b)
settle true f g = f refl
settle false f g = g refl

on-if : {closing : ℕ} {p next : Placing} {w : List ℕ} (t : Bool) → (t ≡ true → GoesOn p w next) → PlaceFine closing p w (on_if t next)
on-if t f = settle t (λ e. goes_on (f e)) (λ e. is_nowhere)

there-if : {closing : ℕ} {p : Placing} {w : List ℕ} {x : Extent} (t : Bool) → (t ≡ true → Ends closing p w x) → PlaceFine closing p w (there_if t x)
there-if t f = settle t (λ e. is_there (f e)) (λ e. is_nowhere)

-- Bounds.

-- the letter of a side, as a word
pub side-letter : (a : Axis) (w : List ℕ) → side_word a w ≡ true → (letter_on a (get_or w 0 0) ≡ true) × (◌≡◌ {A = List ℕ} (get_or w 0 0 ∷ []) w)
side-letter a w t = either-cases (same w (a.plus ∷ [])) (same w (a.minus ∷ [])) t
    (λ e. let i : w ≡ a.plus ∷ [] = same-is w (a.plus ∷ []) e in rw i (either_left _ (eq-eqb a.plus a.plus refl), refl))
    (λ e. let i : w ≡ a.minus ∷ [] = same-is w (a.minus ∷ []) e in rw i (either-right (eqb a.minus a.plus) (eq-eqb a.minus a.minus refl), refl))

-- a side is good by its letter and its coordinate
pub good-side : (a : Axis) (s : Side) → letter_on a s.of ≡ true → good_coordinate a s.at ≡ true → good_side a s ≡ true
unfolding good_side
good-side a s l c = both_true l c

-- a good side is not empty
pub good-side-full : (a : Axis) → 0 < a.plus → 0 < a.minus → (s : Side) → good_side a s ≡ true → empty_side s ≡ false
unfolding empty_side
good-side-full a p m s g =
    by (eqb s.of 0)
    (λ e. rw (e, good-not-empty a p m s.at (side-parts a s g).at))
    (λ e. rw e)

pub latitude-full : (s : Side) → good_side north_south s ≡ true → empty_side s ≡ false
latitude-full = good-side-full north_south (lit< tt) (lit< tt)

pub longitude-full : (s : Side) → good_side east_west s ≡ true → empty_side s ≡ false
longitude-full = good-side-full east_west (lit< tt) (lit< tt)

-- the words of a latitude bound alone, and of a longitude bound with or without one before it
pub bound-first : (latitude : Side) → good_side north_south latitude ≡ true → bound_words (record { latitude = latitude; longitude = no_side }) ≡ side_words north_south latitude
unfolding bound_words
bound-first latitude g = rw (latitude-full latitude g, no-side-empty)

pub bound-both : (latitude longitude : Side) → good_side east_west longitude ≡ true
    → bound_words (record { latitude = latitude; longitude = longitude }) ≡ first_bound latitude ++ side_words east_west longitude
unfolding bound_words
bound-both latitude longitude g =
    by (empty_side latitude) (λ e. rw e) (λ e. rw (e, longitude-full longitude g))

pub bounded-first : (latitude : Side) → good_side north_south latitude ≡ true → good_extent (bounded latitude no_side) ≡ true
unfolding good_extent good_bound
bounded-first latitude g = rw (latitude-full latitude g, g, no-side-empty) no-points-empty

pub bounded-both : (latitude longitude : Side) → first_side_good latitude ≡ true → good_side east_west longitude ≡ true → good_extent (bounded latitude longitude) ≡ true
unfolding good_extent good_bound
bounded-both latitude longitude f g =
    by (empty_side latitude) (λ e. rw (e, g) no-points-empty)
    (λ e. let k : good_side north_south latitude ≡ true = rw e at f in rw (e, k, longitude-full longitude g, g) no-points-empty)

pub entirely-good : good_extent entirely ≡ true
unfolding good_extent
entirely-good = no-points-empty

pub first-none : first_side_good no_side ≡ true
first-none = rw no-side-empty

pub first-side : (latitude : Side) → good_side north_south latitude ≡ true → first_side_good latitude ≡ true
first-side latitude g = rw (latitude-full latitude g) g

-- Outlines.

-- the words of points, one more at the end
dashed-last : (ps : List Point) (p : Point) → dashed (ps ++ (p ∷ [])) ≡ bytes "-" ∷ (trailed ps ++ point_words p)
unfolding dashed
dashed-last [] p = refl
dashed-last (x ∷ ps) p = rw (dashed-last ps p)

pub joined-last : (ps : List Point) (p : Point) → joined (ps ++ (p ∷ [])) ≡ trailed ps ++ point_words p
unfolding joined dashed
joined-last [] p = refl
joined-last (x ∷ ps) p = rw (dashed-last ps p)

dashed-trailed : (ps : List Point) → dashed ps ++ (bytes "-" ∷ []) ≡ bytes "-" ∷ trailed ps
unfolding dashed
dashed-trailed [] = refl
dashed-trailed (x ∷ ps) = rw (dashed-trailed ps)

pub joined-trailed : (ps : List Point) → 0 < length ps → joined ps ++ (bytes "-" ∷ []) ≡ trailed ps
unfolding joined
joined-trailed [] h = absurd (omega arith)
joined-trailed (x ∷ ps) h = rw (dashed-trailed ps)

pub outlined-words : (closing : ℕ) (qs : List Point) → extent_words closing (outlined qs) ≡ bytes "WI" ∷ joined qs
unfolding extent_words
outlined-words closing qs = rw (take_at qs (replicate (most_points - length qs) no_point) (length qs) refl)

-- one more point that closes the outline at a place where it may end
pub outlined-good : (first : Point) (ps : List Point) (p : Point) → all_of good_point (first ∷ ps) ≡ true → good_point p ≡ true
    → length (first ∷ ps) < most_points → least_points ≤ length (first ∷ ps) + 1 → unclosed (first ∷ ps) ≡ true → same_point first p ≡ true
    → good_extent (outlined ((first ∷ ps) ++ (p ∷ []))) ≡ true
unfolding good_extent good_outline index_of all_of
outlined-good first ps p g q room least is_open s =
    let qs : List Point = (first ∷ ps) ++ (p ∷ []) in
    let n : ℕ = length qs in
    let m : ℕ = most_points - n in
    let long : n ≡ length ps + 2 = omega (arith, length-append ps (p ∷ [])) in
    let low : leb least_points n ≡ true = le-leb least_points n (omega arith) in
    let high : leb n most_points ≡ true = le-leb n most_points (omega arith) in
    let all : length (qs ++ replicate m no_point) ≡ most_points = omega (arith, length-append qs (replicate m no_point), length-replicate m no_point) in
    let points : all_of good_point qs ≡ true = all_append good_point (first ∷ ps) (p ∷ []) ∙ rw (g, q) in
    let past : index_of (same_point first) (ps ++ (p ∷ replicate m no_point)) ≡ length ps = index-past (same_point first) ps (p ∷ replicate m no_point) is_open ∙ rw s (omega arith) in
    let closing : closing_point (qs ++ replicate m no_point) ≡ n - 1 =
    rw (append_assoc ps (p ∷ []) (replicate m no_point)) (omega arith) in
    let front : all_of good_point (take n (qs ++ replicate m no_point)) ≡ true = ap (all_of good_point) (take_at qs (replicate m no_point) n refl) ∙ points in
    let back : all_of empty_point (drop n (qs ++ replicate m no_point)) ≡ true = ap (all_of empty_point) (drop_at qs (replicate m no_point) n refl) ∙ (all_replicate empty_point m no_point no-point-empty) in
    both_true (both_true low high)
    (both_true (eq-eqb (length (qs ++ replicate m no_point)) most_points all)
    (both_true front (both_true (eq-eqb (closing_point (qs ++ replicate m no_point)) (n - 1) closing) back)))

-- one more point that does not close it, and leaves room
pub unclosed-last : (ps : List Point) (p : Point) → unclosed ps ≡ true → closes ps p ≡ false → unclosed (ps ++ (p ∷ [])) ≡ true
unfolding all_of
unclosed-last [] p u c = refl
unclosed-last (first ∷ ps) p u c = all_append (λ (q : Point). not (same_point first q)) ps (p ∷ []) ∙ rw (u, c)

pub outline-last : (ps : List Point) (p : Point) → OutlineOk ps → good_point p ≡ true → closes ps p ≡ false → room_after ps ≡ true → OutlineOk (ps ++ (p ∷ []))
unfolding all_of
outline-last ps p ok g c r = record {
  points = all_append good_point ps (p ∷ []) ∙ rw (ok.points, g);
  room = omega (arith, length-append ps (p ∷ []), ltb-true);
  is_open = unclosed-last ps p ok.is_open c;
}

module _ (closing : ℕ) (w : List ℕ) where
  locating-fine : PlaceFine closing at_location w (locating w)
  unfolding locating all_of
  locating-fine =
      settle (side_word north_south w)
      (λ e. goes_on {next = at_latitude_of (get_or w 0 0)} (record { ok = (side-letter north_south w e).0; words = rw (side-letter north_south w e).1; part = λ site. refl }))
      (λ n. settle (side_word east_west w)
      (λ e. goes_on {next = at_longitude_of no_side (get_or w 0 0)}
      (record { ok = (first-none, (side-letter east_west w e).0); words = rw (no-side-empty, (side-letter east_west w e).1); part = λ site. refl }))
      (λ m. settle (is "ENTIRE" w)
      (λ e. goes_on {next = at_entire} (record { ok = tt; words = rw (same-is w (bytes "ENTIRE") e); part = λ site. refl }))
      (λ k. on-if {next = at_latitude []} (is "WI" w)
      (λ e. record { ok = record { points = refl; room = lit< tt; is_open = refl }; words = rw (same-is w (bytes "WI") e); part = λ site. refl }))))

  and-fine : (latitude : Side) → good_side north_south latitude ≡ true → PlaceFine closing (at_and latitude) w (pick (is "AND" w) (on (at_second_bound latitude)) (past (bounded latitude no_side)))
  unfolding extent_words
  and-fine latitude g =
      settle (is "AND" w)
      (λ e. goes_on {next = at_second_bound latitude} (record { ok = g; words = rw (same-is w (bytes "AND") e); part = λ site. rw e }))
      (λ e. is_past {e = bounded latitude no_side} (record { is_good = bounded-first latitude g; words = bound-first latitude g; part = λ site. rw e }))

  pointed-fine : (ps : List Point) (latitude : Coordinate) → OutlineOk ps → good_coordinate north_south latitude ≡ true → good_coordinate east_west (coordinate_of east_west w) ≡ true
      → PlaceFine closing (at_longitude ps latitude) w (pointed ps (record { latitude = latitude; longitude = coordinate_of east_west w }))
  unfolding pointed
  pointed-fine ps latitude ok g h =
      settle (closes ps p)
      (λ c. there-if {x = outlined (ps ++ (p ∷ []))} (enough ps)
      (λ l. record { is_good = closed ps ok c l; words = outlined-words closing (ps ++ (p ∷ [])) ∙ told; part = λ site. refl }))
      (λ c. on-if {next = at_dash (ps ++ (p ∷ []))} (room_after ps)
      (λ r. record { ok = (outline-last ps p ok good c r, omega (arith, length-append ps (p ∷ []))); words = told; part = λ site. refl }))
    where
      p : Point
      p = record { latitude = latitude; longitude = coordinate_of east_west w }

      good : good_point p ≡ true
      good = point-good p (record { latitude = g; longitude = h })

      told : ◌≡◌ {A = List (List ℕ)} (bytes "WI" ∷ joined (ps ++ (p ∷ []))) (bytes "WI" ∷ (trailed ps ++ (spell_coordinate north_south latitude ∷ []) ++ (w ∷ [])))
      told = rw (joined-last ps p, append_assoc (trailed ps) (spell_coordinate north_south latitude ∷ []) (w ∷ []), reads-spelled longitude-reads w h)

      closed : (ps : List Point) → OutlineOk ps → closes ps p ≡ true → enough ps ≡ true → good_extent (outlined (ps ++ (p ∷ []))) ≡ true
      closed [] ok c l = clash false c refl
      closed (first ∷ ps) ok c l = outlined-good first ps p ok.points good ok.room (leb-true _ _ l) ok.is_open c

pub place-fine : (closing : ℕ) (p : Placing) (w : List ℕ) → PlacingOk p → PlaceFine closing p w (place_step closing p w)
unfolding place_step extent_words
place-fine closing at_location w ok = locating-fine closing w
place-fine closing (at_latitude_of side) w ok =
    on-if {next = at_latitude_bound side} (is "OF" w) (λ e. record { ok = ok; words = rw (same-is w (bytes "OF") e); part = λ site. refl })
place-fine closing (at_latitude_bound side) w ok =
    on-if {next = at_and (record { of = side; at = coordinate_of north_south w })} (good_coordinate north_south (coordinate_of north_south w))
    (λ g. record {
      ok = good-side north_south (record { of = side; at = coordinate_of north_south w }) ok g;
      words = rw (reads-spelled latitude-reads w g);
      part = λ site. refl;
    })
place-fine closing (at_and latitude) w ok = and-fine closing w latitude ok
place-fine closing (at_second_bound latitude) w ok =
    on-if {next = at_longitude_of latitude (get_or w 0 0)} (side_word east_west w)
    (λ e. record {
      ok = (first-side latitude ok, (side-letter east_west w e).0);
      words = rw (latitude-full latitude ok, (side-letter east_west w e).1);
      part = λ site. refl;
    })
place-fine closing (at_longitude_of latitude side) w ok =
    on-if {next = at_longitude_bound latitude side} (is "OF" w)
    (λ e. record { ok = ok; words = rw (same-is w (bytes "OF") e, append_assoc (first_bound latitude) ((side ∷ []) ∷ []) (bytes "OF" ∷ [])); part = λ site. refl })
place-fine closing (at_longitude_bound latitude side) w ok =
    let s : Side = record { of = side; at = coordinate_of east_west w } in
    there-if {x = bounded latitude s} (good_coordinate east_west (coordinate_of east_west w))
    (λ g. let h : good_side east_west s ≡ true = good-side east_west s ok.1 g in record {
      is_good = bounded-both latitude s ok.0 h;
      words = bound-both latitude s h ∙ rw (reads-spelled longitude-reads w g, append_assoc (first_bound latitude) ((side ∷ []) ∷ bytes "OF" ∷ []) (w ∷ []));
      part = λ site. refl;
    })
place-fine closing at_entire w ok =
    there-if {x = entirely} (same w (entire_word closing))
    (λ e. record { is_good = entirely-good; words = rw (same-is w (entire_word closing) e); part = λ site. refl })
place-fine closing (at_latitude ps) w ok =
    let c : Coordinate = coordinate_of north_south w in
    on-if {next = at_longitude ps c} (both (good_coordinate north_south c) (may_follow ps c))
    (λ e. let g : good_coordinate north_south c ≡ true = both_left _ _ e in record {
      ok = (ok, g, both_right (good_coordinate north_south c) (may_follow ps c) e);
      words = rw (reads-spelled latitude-reads w g);
      part = λ site. refl;
    })
place-fine closing (at_longitude ps latitude) w ok =
    settle (good_coordinate east_west (coordinate_of east_west w)) (λ h. pointed-fine closing w ps latitude ok.0 ok.1 h) (λ h. is_nowhere)
place-fine closing (at_dash ps) w ok =
    on-if {next = at_latitude ps} (is "-" w)
    (λ e. record { ok = ok.0; words = ap (λ (vs : List (List ℕ)). bytes "WI" ∷ vs) (sym (joined-trailed ps ok.1)) ∙ rw (same-is w (bytes "-") e); part = λ site. refl })

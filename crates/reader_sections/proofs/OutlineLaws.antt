-- The points of an outline, by how many there are and the first of them: what the code keeps says what the list says. Then one more point, and the
-- loop over the points.
use mathlib.Core.Bool.{Bool, true, false}
use mathlib.Core.List.{List, [], ◌∷◌, ◌++◌, append_assoc}
use mathlib.Core.Path.{◌≡◌, refl, ap, sym, ◌∙◌}
use Prim.Native.Nat.{ℕ, suc, ◌+◌, ◌-◌, ◌≤◌, ◌<◌}
use native.Mathlib.Omega.{arith}
use lib.Dec.{ltb}
use lib.ListN.{length, get_or, set, replicate, length-append, get_or-append}
use lib.Seq.{set-append_seam}
use borrow.Author.Tests.{le-leb, lt-leb, lt-ltb, le-ltb}
use Rattle.std.specs.Prelude.{Option, None, Some, Result, Ok, Err}
use Rattle.lists.specs.Choice.{either, found}
use Rattle.lists.proofs.Choice.{by, clash, both-false-left, both-false-right, both_true}
use Rattle.lists.proofs.Found.{some-good, some-is, none-bad, found-some, found-none}
use Rattle.words.specs.Words.{equals_sign}
use Rattle.vocabulary.specs.Codes.{code-dash}
use Rattle.vocabulary.proofs.FixedWords.{fixed-dash}
use Rattle.coordinates.specs.declared.Coordinate.{Coordinate}
use Rattle.coordinates.specs.declared.Point.{Point}
use Rattle.coordinates.specs.Coordinates.{north_south, east_west, coordinate_of, good_coordinate}
use Rattle.coordinates.specs.Points.{same_value, same_point, no_point}
use Rattle.message.specs.declared.Extent.{Extent}
use Rattle.message.specs.declared.Location.TheVariants.{Outline}
use Rattle.message.specs.Limits.{least_points, most_points}
use Rattle.grammar.specs.Numbers.{location_part}
use Rattle.grammar.specs.Placing.Placed.{on, there, past, nowhere}
use Rattle.grammar.specs.Placing.{Placed, closes, may_follow, pointed, place_step}
use Rattle.grammar.specs.Records.{outlined}
use Rattle.grammar.specs.States.Placing.{at_latitude, at_longitude, at_dash}
use Rattle.grammar.specs.States.State.{at_place}
use Rattle.grammar.specs.States.{Site, Placing}
use Rattle.grammar.specs.Steps.{closing_at, after}
use Rattle.reader_sections.specs.declared.outline.Corner.{Corner}
use Rattle.reader_sections.specs.declared.outline.Corner.TheVariants.{Further, Closing}
use Rattle.reader_sections.specs.declared.parts.Part.{Part}
use Rattle.reader_sections.specs.declared.step.Refused.{Refused}
use Rattle.reader_sections.specs.declared.step.Step.{Step}
use Rattle.reader_sections.specs.Locations.{LocatedSays}
use Rattle.reader_sections.specs.Outlines.{Points, FollowsSays, ClosesSays, follows, LatitudeSays, more, placed, CornerSays, PointSays}
use Rattle.reader_sections.specs.Parts.{part_number}
use Rattle.reader_sections.specs.Steps.{next_word, word_on, Required, Fixed, Reaches, Ends}
use Rattle.reader_sections.proofs.Leads.{here, then, then-ends, leads-err}
use Rattle.reader_sections.proofs.Locating.{on_step, there-step, nowhere-step, accepts-on, fixed-on}
use Rattle.reader_sections.proofs.OneWord.{Accepts, AcceptsFixed, standing, reaches, ends, took, missed, took-fixed, missed-fixed}
use Rattle.reader_sections.proofs.RunsAt.{part-tells, in-text}
use Rattle.reader_sections.proofs.WordKinds.{latitude-only, longitude-only}

module _ {first : Point} {count : ℕ} where
  -- no point so far
  module _ (none : count ≡ 0) where
    empty : (ps : List Point) → Points first count ps → ps ≡ []
    empty [] h = refl
    empty (x ∷ xs) h = absurd (omega (arith, h.counted))

    pub first-follows : (c : Coordinate) → FollowsSays first count c true
    first-follows c = record { says = λ ps h. rw (empty ps h) }

    pub none-closes : (p : Point) → ClosesSays first count p false
    none-closes p = record { says = λ ps h. rw (empty ps h) }

  -- the first at hand
  module _ (some : count ≡ 0 → ⊥) where
    led : (x : Point) (xs : List Point) → Points first count (x ∷ xs) → first ≡ x
    led x xs h = sym (h.leads (omega (arith, h.counted)))

    pub next-follows : (c : Coordinate) → FollowsSays first count c (either (ltb (count + 1) most_points) (same_value first.latitude c))
    next-follows c = record { says = go }
      where
        go : (ps : List Point) → Points first count ps → either (ltb (count + 1) most_points) (same_value first.latitude c) ≡ may_follow ps c
        go [] h = absurd (some (sym h.counted))
        go (x ∷ xs) h = rw (h.counted, led x xs h)

    pub same-closes : (p : Point) → ClosesSays first count p (same_point first p)
    same-closes p = record { says = go }
      where
        go : (ps : List Point) → Points first count ps → same_point first p ≡ closes ps p
        go [] h = absurd (some (sym h.counted))
        go (x ∷ xs) h = rw (led x xs h)

-- the latitude of one more point
module _ {first : Point} {count : ℕ} (w : List ℕ) where
  pub no-latitude : None ≡ found (good_coordinate north_south) (coordinate_of north_south w) → LatitudeSays first count w None
  no-latitude e = record { says = λ ps k. found-none (follows ps) refl (both-false-left (may_follow ps _) (none-bad (good_coordinate north_south) e)) }

  module _ {c : Coordinate} {may : Bool} (e : Some c ≡ found (good_coordinate north_south) (coordinate_of north_south w)) (f : FollowsSays first count c may) where
    pub latitude-follows : may ≡ true → LatitudeSays first count w (Some c)
    latitude-follows y = record {
      says = λ ps k. found-some (follows ps) (some-is (good_coordinate north_south) e)
          (both_true (ap (good_coordinate north_south) (some-is (good_coordinate north_south) e) ∙ some-good (good_coordinate north_south) e) (sym (f.says ps k) ∙ y));
    }

    pub latitude-over : may ≡ false → LatitudeSays first count w None
    latitude-over n = record { says = λ ps k. found-none (follows ps) (some-is (good_coordinate north_south) e) (both-false-right (good_coordinate north_south c) (sym (f.says ps k) ∙ n)) }

-- its longitude
module _ {first : Point} {count : ℕ} {north : Coordinate} (w : List ℕ) where
  pub no-longitude : None ≡ found (good_coordinate east_west) (coordinate_of east_west w) → CornerSays first count north w None
  unfolding place_step
  no-longitude e = record {
    says = λ closing ps v k i. rw (i, none-bad (good_coordinate east_west) e) refl;
    room = tt;
  }

  module _ {c : Coordinate} {shut : Bool} (e : Some c ≡ found (good_coordinate east_west) (coordinate_of east_west w))
      (f : ClosesSays first count (record { latitude = north; longitude = c }) shut) where
    stepped : (closing : ℕ) (ps : List Point) (v : List ℕ) → coordinate_of east_west v ≡ coordinate_of east_west w
        → place_step closing (at_longitude ps north) v ≡ pointed ps (record { latitude = north; longitude = c })
    unfolding place_step
    stepped closing ps v i = rw (i, some-good (good_coordinate east_west) e, ← (some-is (good_coordinate east_west) e)) refl

    module _ (y : shut ≡ true) where
      pub corner-closes : least_points ≤ count + 1 → CornerSays first count north w (Some (Closing (record { latitude = north; longitude = c })))
      unfolding pointed
      corner-closes h = record {
        says = λ closing ps v k i. stepped closing ps v i ∙ rw (sym (f.says ps k) ∙ y, k.counted, le-leb least_points (count + 1) h) refl;
        room = tt;
      }

      pub corner-early : count + 1 < least_points → CornerSays first count north w None
      unfolding pointed
      corner-early h = record {
        says = λ closing ps v k i. stepped closing ps v i ∙ rw (sym (f.says ps k) ∙ y, k.counted, lt-leb least_points (count + 1) h) refl;
        room = tt;
      }

    module _ (n : shut ≡ false) where
      pub corner-further : count + 1 < most_points → CornerSays first count north w (Some (Further (record { latitude = north; longitude = c })))
      unfolding pointed
      corner-further h = record {
        says = λ closing ps v k i. stepped closing ps v i ∙ rw (sym (f.says ps k) ∙ n, k.counted, lt-ltb (count + 1) most_points h) refl;
        room = h;
      }

      pub corner-late : most_points ≤ count + 1 → CornerSays first count north w None
      unfolding pointed
      corner-late h = record {
        says = λ closing ps v k i. stepped closing ps v i ∙ rw (sym (f.says ps k) ∙ n, k.counted, le-ltb (count + 1) most_points h) refl;
        room = tt;
      }

-- where a word was taken, it went somewhere
somewhere : Placed → Bool
somewhere (on p) = true
somewhere (there e) = true
somewhere (past e) = true
somewhere nowhere = false

there-somewhere : {e : Extent} → there e ≡ nowhere → ⊥
unfolding somewhere
there-somewhere i = clash true refl (ap somewhere i)

on-somewhere : {p : Placing} → on p ≡ nowhere → ⊥
unfolding somewhere
on-somewhere i = clash true refl (ap somewhere i)

-- neither the empty word nor the `=` has a longitude
no-east : coordinate_of east_west [] ≡ coordinate_of east_west equals_sign
unfolding coordinate_of
no-east = refl

-- one more point, as the code has it
module _ {judged : Part} (site : Site) (ps : List Point) (n : location_part site ≡ part_number judged) where
  latitude : (w : List ℕ) → Accepts (at_place site (at_latitude ps)) judged (coordinate_of north_south) (follows ps) (λ (c : Coordinate). at_place site (at_longitude ps c)) w
  unfolding place_step
  latitude w = accepts-on site (at_latitude ps) n (record { empty = both-false-left _ latitude-only.empty; sign = both-false-left _ latitude-only.sign })
      (λ (c : Coordinate). at_longitude ps c) refl

  module _ {first : Point} {count : ℕ} (k : Points first count ps) {from : Step} {w : List ℕ} {value : Option Coordinate} (e : w ≡ word_on from)
      (l : LatitudeSays first count w value) where
    pub latitude-missed : {x : Refused} → Required judged from value (Err x) → Ends (at_place site (at_latitude ps)) from x
    latitude-missed r = missed from (latitude _) e (l.says ps k) r

    pub latitude-taken : {c : Coordinate} {to : Step} → Required judged from value (Ok (c, to)) → Reaches (at_place site (at_latitude ps)) from (at_place site (at_longitude ps c)) to
    latitude-taken r = took from (latitude _) e (l.says ps k) r

module _ (site : Site) (ps : List Point) {first : Point} {count : ℕ} (k : Points first count ps) (from : Step) {north : Coordinate} {w : List ℕ} {value : Option Corner}
    (e : w ≡ word_on from) (g : CornerSays first count north w value) where
  moved : place_step (closing_at site) (at_longitude ps north) (next_word from) ≡ placed ps value
  moved = g.says (closing_at site) ps (next_word from) k (sym (ap (coordinate_of east_west) e ∙ part-tells (standing from) from.stands (coordinate_of east_west) no-east))

  pub corner-missed : {judged : Part} → location_part site ≡ part_number judged → {x : Refused} → Required judged from value (Err x) → Ends (at_place site (at_longitude ps north)) from x
  corner-missed n r = ends r.is.1 n (nowhere-step site (at_longitude ps north) (next_word from) (moved ∙ ap (placed ps) r.is.0))

  -- a word that has no longitude does not move the location
  inside : {p : Placed} → placed ps value ≡ p → (p ≡ nowhere → ⊥) → good_coordinate east_west (coordinate_of east_west (next_word from)) ≡ true
  unfolding place_step
  inside {p} i apart = by (good_coordinate east_west (coordinate_of east_west (next_word from))) (λ y. y)
      (λ z. absurd (apart (sym (moved ∙ i) ∙ rw z refl)))

  pub corner-closing : {judged : Part} {point : Point} {to : Step} → Required judged from value (Ok (Closing point, to)) → Reaches (at_place site (at_longitude ps north)) from (after site (outlined (more ps point))) to
  corner-closing {point} r =
      let is : placed ps value ≡ there (outlined (more ps point)) = ap (placed ps) r.is.0 in
      reaches r.is.1 (in-text (standing from) from.stands longitude-only (inside is (λ z. there-somewhere z))) (there-step site (at_longitude ps north) (next_word from) (moved ∙ is))

  pub corner-going : {judged : Part} {point : Point} {to : Step} → Required judged from value (Ok (Further point, to)) → Reaches (at_place site (at_longitude ps north)) from (at_place site (at_dash (more ps point))) to
  corner-going {point} r =
      let is : placed ps value ≡ on (at_dash (more ps point)) = ap (placed ps) r.is.0 in
      reaches r.is.1 (in-text (standing from) from.stands longitude-only (inside is (λ z. on-somewhere z))) (on_step site (at_longitude ps north) (next_word from) (moved ∙ is))

pub dash : {judged : Part} (site : Site) (ps : List Point) → location_part site ≡ part_number judged → (p : Point) (w : List ℕ)
    → AcceptsFixed (at_place site (at_dash (more ps p))) judged code-dash (at_place site (at_latitude (more ps p))) w
unfolding place_step
dash site ps n p w = fixed-on site (at_dash (more ps p)) n fixed-dash (at_latitude (more ps p)) refl

-- a whole point
point-err : {first : Point} {count : ℕ} {judged : Part} {from : Step} {x : Refused} {last : Result (Corner × Step) Refused} → last ≡ Err x
    → ((site : Site) (ps : List Point) → location_part site ≡ part_number judged → Points first count ps → Ends (at_place site (at_latitude ps)) from x)
    → PointSays first count judged from last
point-err is f = rw is (record { says = λ site ps n k. record { says = f site ps n k }; room = tt })

module _ {first : Point} {count : ℕ} {from : Step} {w : List ℕ} {value : Option Coordinate} (e : w ≡ word_on from) (l : LatitudeSays first count w value) {judged : Part} where
  pub north-missed : {x : Refused} {last : Result (Corner × Step) Refused} → Required judged from value (Err x) → last ≡ Err x → PointSays first count judged from last
  north-missed r is = point-err is (λ site ps n k. latitude-missed site ps n k e l r)

  module _ {north : Coordinate} {mid : Step} (r : Required judged from value (Ok (north, mid))) {v : List ℕ} {corner : Option Corner} (d : v ≡ word_on mid)
      (g : CornerSays first count north v corner) where
    pub east-missed : {x : Refused} {last : Result (Corner × Step) Refused} → Required judged mid corner (Err x) → last ≡ Err x → PointSays first count judged from last
    east-missed q is = point-err is (λ site ps n k. then-ends (latitude-taken site ps n k e l r) (corner-missed site ps k mid d g n q))

    module _ {p : Point} {c : Corner} {to : Step} where
      pub point-closed : c ≡ Closing p → Required judged mid corner (Ok (c, to)) → PointSays first count judged from (Ok (c, to))
      point-closed is q =
          let q' : Required judged mid corner (Ok (Closing p, to)) = rw is at q in
          rw is (record { says = λ site ps n k. record { says = then (latitude-taken site ps n k e l r) (corner-closing site ps k mid d g q') }; room = tt })

      module _ (is : c ≡ Further p) (q : Required judged mid corner (Ok (c, to))) where
        further : Required judged mid corner (Ok (Further p, to))
        further = rw is at q

        to-dash : (site : Site) (ps : List Point) → location_part site ≡ part_number judged → Points first count ps
            → Reaches (at_place site (at_latitude ps)) from (at_place site (at_dash (more ps p))) to
        to-dash site ps n k = then (latitude-taken site ps n k e l r) (corner-going site ps k mid d g further)

        pub dash-missed : {x : Refused} {last : Result (Corner × Step) Refused} → Fixed judged code-dash to (Err x) → last ≡ Err x → PointSays first count judged from last
        dash-missed f i = point-err i (λ site ps n k. then-ends (to-dash site ps n k) (missed-fixed (dash site ps n p _) f))

        pub point-dashed : {end : Step} → Fixed judged code-dash to (Ok end) → PointSays first count judged from (Ok (c, end))
        point-dashed f = rw is (record {
          says = λ site ps n k. record { says = then (to-dash site ps n k) (took-fixed (dash site ps n p _) f) };
          room = rw further.is.0 at g.room;
        })

-- so many points at the head of the array, and no point behind them
pub record Filled (ps : List Point) (count : ℕ) (points : List Point) : Type 0 where
  pub counted : length ps ≡ count
  pub filled : points ≡ (outlined ps).points

filled_more : {ps points : List Point} {count : ℕ} (p : Point) → Filled ps count points → count < most_points → Filled (ps ++ (p ∷ [])) (count + 1) (set points count p)
filled_more {ps} p f few =
    let longer : length (ps ++ (p ∷ [])) ≡ length ps + 1 = length-append ps (p ∷ []) in
    let left : ℕ = most_points - length (ps ++ (p ∷ [])) in
    let e : most_points - length ps ≡ suc left = omega (arith, f.counted) in
    record {
      counted = omega (arith, f.counted);
      filled = rw (f.filled, ← f.counted, e, set-append_seam ps no_point (replicate left no_point) p) (sym (append_assoc ps (p ∷ []) (replicate left no_point)));
    }

filled-outline : {ps points : List Point} {count : ℕ} → Filled ps count points → outlined ps ≡ record { location = Outline count; points = points }
filled-outline f = λ i. record { location = Outline (f.counted i); points = sym f.filled i }

-- what the loop has read
pub record Gone (from : Step) (judged : Part) (points : List Point) (count : ℕ) (step : Step) : Type 0 where
  pub read : List Point
  pub array : Filled read count points
  pub few : count < most_points
  pub says : (site : Site) → location_part site ≡ part_number judged → Reaches (at_place site (at_latitude [])) from (at_place site (at_latitude read)) step

pub gone-none : {from : Step} {judged : Part} → Gone from judged (outlined []).points 0 from
gone-none = record { read = []; array = record { counted = refl; filled = refl }; few = omega arith; says = λ site n. here }

module _ {from : Step} {judged : Part} {points : List Point} {count : ℕ} {step : Step} (g : Gone from judged points count step) where
  so_far : Points (get_or points 0 no_point) count g.read
  so_far = record {
    counted = g.array.counted;
    leads = λ some. sym (ap (λ (l : List Point). get_or l 0 no_point) g.array.filled ∙ get_or-append g.read _ no_point 0 (omega (arith, g.array.counted)));
  }

  -- refused
  pub gone-refused : {x : Refused} {last : Result (Extent × Step) Refused} → PointSays (get_or points 0 no_point) count judged step (Err x) → last ≡ Err x
      → LocatedSays (at_latitude []) judged from last
  gone-refused p is = record { says = λ site n. leads-err (then-ends (g.says site n) (p.says site g.read n so_far).says) is }

  module _ (p : Point) where
    filled-more : Filled (more g.read p) (count + 1) (set points count p)
    filled-more = filled_more p g.array g.few

    pub gone-on : {to : Step} → PointSays (get_or points 0 no_point) count judged step (Ok (Further p, to)) → Gone from judged (set points count p) (count + 1) to
    gone-on n = record {
      read = more g.read p;
      array = filled-more;
      few = n.room;
      says = λ site k. then (g.says site k) (n.says site g.read k so_far).says;
    }

    pub gone-over : {to : Step} → PointSays (get_or points 0 no_point) count judged step (Ok (Closing p, to))
        → LocatedSays (at_latitude []) judged from (Ok (record { location = Outline (count + 1); points = set points count p }, to))
    gone-over n = record {
      says = λ site k. record { says = then (g.says site k) (rw (filled-outline filled-more) at (n.says site g.read k so_far).says) };
    }

-- What the calls of a section have put are the words of its part of the record, where the check does not find it by the definitions alone: names,
-- mountains, the table of phenomena, bounds and outlines. One law for each return, whose premises are the facts that the code has there, so that
-- `search` finds them.
use mathlib.Core.Bool.{Bool, true, false}
use mathlib.Core.List.{List, [], ◌∷◌, ◌++◌, append_assoc, append-nil}
use mathlib.Core.Path.{◌≡◌, refl, ap, sym, ◌∙◌}
use Prim.Native.Nat.{ℕ, suc, ◌+◌, ◌-◌, ◌≤◌, ◌<◌}
use native.Mathlib.Numerals.{add-one, sub-one}
use native.Mathlib.Omega.{arith}
use lib.Dec.{eqb}
use lib.ListN.{length, get_or, take, drop}
use lib.Seq.{take_all, take-suc}
use borrow.Author.Tests.{eqb-true, eq-eqb, ne_eqb}
use Rattle.lists.specs.Choice.{pick, both}
use Rattle.lists.specs.Lists.{same}
use Rattle.lists.specs.Text.{bytes}
use Rattle.lists.proofs.Choice.{by, clash, both_left, both_right, both-false-left, either-cases}
use Rattle.lists.proofs.Lists.{same-is}
use Rattle.words.proofs.Ranges.{between-low, between-high}
use Rattle.figures.specs.Codes.{FixedWord, spell_code}
use Rattle.coordinates.specs.declared.Point.{Point}
use Rattle.coordinates.specs.Coordinates.{Axis, north_south, east_west}
use Rattle.coordinates.specs.Points.{point_words}
use Rattle.names.specs.Names.{onto, pieces}
use Rattle.names.proofs.NameLaws.{pieces-some}
use Rattle.pens.specs.Pens.{pen, strokes, spaced, Words}
use Rattle.writer_sections.specs.declared.pen.Pen.{Pen}
use Rattle.writer_sections.specs.Moves.{Moved}
use Rattle.writer_sections.proofs.Moves.{no_words, and_then, renamed, fixed}
use Rattle.message.specs.declared.Bound.{Bound}
use Rattle.message.specs.declared.Name.{Name}
use Rattle.message.specs.declared.Side.{Side}
use Rattle.message.specs.declared.Volcano.{Volcano}
use Rattle.message.specs.Limits.{name_bytes, mountain_limit, eruption}
use Rattle.message.specs.Locations.{good_side, empty_side, good_bound, side_words, bound_words, dashed, joined}
use Rattle.message.specs.Names.{good_name, empty_name, unused_zero, name_words}
use Rattle.message.specs.Reports.{phenomena, good_volcano, mount_words}
use Rattle.message.proofs.Goodness.{name-parts, side-parts, bound-cases, phenomenon-cases}
use Rattle.writer_sections.specs.Sections.{GoodPhenomenon, GoodMount, named_words, first_word, second_word, freezing_rain}
use Rattle.writer_sections.proofs.Tables.{stretched}

-- Names.

-- the byte in front of the first piece stands behind the space
spaced-onto : (x : ℕ) (t : List ℕ) (ws : List (List ℕ)) → 0 < length ws → spaced ws ≡ 32 ∷ t → spaced (onto x ws) ≡ 32 ∷ x ∷ t
unfolding spaced
spaced-onto x t [] h e = absurd (omega arith)
spaced-onto x t (w ∷ ws) h e = let rest : w ++ spaced ws ≡ t = cc in ap (λ (l : List ℕ). 32 ∷ x ∷ l) rest

-- a text parted at its spaces is the text, its spaces again before the pieces
spaced-pieces : (t : List ℕ) → spaced (pieces t) ≡ 32 ∷ t
unfolding pieces spaced
spaced-pieces [] = refl
spaced-pieces (x ∷ t) =
    by (eqb x 32)
    (λ e. rw (e, spaced-pieces t) (rw (eqb-true x 32 e)))
    (λ e. rw e (spaced-onto x t (pieces t) (pieces-some t) (spaced-pieces t)))

pub name-put : {t : List ℕ} {p q : Pen} → Moved (Words (t ∷ [])) p q → Moved (Words (pieces t)) p q
unfolding spaced
name-put {t} {p} f =
    let same : spaced (pieces t) ≡ spaced (t ∷ []) = spaced-pieces t ∙ ap (λ (l : List ℕ). 32 ∷ l) (sym (append-nil t)) in
    record { says = record { says = ap (λ (l : List ℕ). strokes l (pen p.at p.page.now)) same ∙ f.says.says }; same_page = f.same_page }

-- Mountains.

pub no-mount : (n : Name) {p0 : Pen} → GoodMount n → n.count ≡ 0 → Moved (Words (mount_words n)) p0 p0
no-mount n g e =
    let empty : empty_name n ≡ true = either-cases (empty_name n) (good_name true mountain_limit n) g.holds (λ t. t)
    (λ t. absurd (omega (arith, (name-parts true mountain_limit n t).some))) in
    rw empty no_words

named-mount : (n : Name) → (n.count ≡ 0 → ⊥) → empty_name n ≡ false
unfolding empty_name
named-mount n h = both-false-left (unused_zero n) (ne_eqb n.count 0 h)

pub a-mount : (n : Name) {p0 p1 p2 : Pen} → (n.count ≡ 0 → ⊥) → Moved (Words (bytes "MT" ∷ [])) p0 p1 → Moved (Words (name_words n)) p1 p2 → Moved (Words (mount_words n)) p0 p2
a-mount n h f g = rw (named-mount n h) (and_then f g)

pub mount-fits : (n : Name) → GoodMount n → (n.count ≡ 0 → ⊥) → n.count ≤ name_bytes
mount-fits n g h =
    either-cases (empty_name n) (good_name true mountain_limit n) g.holds
    (λ t. clash (empty_name n) t (named-mount n h))
    (λ t. omega (arith, (name-parts true mountain_limit n t).fits))

-- Phenomena.

pub phenomenon-number : (n : ℕ) (v : Volcano) → GoodPhenomenon n v → (1 ≤ n) × (n ≤ eruption)
phenomenon-number n v g =
    phenomenon-cases g.kind n v g.holds
    (λ k b e. (between-low 1 15 n b, omega (arith, between-high 1 15 n b)))
    (λ k c e. (omega arith, omega arith))
    (λ k c e. (omega arith, omega arith))

pub has-volcano : (n : ℕ) (v : Volcano) → GoodPhenomenon n v → n ≡ eruption → good_volcano v ≡ true
has-volcano n v g h =
    phenomenon-cases g.kind n v g.holds
    (λ k b e. absurd (omega (arith, between-high 1 15 n b)))
    (λ k c e. absurd (omega arith))
    (λ k c e. e)

-- the words of two lists are the same
abbrev same_words : List (List ℕ) → List (List ℕ) → Bool
same_words [] [] = true
same_words [] (y ∷ ys) = false
same_words (x ∷ xs) [] = false
same_words (x ∷ xs) (y ∷ ys) = both (same x y) (same_words xs ys)

same-words-is : (xs ys : List (List ℕ)) → same_words xs ys ≡ true → xs ≡ ys
same-words-is [] [] t = refl
same-words-is [] (y ∷ ys) t = clash false t refl
same-words-is (x ∷ xs) [] t = clash false t refl
same-words-is (x ∷ xs) (y ∷ ys) t =
    let first : x ≡ y = same-is x y (both_left (same x y) (same_words xs ys) t) in
    let rest : xs ≡ ys = same-words-is xs ys (both_right (same x y) (same_words xs ys) t) in
    cc

abbrev table_words : ℕ → List (List ℕ)
table_words n = first_word n ∷ second_word n ∷ pick (eqb n freezing_rain) (bytes "(FZRA)" ∷ []) []

-- a phenomenon has two words, and `SEV ICE (FZRA)` a third
named-words : (n : ℕ) → 1 ≤ n → n ≤ eruption → named_words n ≡ table_words n
unfolding phenomena same
named-words n low high =
    same-words-is (named_words n) (table_words n)
    (stretched (λ (k : ℕ). same_words (named_words k) (table_words k)) 1 17 n refl low (omega arith))

-- its words by the names under which they were put
pub two-named : (n : ℕ) {v w : List ℕ} {p0 p1 p2 : Pen} → 1 ≤ n → n ≤ eruption → (n ≡ freezing_rain → ⊥) → v ≡ first_word n → Moved (Words (v ∷ [])) p0 p1 → w ≡ second_word n → Moved (Words (w ∷ [])) p1 p2 → Moved (Words (named_words n)) p0 p2
two-named n low high h d f e g = rw (named-words n low high, ne_eqb n freezing_rain h) (and_then (renamed d f) (renamed e g))

pub three-named : (n : ℕ) {v w : List ℕ} {code : ℕ} {p0 p1 p2 p3 : Pen} → n ≡ freezing_rain → v ≡ first_word n → Moved (Words (v ∷ [])) p0 p1 → w ≡ second_word n → Moved (Words (w ∷ [])) p1 p2 → FixedWord (bytes "(FZRA)") code → Moved (Words (spell_code code ∷ [])) p2 p3 → Moved (Words (named_words n)) p0 p3
three-named n i d f e g k h =
    rw (named-words n (omega arith) (omega arith), eq-eqb n freezing_rain i) (and_then (renamed d f) (and_then (renamed e g) (fixed k h)))

pub eruption-named : (n : ℕ) {v : List ℕ} {p0 p1 p2 : Pen} → n ≡ eruption → v ≡ first_word n → Moved (Words (v ∷ [])) p0 p1 → Moved (Words (bytes "ERUPTION" ∷ [])) p1 p2 → Moved (Words (named_words n)) p0 p2
unfolding phenomena
eruption-named n e d f g = rw e (and_then (rw e at (renamed d f)) g)

-- Bounds.

axis-letter : (a : Axis) (s : Side) → 0 < a.plus → 0 < a.minus → good_side a s ≡ true → s.of ≡ 0 → ⊥
axis-letter a s p m g e =
    either-cases (eqb s.of a.plus) (eqb s.of a.minus) (side-parts a s g).letter
    (λ t. omega (arith, eqb-true s.of a.plus t))
    (λ t. omega (arith, eqb-true s.of a.minus t))

a-side : (s : Side) → (s.of ≡ 0 → ⊥) → empty_side s ≡ false
unfolding empty_side
a-side s h = both-false-left _ (ne_eqb s.of 0 h)

no-latitude : (b : Bound) → good_bound b ≡ true → b.latitude.of ≡ 0 → empty_side b.latitude ≡ true
no-latitude b g e =
    bound-cases b g (λ t s. t)
    (λ f s t. absurd (axis-letter north_south b.latitude (omega arith) (omega arith) s e))
    (λ f s t u. absurd (axis-letter north_south b.latitude (omega arith) (omega arith) s e))

no-longitude : (b : Bound) → good_bound b ≡ true → (b.latitude.of ≡ 0 → ⊥) → b.longitude.of ≡ 0 → empty_side b.longitude ≡ true
no-longitude b g h e =
    bound-cases b g (λ t s. clash (empty_side b.latitude) t (a-side b.latitude h)) (λ f s t. t)
    (λ f s t u. absurd (axis-letter east_west b.longitude (omega arith) (omega arith) u e))

pub longitude-alone : (b : Bound) {p0 p1 : Pen} → good_bound b ≡ true → b.latitude.of ≡ 0 → Moved (Words (side_words east_west b.longitude)) p0 p1 → Moved (Words (bound_words b)) p0 p1
unfolding bound_words
longitude-alone b g e f = rw (no-latitude b g e) f

pub latitude-alone : (b : Bound) {p0 p1 : Pen} → good_bound b ≡ true → (b.latitude.of ≡ 0 → ⊥) → b.longitude.of ≡ 0 → Moved (Words (side_words north_south b.latitude)) p0 p1 → Moved (Words (bound_words b)) p0 p1
unfolding bound_words
latitude-alone b g h e f = rw (a-side b.latitude h, no-longitude b g h e) f

pub both-sides : (b : Bound) {p0 p1 p2 p3 : Pen} → (b.latitude.of ≡ 0 → ⊥) → (b.longitude.of ≡ 0 → ⊥) → Moved (Words (side_words north_south b.latitude)) p0 p1 → Moved (Words (bytes "AND" ∷ [])) p1 p2 → Moved (Words (side_words east_west b.longitude)) p2 p3 → Moved (Words (bound_words b)) p0 p3
unfolding bound_words
both-sides b h i f g k = rw (a-side b.latitude h, a-side b.longitude i) (and_then f (and_then g k))

-- Outlines.

dashed-append : (ps qs : List Point) → dashed (ps ++ qs) ≡ dashed ps ++ dashed qs
unfolding dashed
dashed-append [] qs = refl
dashed-append (p ∷ ps) qs = rw (dashed-append ps qs, append_assoc (point_words p) (dashed ps) (dashed qs))

-- one more point, with the `-` before it
pub point-more : (ps : List Point) (i : ℕ) (d : Point) {code : ℕ} {p0 p1 p2 p3 : Pen} → i < length ps → Moved (Words (dashed (take i ps))) p0 p1
    → FixedWord (bytes "-") code → Moved (Words (spell_code code ∷ [])) p1 p2 → Moved (Words (point_words (get_or ps i d))) p2 p3
    → Moved (Words (dashed (take (i + 1) ps))) p0 p3
unfolding dashed
point-more ps i d {p0 = p0} {p3 = p3} inside f k g h =
    let put : Moved (Words (dashed (take i ps) ++ dashed (get_or ps i d ∷ []))) p0 p3 = and_then f (and_then (fixed k g) h) in
    rw (add-one i, take-suc ps i d inside, dashed-append (take i ps) (get_or ps i d ∷ [])) put

-- no point, or the first and the others with a `-` before each
pub no-points : (ps : List Point) {p : Pen} → length ps < 1 → Moved (Words (joined ps)) p p
unfolding joined
no-points [] h = no_words
no-points (first ∷ ps) h = absurd (omega arith)

pub points-joined : (ps : List Point) (i : ℕ) (d : Point) {p0 p1 p2 : Pen} → 1 ≤ length ps → length (take (length ps - 1) (drop 1 ps)) ≤ i
    → Moved (Words (point_words (get_or ps 0 d))) p0 p1 → Moved (Words (dashed (take i (take (length ps - 1) (drop 1 ps))))) p1 p2
    → Moved (Words (joined ps)) p0 p2
unfolding joined
points-joined [] i d some all f g = absurd (omega arith)
points-joined (first ∷ ps) i d {p1 = p1} {p2 = p2} some all f g =
    let others : take (suc (length ps) - 1) ps ≡ ps = rw sub-one (take_all (length ps) ps (omega arith)) in
    let rest : Moved (Words (dashed ps)) p1 p2 = rw (take_all i _ all, others) at g in
    and_then f rest

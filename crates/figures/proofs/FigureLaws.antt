-- What figures count, and a number written in figures, undo one another.
use mathlib.Core.Bool.{Bool, true, false}
use mathlib.Core.List.{List, [], ◌∷◌, map}
use mathlib.Core.Path.{◌≡◌, refl, sym, ◌∙◌}
use Prim.Native.Nat.{ℕ, ◌+◌, ◌-◌, ◌^◌, ◌≤◌, ◌<◌}
use native.Mathlib.Nat.{pow-le-pow_right, le_trans}
use native.Mathlib.Omega.{arith}
use lib.Dec.{leb, ltb, lit<}
use lib.ListN.{length, length-map}
use borrow.Author.Tests.{le-leb, lt-ltb, ltb-true}
use Rattle.lists.specs.Choice.{pick, both}
use Rattle.lists.specs.Lists.{all_of, part}
use Rattle.lists.specs.Base.{worth, places}
use Rattle.lists.proofs.Choice.{both_left, both_right, both_true, pick_true}
use Rattle.lists.proofs.Lists.{all_map, all-weaken, length_part}
use Rattle.lists.proofs.Base.{worth-places, places-worth, length-places, places-small}
use Rattle.words.specs.Bytes.{digit}
use Rattle.words.proofs.Ranges.{between-low, between-high}
use Rattle.figures.specs.Figures.{figure, as_figure, figures_of, in_figures, capped, two_of, three_of}

-- One figure.

pub digit_low : (x : ℕ) → digit x ≡ true → 48 ≤ x
digit_low x e = between-low 48 57 x e

pub figure-small : (x : ℕ) → digit x ≡ true → figure x < 10
figure-small x e = omega (arith, between-high 48 57 x e)

as-figure-digit : (d : ℕ) → ltb d 10 ≡ true → digit (as_figure d) ≡ true
as-figure-digit d e = both_true (le-leb 48 (d + 48) (omega arith)) (le-leb (d + 48) 57 (omega (arith, ltb-true d 10 e)))

-- A run of figures and the numbers they stand for.

map_back : (w : List ℕ) → all_of digit w ≡ true → map as_figure (map figure w) ≡ w
unfolding all_of
map_back [] t = refl
map_back (x ∷ w) t =
    let p : x - 48 + 48 ≡ x = omega (arith, digit_low x (both_left (digit x) (all_of digit w) t)) in
    let q : map as_figure (map figure w) ≡ w = map_back w (both_right (digit x) (all_of digit w) t) in
    cc

map-forth : (ds : List ℕ) → map figure (map as_figure ds) ≡ ds
map-forth [] = refl
map-forth (d ∷ ds) =
    let p : d + 48 - 48 ≡ d = omega arith in
    let q : map figure (map as_figure ds) ≡ ds = map-forth ds in
    cc

digits-small : (w : List ℕ) → all_of digit w ≡ true → all_of (λ (d : ℕ). ltb d 10) (map figure w) ≡ true
digits-small w t = rw all_map (all-weaken digit (λ (x : ℕ). ltb (figure x) 10) (λ x e. lt-ltb (figure x) 10 (figure-small x e)) w t)

-- A number in k figures.

pub length-in_figures : (k n : ℕ) → length (in_figures k n) ≡ k
length-in_figures k n = length-map (places 10 k n) as_figure ∙ length-places 10 k n

pub in_figures-digits : (k n : ℕ) → all_of digit (in_figures k n) ≡ true
in_figures-digits k n = rw all_map (all-weaken (λ (d : ℕ). ltb d 10) (λ (d : ℕ). digit (as_figure d)) as-figure-digit (places 10 k n) (places-small 10 (lit< tt) k n))

-- What a word counts that is read at all.

picked : (c : Bool) (x none : ℕ) → pick c x none < none → c ≡ true
picked true x none h = refl
picked false x none h = absurd (omega arith)

figures-good : (w : List ℕ) → figures_of w < 100000 → both (leb (length w) 5) (all_of digit w) ≡ true
unfolding figures_of
figures-good w h = picked (both (leb (length w) 5) (all_of digit w)) (worth 10 (map figure w)) 100000 h

pub figures-digits : (w : List ℕ) → figures_of w < 100000 → all_of digit w ≡ true
figures-digits w h = both_right (leb (length w) 5) (all_of digit w) (figures-good w h)

pub figures-worth : (w : List ℕ) → figures_of w < 100000 → figures_of w ≡ worth 10 (map figure w)
unfolding figures_of
figures-worth w h = pick_true (worth 10 (map figure w)) 100000 (figures-good w h)

pub figures-forth : (k n : ℕ) → k ≤ 5 → n < 10 ^ k → figures_of (in_figures k n) ≡ n
unfolding figures_of
figures-forth k n h l = rw (length-in_figures k n, le-leb k 5 h, in_figures-digits k n, map-forth (places 10 k n)) (worth-places 10 (lit< tt) k n l)

pub figures-back : (w : List ℕ) → figures_of w < 100000 → in_figures (length w) (figures_of w) ≡ w
figures-back w h =
    let small : all_of (λ (d : ℕ). ltb d 10) (map figure w) ≡ true = digits-small w (figures-digits w h) in
    rw (figures-worth w h, ← length-map w figure, places-worth 10 (map figure w) small) (map_back w (figures-digits w h))

-- a part that counts as figures is those figures
pub figures-part : (w : List ℕ) (a e : ℕ) → a ≤ e → e ≤ length w → figures_of (part a e w) < 100000 → part a e w ≡ in_figures (e - a) (figures_of (part a e w))
figures-part w a e h k l = sym (rw (length_part a e w h k) at (figures-back (part a e w) l))

-- The same below a limit.

-- a number that is known as m, capped
pub capped-below : (limit n m : ℕ) → n ≡ m → n < limit → n ≡ capped limit m
capped-below limit n m e h = rw (← e, lt-ltb n limit h)

pub capped_is : (limit n : ℕ) → capped limit n < limit → capped limit n ≡ n
capped_is limit n h = pick_true n limit (picked (ltb n limit) n limit h)

module _ (limit : ℕ) where
  pub capped-forth : (k n : ℕ) → k ≤ 5 → n < 10 ^ k → n < limit → capped limit (figures_of (in_figures k n)) ≡ n
  capped-forth k n h l m = sym (capped-below limit n (figures_of (in_figures k n)) (sym (figures-forth k n h l)) m)

  module _ (few : limit ≤ 100000) (w : List ℕ) (h : capped limit (figures_of w) < limit) where
    below : capped limit (figures_of w) ≡ figures_of w
    below = capped_is limit (figures_of w) h

    pub capped-back : in_figures (length w) (capped limit (figures_of w)) ≡ w
    capped-back = rw below (figures-back w (omega (arith, below)))

pub two-forth : (n : ℕ) → n < 100 → two_of (in_figures 2 n) ≡ n
two-forth n h = capped-forth 100 2 n (omega arith) h h

pub two_back : (w : List ℕ) → length w ≡ 2 → two_of w < 100 → in_figures 2 (two_of w) ≡ w
two_back w e h = rw e at (capped-back 100 (omega arith) w h)

pub three-forth : (k n : ℕ) → k ≤ 3 → n < 10 ^ k → three_of (in_figures k n) ≡ n
three-forth k n h l = capped-forth 1000 k n (omega arith) l (le_trans l (pow-le-pow_right (lit< tt) h))

pub three_back : (w : List ℕ) → three_of w < 1000 → in_figures (length w) (three_of w) ≡ w
three_back w h = capped-back 1000 (omega arith) w h

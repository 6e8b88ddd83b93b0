-- A coordinate's reader and its spelling undo one another, said once over the axis.
use mathlib.Core.Bool.{true}
use mathlib.Core.List.{List, [], ◌∷◌, ◌++◌, append-nil}
use mathlib.Core.Logic.{◌⊎◌, inl, inr}
use mathlib.Core.Path.{◌≡◌, refl, sym}
use Prim.Native.Nat.{ℕ, ◌+◌, ◌-◌, ◌^◌, ◌≤◌, ◌<◌}
use native.Mathlib.Nat.{pow-le-pow_right, le_trans, lt_of_le_of_lt}
use native.Mathlib.Numerals.{add-one}
use native.Mathlib.Omega.{arith}
use lib.Dec.{eqb, lit<, lit≤}
use lib.ListN.{length, take, drop, take-append-drop, length-append, length-drop}
use lib.Seq.{take_all, take_at, drop_at, length-take-le}
use borrow.Author.Tests.{eq-eqb, ne_eqb, eqb-true, eqb-false}
use Rattle.lists.specs.Lists.{part, all_of}
use Rattle.lists.proofs.Choice.{by, pick_true}
use Rattle.lists.proofs.Lists.{all_append}
use Rattle.words.specs.Bytes.{letter, plain}
use Rattle.words.specs.Words.{plain_word}
use Rattle.figures.specs.Figures.{two_of, three_of, in_figures}
use Rattle.figures.specs.Reads.{Reads, if_good}
use Rattle.figures.proofs.FigureLaws.{two-forth, two_back, three-forth, three_back, length-in_figures}
use Rattle.figures.proofs.ReadsLaws.{Back, if-good-back}
use Rattle.figures.proofs.PlainLaws.{letter-plain, in_figures-plain, plain-cons}
use Rattle.coordinates.specs.Coordinates.{Axis, north_south, east_west, coordinate_of, spell_coordinate, good_coordinate, no_coordinate}
use Rattle.coordinates.specs.declared.Coordinate.{Coordinate}
use Rattle.coordinates.proofs.Goodness.{good-parts, none-bad}
use Rattle.coordinates.proofs.Ways.{no_length}

module _ (a : Axis) where
  -- The two forms: what a word of each is read as, and how a coordinate of each is spelled. The letter is x, and `ds` and `ms` are
  -- the figures of the degrees and of the minutes.
  module _ (x : ℕ) (ds : List ℕ) (long : length ds ≡ a.width) where
    read-degrees : coordinate_of a (x ∷ ds) ≡ if_good (good_coordinate a) no_coordinate (record { letter = x; digits = a.width; degrees = three_of ds; minutes = 0 })
    unfolding coordinate_of
    read-degrees =
        let l : length (x ∷ ds) ≡ a.width + 1 = omega arith in
        let p : part 1 (a.width + 1) (x ∷ ds) ≡ ds = take_all (a.width + 1 - 1) ds (omega arith) in
        rw (l, eq-eqb (a.width + 1) (a.width + 1) refl, p)

    read-minutes : (ms : List ℕ) → length ms ≡ 2
        → coordinate_of a (x ∷ (ds ++ ms)) ≡ if_good (good_coordinate a) no_coordinate (record { letter = x; digits = a.width + 2; degrees = three_of ds; minutes = two_of ms })
    unfolding coordinate_of
    read-minutes ms two =
        let l : length (x ∷ (ds ++ ms)) ≡ a.width + 3 = omega (arith, length-append ds ms) in
        let e : a.width + 1 - 1 ≡ a.width = omega arith in
        let f : a.width + 3 - (a.width + 1) ≡ 2 = omega arith in
        let p : part 1 (a.width + 1) (x ∷ (ds ++ ms)) ≡ ds = rw e (take_at ds ms a.width long) in
        let q : part (a.width + 1) (a.width + 3) (x ∷ (ds ++ ms)) ≡ ms = rw (f, add-one, drop_at ds ms a.width long) (take_all 2 ms (omega arith)) in
        rw (l, ne_eqb (a.width + 3) (a.width + 1) (λ n. absurd (omega arith)), eq-eqb (a.width + 3) (a.width + 3) refl, p, q)

  spell-degrees : (c : Coordinate) → c.digits ≡ a.width → spell_coordinate a c ≡ c.letter ∷ in_figures a.width c.degrees
  unfolding spell_coordinate
  spell-degrees c e = rw (eq-eqb c.digits a.width e, append-nil)

  spell-minutes : (c : Coordinate) → c.digits ≡ a.width + 2 → spell_coordinate a c ≡ c.letter ∷ (in_figures a.width c.degrees ++ in_figures 2 c.minutes)
  unfolding spell_coordinate
  spell-minutes c e = rw (ne_eqb c.digits a.width (λ n. absurd (omega arith)))

  -- what a good coordinate's word is made of: one letter and its digits, which are bytes that a word may have
  module _ (p : letter a.plus ≡ true) (m : letter a.minus ≡ true) (c : Coordinate) (g : good_coordinate a c ≡ true) where
    letter-good : letter c.letter ≡ true
    letter-good = sides (good-parts a c g).side
      where
        sides : (c.letter ≡ a.plus) ⊎ (c.letter ≡ a.minus) → letter c.letter ≡ true
        sides (inl e) = rw e p
        sides (inr e) = rw e m

    pub spell-plain : plain_word (spell_coordinate a c) ≡ true
    spell-plain = by_form (good-parts a c g).form
      where
        by_form : ((c.digits ≡ a.width) × (c.minutes ≡ 0)) ⊎ (c.digits ≡ a.width + 2) → plain_word (spell_coordinate a c) ≡ true
        by_form (inl (e, z)) = rw (spell-degrees c e) (plain-cons c.letter (in_figures a.width c.degrees) (letter-plain c.letter letter-good) (in_figures-plain a.width c.degrees))
        by_form (inr e) =
            let d : List ℕ = in_figures a.width c.degrees in
            let m : List ℕ = in_figures 2 c.minutes in
            let all : all_of plain (d ++ m) ≡ true = rw (all_append plain d m, in_figures-plain a.width c.degrees, in_figures-plain 2 c.minutes) in
            rw (spell-minutes c e) (plain-cons c.letter (d ++ m) (letter-plain c.letter letter-good) all)

  pub spell-length : (c : Coordinate) → good_coordinate a c ≡ true → length (spell_coordinate a c) ≡ c.digits + 1
  spell-length c g = by_form (good-parts a c g).form
    where
      by_form : ((c.digits ≡ a.width) × (c.minutes ≡ 0)) ⊎ (c.digits ≡ a.width + 2) → length (spell_coordinate a c) ≡ c.digits + 1
      by_form (inl (e, z)) = rw (spell-degrees c e) (omega (arith, length-in_figures a.width c.degrees))
      by_form (inr e) =
          rw (spell-minutes c e)
          (omega (arith, length-append (in_figures a.width c.degrees) (in_figures 2 c.minutes), length-in_figures a.width c.degrees, length-in_figures 2 c.minutes))

  -- the word is not recognised, or is the spelling of the good coordinate that it is read as
  abbrev Settled : List ℕ → Type 0
  Settled w = Back (spell_coordinate a) (good_coordinate a) no_coordinate w (coordinate_of a w)

  settled : (c : Coordinate) (w : List ℕ) → coordinate_of a w ≡ if_good (good_coordinate a) no_coordinate c → (good_coordinate a c ≡ true → spell_coordinate a c ≡ w) → Settled w
  settled c w e s = rw e (if-good-back (spell_coordinate a) (good_coordinate a) no_coordinate w c s)

  module _ (short : a.width ≤ 3) (room : a.greatest < 10 ^ a.width) where
    few : (n : ℕ) → n ≤ a.greatest → n < 1000
    few n h = le_trans (lt_of_le_of_lt h room) (pow-le-pow_right (lit< tt) short)

    forth : (c : Coordinate) → good_coordinate a c ≡ true → coordinate_of a (spell_coordinate a c) ≡ c
    forth c g = by_form (good-parts a c g).form
      where
        degrees : three_of (in_figures a.width c.degrees) ≡ c.degrees
        degrees = three-forth a.width c.degrees short (omega (arith, (good-parts a c g).degrees))

        by_form : ((c.digits ≡ a.width) × (c.minutes ≡ 0)) ⊎ (c.digits ≡ a.width + 2) → coordinate_of a (spell_coordinate a c) ≡ c
        by_form (inl (e, m)) =
            let same : record { letter = c.letter; digits = a.width; degrees = three_of (in_figures a.width c.degrees); minutes = 0 } ≡ c = λ i. record { letter = c.letter; digits = sym e i; degrees = degrees i; minutes = sym m i } in
            rw (spell-degrees c e, read-degrees c.letter (in_figures a.width c.degrees) (length-in_figures a.width c.degrees), same) (pick_true c no_coordinate g)
        by_form (inr e) =
            let minutes : two_of (in_figures 2 c.minutes) ≡ c.minutes = two-forth c.minutes (omega (arith, (good-parts a c g).minutes)) in
            let same : record { letter = c.letter; digits = a.width + 2; degrees = three_of (in_figures a.width c.degrees); minutes = two_of (in_figures 2 c.minutes) } ≡ c = λ i. record { letter = c.letter; digits = sym e i; degrees = degrees i; minutes = minutes i } in
            rw (spell-minutes c e, read-minutes c.letter (in_figures a.width c.degrees) (length-in_figures a.width c.degrees) (in_figures 2 c.minutes) (length-in_figures 2 c.minutes), same) (pick_true c no_coordinate g)

    -- a part that counts no more than the greatest degree is its own figures
    figures-again : (ds : List ℕ) → length ds ≡ a.width → three_of ds ≤ a.greatest → in_figures a.width (three_of ds) ≡ ds
    figures-again ds long h = rw long at (three_back ds (few (three_of ds) h))

    back-degrees : (x : ℕ) (ds : List ℕ) → length ds ≡ a.width → Settled (x ∷ ds)
    back-degrees x ds long = settled c (x ∷ ds) (read-degrees x ds long) (λ g. rw (spell-degrees c refl, figures-again ds long (good-parts a c g).degrees))
      where
        c : Coordinate
        c = record { letter = x; digits = a.width; degrees = three_of ds; minutes = 0 }

    back-minutes : (x : ℕ) (ds ms : List ℕ) → length ds ≡ a.width → length ms ≡ 2 → Settled (x ∷ (ds ++ ms))
    back-minutes x ds ms long two = settled c (x ∷ (ds ++ ms)) (read-minutes x ds long ms two)
        (λ g. rw (spell-minutes c refl, figures-again ds long (good-parts a c g).degrees, two_back ms two (omega (arith, (good-parts a c g).minutes))))
      where
        c : Coordinate
        c = record { letter = x; digits = a.width + 2; degrees = three_of ds; minutes = two_of ms }

    back : (w : List ℕ) → Settled w
    back [] = inl (sym (no_length a [] (λ e. absurd (omega arith)) (λ e. absurd (omega arith))))
    back (x ∷ xs) = by (eqb (length xs) a.width)
        (λ e. back-degrees x xs (eqb-true (length xs) a.width e))
        (λ n. by (eqb (length xs) (a.width + 2))
        (λ e. in-minutes (eqb-true (length xs) (a.width + 2) e))
        (λ m. inl (sym (no_length a (x ∷ xs) (λ e. eqb-false (length xs) a.width n (omega arith)) (λ e. eqb-false (length xs) (a.width + 2) m (omega arith))))))
      where
        in-minutes : length xs ≡ a.width + 2 → Settled (x ∷ xs)
        in-minutes e = rw (take-append-drop a.width xs) at
            (back-minutes x (take a.width xs) (drop a.width xs) (length-take-le a.width xs (omega arith)) (omega (arith, length-drop a.width xs)))

    pub coordinate-reads : 0 < a.plus → 0 < a.minus → Reads (coordinate_of a) (spell_coordinate a) (good_coordinate a) no_coordinate
    coordinate-reads p m = record { forth = forth; back = back; refuses = none-bad a p m }

pub latitude-reads : Reads (coordinate_of north_south) (spell_coordinate north_south) (good_coordinate north_south) no_coordinate
latitude-reads = coordinate-reads north_south (lit≤ tt) (lit< tt) (lit< tt) (lit< tt)

pub longitude-reads : Reads (coordinate_of east_west) (spell_coordinate east_west) (good_coordinate east_west) no_coordinate
longitude-reads = coordinate-reads east_west (lit≤ tt) (lit< tt) (lit< tt) (lit< tt)

-- the words of good latitudes and longitudes
pub latitude-plain : (c : Coordinate) → good_coordinate north_south c ≡ true → plain_word (spell_coordinate north_south c) ≡ true
latitude-plain = spell-plain north_south refl refl

pub longitude-plain : (c : Coordinate) → good_coordinate east_west c ≡ true → plain_word (spell_coordinate east_west c) ≡ true
longitude-plain = spell-plain east_west refl refl

-- The ways out of the reader of a coordinate: what each says of the definition, in the shape of what the code knows there.
use mathlib.Core.Bool.{Bool, false}
use mathlib.Core.List.{List}
use mathlib.Core.Logic.{◌≢◌}
use mathlib.Core.Path.{◌≡◌, refl, sym, ◌∙◌}
use Prim.Native.Nat.{ℕ, ◌+◌, ◌-◌, ◌<◌, ◌≤◌}
use native.Mathlib.Omega.{arith}
use lib.Dec.{ltb}
use lib.ListN.{length, get_or, take, drop}
use borrow.Author.Tests.{eq-eqb, ne_eqb, ltb-false}
use Rattle.std.specs.Prelude.{Option, Some, None}
use Rattle.lists.specs.Choice.{found}
use Rattle.lists.specs.Lists.{part}
use Rattle.lists.proofs.Choice.{by}
use Rattle.lists.proofs.Found.{found-none, found-is, found-out}
use Rattle.figures.specs.Figures.{two_of, three_of}
use Rattle.figures.specs.Reads.{if_good}
use Rattle.coordinates.specs.Coordinates.{Axis, coordinate_of, good_coordinate, no_coordinate}
use Rattle.coordinates.specs.declared.Coordinate.{Coordinate}
use Rattle.coordinates.proofs.Goodness.{good-parts}

-- a value that is kept where it is good is found where it is good, if what stands for none is not
kept-found : {A : Type 0} (good : A → Bool) (none v : A) → good none ≡ false → found good (if_good good none v) ≡ found good v
kept-found good none v out = by (good v) (λ g. rw (g, g)) (λ f. rw (f, out))

module _ (a : Axis) (w : List ℕ) where
  pub no_length : length w ≢ a.width + 1 → length w ≢ a.width + 3 → no_coordinate ≡ coordinate_of a w
  unfolding coordinate_of
  no_length h k = rw (ne_eqb (length w) (a.width + 1) h, ne_eqb (length w) (a.width + 3) k)

  -- p is where the degrees end, on an axis whose degrees three figures count
  module _ (out : good_coordinate a no_coordinate ≡ false) (few : a.greatest < 1000) {p : ℕ} (past : p ≡ a.width + 1) where
    in-degrees-is : length w ≡ p
        → found (good_coordinate a) (coordinate_of a w) ≡ found (good_coordinate a) (record { letter = get_or w 0 0; digits = a.width; degrees = three_of (part 1 p w); minutes = 0 })
    unfolding coordinate_of
    in-degrees-is h = rw (h, past, eq-eqb (a.width + 1) (a.width + 1) refl) (kept-found (good_coordinate a) no_coordinate _ out)

    in-minutes-is : length w ≡ p + 2
        → found (good_coordinate a) (coordinate_of a w)
        ≡ found (good_coordinate a) (record { letter = get_or w 0 0; digits = a.width + 2; degrees = three_of (part 1 p w); minutes = two_of (take (length w - p) (drop p w)) })
    unfolding coordinate_of
    in-minutes-is h =
        let long : length w ≡ a.width + 3 = omega arith in
        rw (long, past, ne_eqb (a.width + 3) (a.width + 1) (λ f. absurd (omega arith)), eq-eqb (a.width + 3) (a.width + 3) refl)
        (kept-found (good_coordinate a) no_coordinate _ out)

    -- what counts too much is not good
    many-degrees : (c : Coordinate) → 1000 ≤ c.degrees → good_coordinate a c ≡ false
    many-degrees c h = by (good_coordinate a c) (λ g. absurd (omega (arith, (good-parts a c g).degrees))) (λ f. f)

    many-minutes : (c : Coordinate) → 100 ≤ c.minutes → good_coordinate a c ≡ false
    many-minutes c h = by (good_coordinate a c) (λ g. absurd (omega (arith, (good-parts a c g).minutes))) (λ f. f)

    pub other_length : length w ≢ p → length w ≢ p + 2 → None ≡ found (good_coordinate a) (coordinate_of a w)
    other_length h k = found-none (good_coordinate a) (no_length (λ e. absurd (omega arith)) (λ e. absurd (omega arith))) out

    -- the degrees are d
    pub in-degrees : {d : ℕ} {r : Option Coordinate} → length w ≡ p → found (λ n. ltb n 1000) (three_of (part 1 p w)) ≡ Some d
        → r ≡ found (good_coordinate a) (record { letter = get_or w 0 0; digits = a.width; degrees = d; minutes = 0 })
        → r ≡ found (good_coordinate a) (coordinate_of a w)
    in-degrees h t e = e ∙ sym (rw (found-is (λ n. ltb n 1000) t).0 at (in-degrees-is h))

    -- the degrees are d, and the minutes m
    pub in-minutes : {d m : ℕ} {r : Option Coordinate} → length w ≡ p + 2 → found (λ n. ltb n 1000) (three_of (part 1 p w)) ≡ Some d
        → found (λ n. ltb n 100) (two_of (take (length w - p) (drop p w))) ≡ Some m
        → r ≡ found (good_coordinate a) (record { letter = get_or w 0 0; digits = a.width + 2; degrees = d; minutes = m })
        → r ≡ found (good_coordinate a) (coordinate_of a w)
    in-minutes h t u e = e ∙ sym (rw ((found-is (λ n. ltb n 1000) t).0, (found-is (λ n. ltb n 100) u).0) at (in-minutes-is h))

    -- the degrees are none, or the minutes
    pub no-degrees : length w ≡ p → found (λ n. ltb n 1000) (three_of (part 1 p w)) ≡ None → None ≡ found (good_coordinate a) (coordinate_of a w)
    no-degrees h t =
        sym (in-degrees-is h ∙ sym (found-none (good_coordinate a) refl (many-degrees _ (ltb-false _ _ (found-out (λ n. ltb n 1000) t)))))

    pub no-degrees-then : length w ≡ p + 2 → found (λ n. ltb n 1000) (three_of (part 1 p w)) ≡ None → None ≡ found (good_coordinate a) (coordinate_of a w)
    no-degrees-then h t =
        sym (in-minutes-is h ∙ sym (found-none (good_coordinate a) refl (many-degrees _ (ltb-false _ _ (found-out (λ n. ltb n 1000) t)))))

    pub no-minutes : length w ≡ p + 2 → found (λ n. ltb n 100) (two_of (take (length w - p) (drop p w))) ≡ None → None ≡ found (good_coordinate a) (coordinate_of a w)
    no-minutes h t =
        sym (in-minutes-is h ∙ sym (found-none (good_coordinate a) refl (many-minutes _ (ltb-false _ _ (found-out (λ n. ltb n 100) t)))))

-- A level that is one word, and the word: reading and spelling undo one another.
use mathlib.Core.Bool.{Bool, true, false}
use mathlib.Core.List.{List, ◌∷◌, ◌++◌}
use mathlib.Core.Logic.{inl, inr}
use mathlib.Core.Path.{◌≡◌, refl, ap, sym, ◌∙◌}
use Prim.Native.Nat.{ℕ, ◌+◌, ◌-◌, ◌/◌, ◌%◌, ◌≤◌, ◌<◌, zero-le, suc-le-suc}
use Prim.Native.Char.{code}
use native.Mathlib.Nat.{mod-lt}
use native.Mathlib.Omega.{arith}
use lib.Dec.{ltb, eqb, lit<}
use lib.ListN.{length, get_or, take, drop}
use borrow.Author.Tests.{ltb-true, eqb-true, ne_eqb}
use Rattle.lists.specs.Choice.{pick, both}
use Rattle.lists.specs.Lists.{all_of, part, same}
use Rattle.lists.specs.Base.{places}
use Rattle.lists.specs.Text.{bytes}
use Rattle.lists.proofs.Choice.{by, clash, both_left, both_right}
use Rattle.lists.proofs.Lists.{same-is, all_append}
use Rattle.lists.proofs.Parts.{part-rest, drop-part, drop-one, drop-end}
use Rattle.words.specs.Bytes.{between, allowed, plain}
use Rattle.words.specs.Words.{plain_word}
use Rattle.words.proofs.Ranges.{between-low, between-high}
use Rattle.figures.specs.Figures.{figures_of, in_figures}
use Rattle.figures.specs.Reads.{Reads, if_good}
use Rattle.figures.specs.Codes.{code_of}
use Rattle.figures.proofs.CodeLaws.{same_code}
use Rattle.vocabulary.specs.Codes.{code-fl, code-surface, code-ft}
use Rattle.vocabulary.proofs.FixedWords.{fixed-fl, fixed-surface, fixed-ft}
use Rattle.figures.proofs.FigureLaws.{figures-forth, figures-part}
use Rattle.figures.proofs.ReadsLaws.{Back, if-good-back}
use Rattle.figures.proofs.PlainLaws.{in_figures-plain, run-plain}
use Rattle.levels.specs.declared.Level.{Level}
use Rattle.levels.specs.declared.Level.TheVariants.{NoLevel, Flight, SurfaceFlight, SurfaceMetres, SurfaceFeet, Band, TopFlight, AboveFlight, TopAboveFlight}
use Rattle.levels.specs.Levels.{flight, good_band, good_level_word, feet_figures, spell_level_word, five, surface_nine, band_nine, nine, ten_eleven, level_of, good_level, empty_level}

-- The fixed words in a level, by their codes.

pub flight_code : (w : List ℕ) → same w (bytes "FL") ≡ eqb (code_of w) code-fl
flight_code w = sym (same_code w (bytes "FL") fixed-fl.is-short) ∙ ap (eqb (code_of w)) fixed-fl.has

pub surface_code : (w : List ℕ) → same w (bytes "SFC/") ≡ eqb (code_of w) code-surface
surface_code w = sym (same_code w (bytes "SFC/") fixed-surface.is-short) ∙ ap (eqb (code_of w)) fixed-surface.has

pub feet_code : (w : List ℕ) → same w (bytes "FT") ≡ eqb (code_of w) code-ft
feet_code w = sym (same_code w (bytes "FT") fixed-ft.is-short) ∙ ap (eqb (code_of w)) fixed-ft.has

-- the end of a word from a place on
pub end_part : (w : List ℕ) (k : ℕ) → take (length w - k) (drop k w) ≡ drop k w
end_part w k = part-rest w k

band-low : (low high : ℕ) → good_band low high ≡ true → flight low ≡ true
band-low low high g = both_left (flight low) (both (flight high) (ltb low high)) g

band-high : (low high : ℕ) → good_band low high ≡ true → flight high ≡ true
band-high low high g = both_left (flight high) (ltb low high) (both_right (flight low) (both (flight high) (ltb low high)) g)

-- Forth. The figures are written out, so that the parts of a spelled word compute.

-- four figures do not begin as `FL` does
no-flight : (n : ℕ) → same (part 0 2 (in_figures 4 n)) (bytes "FL") ≡ false
unfolding same places
no-flight n = rw (ne_eqb (n / 10 / 10 / 10 % 10 + 48) 70 (λ e. omega (arith, mod-lt (n / 10 / 10 / 10) {m = 10} (lit< tt))))

-- so many feet, in four figures and in five
feet-forth : (n : ℕ) → between 1 99999 n ≡ true → level_of (bytes "SFC/" ++ (in_figures (feet_figures n) n ++ bytes "FT")) ≡ SurfaceFeet n
unfolding level_of places same
feet-forth n g =
    by (ltb n 10000)
    (λ e. rw (e, figures-forth 4 n (omega arith) (omega (arith, ltb-true n 10000 e)), g, e))
    (λ e. rw (e, figures-forth 5 n (omega arith) (omega (arith, between-high 1 99999 n g)), g, e))

forth : (l : Level) → good_level_word l ≡ true → level_of (spell_level_word l) ≡ l
unfolding level_of spell_level_word good_level_word places same
forth NoLevel g = clash false g refl
forth (Flight n) g = rw (figures-forth 3 n (omega arith) (omega (arith, between-high 1 999 n g)), g)
forth (SurfaceFlight n) g = rw (figures-forth 3 n (omega arith) (omega (arith, between-high 1 999 n g)), g)
forth (SurfaceMetres n) g = rw (no-flight n, figures-forth 4 n (omega arith) (omega (arith, between-high 1 9999 n g)), g)
forth (SurfaceFeet n) g = feet-forth n g
forth (Band low high) g =
    rw
    (figures-forth 3 low (omega arith) (omega (arith, between-high 1 999 low (band-low low high g))), figures-forth 3 high (omega arith) (omega (arith, between-high 1 999 high (band-high low high g))), g)
forth (TopFlight n) g = clash false g refl
forth (AboveFlight n) g = clash false g refl
forth (TopAboveFlight n) g = clash false g refl

-- Back. What is read from a word is no level, or a good one of which the word is the spelling.

abbrev Read : List ℕ → Level → Type 0
Read w l = Back spell_level_word good_level_word NoLevel w l

none : (w : List ℕ) → Read w NoLevel
none w = inl refl

picked : (w : List ℕ) (b : Bool) {x y : Level} → (b ≡ true → Read w x) → (b ≡ false → Read w y) → Read w (pick b x y)
picked w true p q = p refl
picked w false p q = q refl

chosen : (w : List ℕ) (b c : Bool) {x : Level} → (b ≡ true → c ≡ true → Read w x) → Read w (pick (both b c) x NoLevel)
chosen w b c p = picked w (both b c) (λ t. p (both_left b c t) (both_right b c t)) (λ f. none w)

spelled : (w : List ℕ) (l : Level) → (good_level_word l ≡ true → drop 0 w ≡ spell_level_word l) → Read w (if_good good_level_word NoLevel l)
spelled w l p = if-good-back spell_level_word good_level_word NoLevel w l (λ g. sym (p g))

-- the figures of a part whose number is in range
in-range : (w : List ℕ) (a e b : ℕ) → a ≤ e → e ≤ length w → b < 100000 → between 1 b (figures_of (part a e w)) ≡ true → part a e w ≡ in_figures (e - a) (figures_of (part a e w))
in-range w a e b h k l t = figures-part w a e h k (omega (arith, between-high 1 b (figures_of (part a e w)) t))

five-back : (w : List ℕ) → length w ≡ 5 → Read w (five w)
unfolding good_level_word spell_level_word
five-back w n =
    picked w (same (part 0 2 w) (bytes "FL"))
    (λ fl. spelled w (Flight (figures_of (part 2 5 w))) (λ g. drop-part w 0 2 (omega arith) (same-is _ _ fl) (drop-end w 2 5 n (in-range w 2 5 999 (omega arith) (omega arith) (omega arith) g))))
    (λ f. none w)

module _ (w : List ℕ) (n : length w ≡ 9) where
  surface-back : part 0 4 w ≡ bytes "SFC/" → Read w (surface_nine w)
  unfolding good_level_word spell_level_word
  surface-back sfc =
      picked w (same (part 4 6 w) (bytes "FL"))
      (λ fl. spelled w (SurfaceFlight (figures_of (part 6 9 w))) (λ g. drop-part w 0 4 (omega arith) sfc (drop-part w 4 6 (omega arith) (same-is _ _ fl) (drop-end w 6 9 n (in-range w 6 9 999 (omega arith) (omega arith) (omega arith) g)))))
      (λ f. picked w (eqb (get_or w 8 0) (code "M"))
      (λ m. spelled w (SurfaceMetres (figures_of (part 4 8 w))) (λ g. drop-part w 0 4 (omega arith) sfc (drop-part w 4 8 (omega arith) (in-range w 4 8 9999 (omega arith) (omega arith) (omega arith) g) (drop-one w 8 0 (omega arith) (eqb-true _ _ m) (drop-end w 9 9 n refl)))))
      (λ f. none w))

  band-back : Read w (band_nine w)
  unfolding good_level_word spell_level_word
  band-back =
      chosen w (same (part 0 2 w) (bytes "FL")) (eqb (get_or w 5 0) (code "/"))
      (λ fl s. spelled w (Band (figures_of (part 2 5 w)) (figures_of (part 6 9 w))) (λ g. drop-part w 0 2 (omega arith) (same-is _ _ fl)
      (drop-part w 2 5 (omega arith) (in-range w 2 5 999 (omega arith) (omega arith) (omega arith) (band-low (figures_of (part 2 5 w)) (figures_of (part 6 9 w)) g))
      (drop-one w 5 0 (omega arith) (eqb-true _ _ s) (drop-end w 6 9 n (in-range w 6 9 999 (omega arith) (omega arith) (omega arith) (band-high (figures_of (part 2 5 w)) (figures_of (part 6 9 w)) g)))))))

  nine-back : Read w (nine w)
  nine-back = picked w (same (part 0 4 w) (bytes "SFC/")) (λ sfc. surface-back (same-is _ _ sfc)) (λ f. band-back)

feet-back : (w : List ℕ) → 10 ≤ length w → Read w (ten_eleven w)
unfolding good_level_word spell_level_word
feet-back w n =
    chosen w (same (part 0 4 w) (bytes "SFC/")) (same (drop (length w - 2) w) (bytes "FT"))
    (λ sfc ft. chosen w (between 1 99999 (figures_of (part 4 (length w - 2) w))) (eqb (feet_figures (figures_of (part 4 (length w - 2) w))) (length w - 6))
    (λ g k. let few : length w - 2 - 4 ≡ feet_figures (figures_of (part 4 (length w - 2) w)) = omega (arith, eqb-true (feet_figures (figures_of (part 4 (length w - 2) w))) (length w - 6) k) in
    inr (
      g,
      sym (drop-part w 0 4 (omega arith) (same-is _ _ sfc)
          (drop-part w 4 (length w - 2) (omega arith) (in-range w 4 (length w - 2) 99999 (omega arith) (omega arith) (omega arith) g ∙ ap (λ (i : ℕ). in_figures i (figures_of (part 4 (length w - 2) w))) few) (same-is _ _ ft))),
    )))

back : (w : List ℕ) → Read w (level_of w)
unfolding level_of
back w =
    picked w (eqb (length w) 5) (λ e. five-back w (eqb-true _ _ e))
    (λ f. picked w (eqb (length w) 9) (λ e. nine-back w (eqb-true _ _ e))
    (λ f. picked w (between 10 11 (length w)) (λ e. feet-back w (between-low 10 11 (length w) e)) (λ f. none w)))

pub level-reads : Reads level_of spell_level_word good_level_word NoLevel
unfolding good_level_word
level-reads = record { forth = forth; back = back; refuses = refl }

-- The judgements.

pub empty-level-is : (l : Level) → empty_level l ≡ true → l ≡ NoLevel
unfolding empty_level
empty-level-is NoLevel t = refl
empty-level-is (Flight n) t = clash false t refl
empty-level-is (SurfaceFlight n) t = clash false t refl
empty-level-is (SurfaceMetres n) t = clash false t refl
empty-level-is (SurfaceFeet n) t = clash false t refl
empty-level-is (Band low high) t = clash false t refl
empty-level-is (TopFlight n) t = clash false t refl
empty-level-is (AboveFlight n) t = clash false t refl
empty-level-is (TopAboveFlight n) t = clash false t refl

pub good-level-word : (l : Level) → good_level_word l ≡ true → good_level l ≡ true
unfolding good_level good_level_word
good-level-word NoLevel g = g
good-level-word (Flight n) g = g
good-level-word (SurfaceFlight n) g = g
good-level-word (SurfaceMetres n) g = g
good-level-word (SurfaceFeet n) g = g
good-level-word (Band low high) g = g
good-level-word (TopFlight n) g = clash false g refl
good-level-word (AboveFlight n) g = clash false g refl
good-level-word (TopAboveFlight n) g = clash false g refl

-- What is spelled is a word of plain bytes.

-- figures and a fixed word after them
before : (k n : ℕ) (s : List ℕ) → all_of plain s ≡ true → all_of plain (in_figures k n ++ s) ≡ true
before k n s t = rw (all_append plain (in_figures k n) s, in_figures-plain k n, t)

pub level-plain : (l : Level) → good_level_word l ≡ true → plain_word (spell_level_word l) ≡ true
unfolding spell_level_word good_level_word all_of allowed
level-plain NoLevel g = clash false g refl
level-plain (Flight n) g = run-plain (spell_level_word (Flight n)) (suc-le-suc zero-le) (in_figures-plain 3 n)
level-plain (SurfaceFlight n) g = run-plain (spell_level_word (SurfaceFlight n)) (suc-le-suc zero-le) (in_figures-plain 3 n)
level-plain (SurfaceMetres n) g = run-plain (spell_level_word (SurfaceMetres n)) (suc-le-suc zero-le) (before 4 n (bytes "M") refl)
level-plain (SurfaceFeet n) g = run-plain (spell_level_word (SurfaceFeet n)) (suc-le-suc zero-le) (before (feet_figures n) n (bytes "FT") refl)
level-plain (Band low high) g = run-plain (spell_level_word (Band low high)) (suc-le-suc zero-le) (before 3 low (code "/" ∷ in_figures 3 high) (in_figures-plain 3 high))
level-plain (TopFlight n) g = clash false g refl
level-plain (AboveFlight n) g = clash false g refl
level-plain (TopAboveFlight n) g = clash false g refl

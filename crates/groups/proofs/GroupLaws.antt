-- Groups, periods and times: word and value undo one another, and what is spelled holds neither a blank nor `=`.
use mathlib.Core.Bool.{Bool, true}
use mathlib.Core.List.{List, ◌∷◌, ◌++◌}
use mathlib.Core.Path.{◌≡◌, refl, ◌∙◌}
use Prim.Native.Nat.{ℕ, ◌+◌, ◌≤◌, ◌<◌}
use Prim.Native.Char.{code}
use native.Mathlib.Omega.{arith}
use lib.Dec.{leb, eqb}
use lib.ListN.{length, length-append}
use borrow.Author.Tests.{leb-true, eqb-true, eq-eqb}
use Rattle.lists.specs.Lists.{all_of, part}
use Rattle.lists.specs.Text.{bytes}
use Rattle.lists.proofs.Choice.{both_left, both_right}
use Rattle.lists.proofs.Lists.{all_append, length_part}
use Rattle.lists.proofs.Parts.{part-whole, part-here, part-past, at-past, part_join, part-cons, marked, marked-true, marked-long, marked-at}
use Rattle.words.specs.Bytes.{between, allowed, plain}
use Rattle.words.specs.Words.{plain_word}
use Rattle.words.proofs.Ranges.{between-high}
use Rattle.figures.specs.Figures.{in_figures, two_of}
use Rattle.figures.specs.Reads.{Reads}
use Rattle.figures.proofs.FigureLaws.{length-in_figures, two-forth, two_back}
use Rattle.figures.proofs.ReadsLaws.{if-good-reads, reads-spelled}
use Rattle.figures.proofs.PlainLaws.{in_figures-plain, run-plain}
use Rattle.groups.specs.Groups.{on_clock, good_group, no_group, group_of, spell_group, good_period, no_period, period_of, spell_period, good_time, no_time, time_of, spell_time}
use Rattle.groups.specs.declared.Group.{Group}
use Rattle.groups.specs.declared.Period.{Period}
use Rattle.groups.specs.declared.Time.{Time}

-- Values made of equal parts.

pub group-made : {d h m x y z : ℕ} → d ≡ x → h ≡ y → m ≡ z → ◌≡◌ {A = Group} (record { day = d; hour = h; minute = m }) (record { day = x; hour = y; minute = z })
group-made p q r = cc

pub time-made : {h m x y : ℕ} → h ≡ x → m ≡ y → ◌≡◌ {A = Time} (record { hour = h; minute = m }) (record { hour = x; minute = y })
time-made p q = cc

-- Two figures of a spelling, and of a word.

two_here : (n : ℕ) (ys : List ℕ) → n < 100 → two_of (part 0 2 (in_figures 2 n ++ ys)) ≡ n
two_here n ys h = rw (part-here (in_figures 2 n) ys 2 (length-in_figures 2 n)) (two-forth n h)

two_past : (n : ℕ) (ys : List ℕ) (a e : ℕ) → part (2 + a) (2 + e) (in_figures 2 n ++ ys) ≡ part a e ys
two_past n ys a e = part-past (in_figures 2 n) ys 2 a e (length-in_figures 2 n)

two-part : (w : List ℕ) (a : ℕ) → a + 2 ≤ length w → two_of (part a (a + 2) w) < 100 → in_figures 2 (two_of (part a (a + 2) w)) ≡ part a (a + 2) w
two-part w a k h = two_back (part a (a + 2) w) (omega (arith, length_part a (a + 2) w (omega arith) k)) h

-- What is good has two figures.

clock-hour : (h m : ℕ) → on_clock h m ≡ true → h < 100
clock-hour h m g = omega (arith, leb-true h 23 (both_left (leb h 23) (leb m 59) g))

clock-minute : (h m : ℕ) → on_clock h m ≡ true → m < 100
clock-minute h m g = omega (arith, leb-true m 59 (both_right (leb h 23) (leb m 59) g))

module _ (g : Group) (t : good_group g ≡ true) where
  good-day : g.day < 100
  unfolding good_group
  good-day = omega (arith, between-high 1 31 g.day (both_left (between 1 31 g.day) (on_clock g.hour g.minute) t))

  good-clock : on_clock g.hour g.minute ≡ true
  unfolding good_group
  good-clock = both_right (between 1 31 g.day) (on_clock g.hour g.minute) t

-- The group.

pub length-group : (g : Group) → length (spell_group g) ≡ 6
unfolding spell_group
length-group g =
    rw (length-append (in_figures 2 g.day), length-append (in_figures 2 g.hour), length-in_figures 2 g.day, length-in_figures 2 g.hour, length-in_figures 2 g.minute)

abbrev group_value : List ℕ → Group
group_value w = record { day = two_of (part 0 2 w); hour = two_of (part 2 4 w); minute = two_of (part 4 6 w) }

group-gives : (g : Group) → good_group g ≡ true → group_value (spell_group g) ≡ g
unfolding spell_group
group-gives g t =
    let clock : on_clock g.hour g.minute ≡ true = good-clock g t in
    let h : List ℕ = in_figures 2 g.hour in
    let m : List ℕ = in_figures 2 g.minute in
    rw (
      two_here g.day (h ++ m) (good-day g t),
      two_past g.day (h ++ m) 0 2,
      two_here g.hour m (clock-hour g.hour g.minute clock),
      two_past g.day (h ++ m) 2 4,
      two_past g.hour m 0 2,
      part-whole m 2 (length-in_figures 2 g.minute),
      two-forth g.minute (clock-minute g.hour g.minute clock),
    )

group-spelled : (w : List ℕ) → eqb (length w) 6 ≡ true → good_group (group_value w) ≡ true → spell_group (group_value w) ≡ w
unfolding spell_group
group-spelled w e t =
    let l : length w ≡ 6 = eqb-true (length w) 6 e in
    let clock : on_clock (two_of (part 2 4 w)) (two_of (part 4 6 w)) ≡ true = good-clock (group_value w) t in
    rw (
      two-part w 0 (omega arith) (good-day (group_value w) t),
      two-part w 2 (omega arith) (clock-hour (two_of (part 2 4 w)) (two_of (part 4 6 w)) clock),
      two-part w 4 (omega arith) (clock-minute (two_of (part 2 4 w)) (two_of (part 4 6 w)) clock),
      part_join w 2 4 6 (omega arith) (omega arith),
      part_join w 0 2 6 (omega arith) (omega arith),
    )
    (part-whole w 6 l)

pub group_reads : Reads group_of spell_group good_group no_group
unfolding group_of good_group
group_reads =
    if-good-reads (λ (w : List ℕ). eqb (length w) 6) group_value spell_group good_group no_group (λ g t. eq-eqb (length (spell_group g)) 6 (length-group g)) group-gives group-spelled refl

-- The period.

pub length-period : (p : Period) → length (spell_period p) ≡ 13
unfolding spell_period
length-period p = rw (length-append (spell_group p.from), length-group p.from, length-group p.to)

abbrev period_test : List ℕ → Bool
period_test w = marked 13 6 (code "/") w

abbrev period_value : List ℕ → Period
period_value w = record { from = group_of (part 0 6 w); to = group_of (part 7 13 w) }

period-passes : (p : Period) → good_period p ≡ true → period_test (spell_period p) ≡ true
unfolding spell_period
period-passes p t =
    marked-true 13 6 (code "/") (spell_period p) (length-period p)
    (at-past (spell_group p.from) (code "/" ∷ spell_group p.to) 6 0 0 (length-group p.from))

period-gives : (p : Period) → good_period p ≡ true → period_value (spell_period p) ≡ p
unfolding spell_period good_period
period-gives p t =
    rw (
      part-here (spell_group p.from) (code "/" ∷ spell_group p.to) 6 (length-group p.from),
      part-past (spell_group p.from) (code "/" ∷ spell_group p.to) 6 1 7 (length-group p.from),
      part-whole (spell_group p.to) 6 (length-group p.to),
      group_reads.forth p.from (both_left (good_group p.from) (good_group p.to) t),
      group_reads.forth p.to (both_right (good_group p.from) (good_group p.to) t),
    )

period-spelled : (w : List ℕ) → period_test w ≡ true → good_period (period_value w) ≡ true → spell_period (period_value w) ≡ w
unfolding spell_period good_period
period-spelled w e t =
    let l : length w ≡ 13 = marked-long 13 6 (code "/") w e in
    let from : List ℕ = part 0 6 w in
    let to : List ℕ = part 7 13 w in
    rw (
      reads-spelled group_reads from (both_left (good_group (group_of from)) (good_group (group_of to)) t),
      reads-spelled group_reads to (both_right (good_group (group_of from)) (good_group (group_of to)) t),
      part-cons w 6 13 0 (code "/") (omega arith) (omega arith) (marked-at 13 6 (code "/") w e),
      part_join w 0 6 13 (omega arith) (omega arith),
    )
    (part-whole w 13 l)

pub period-reads : Reads period_of spell_period good_period no_period
unfolding period_of good_period good_group
period-reads = if-good-reads period_test period_value spell_period good_period no_period period-passes period-gives period-spelled refl

-- The time.

pub length-time : (t : Time) → length (spell_time t) ≡ 5
unfolding spell_time
length-time t = rw (length-append (in_figures 2 t.hour), length-append (in_figures 2 t.minute), length-in_figures 2 t.hour, length-in_figures 2 t.minute)

abbrev time_test : List ℕ → Bool
time_test w = marked 5 4 (code "Z") w

abbrev time_value : List ℕ → Time
time_value w = record { hour = two_of (part 0 2 w); minute = two_of (part 2 4 w) }

time-passes : (t : Time) → good_time t ≡ true → time_test (spell_time t) ≡ true
unfolding spell_time
time-passes t g =
    marked-true 5 4 (code "Z") (spell_time t) (length-time t)
    (at-past (in_figures 2 t.hour) (in_figures 2 t.minute ++ bytes "Z") 2 2 0 (length-in_figures 2 t.hour)
    ∙ at-past (in_figures 2 t.minute) (bytes "Z") 2 0 0 (length-in_figures 2 t.minute))

time-gives : (t : Time) → good_time t ≡ true → time_value (spell_time t) ≡ t
unfolding spell_time good_time
time-gives t g =
    let m : List ℕ = in_figures 2 t.minute ++ bytes "Z" in
    rw (
      two_here t.hour m (clock-hour t.hour t.minute g),
      two_past t.hour m 0 2,
      two_here t.minute (bytes "Z") (clock-minute t.hour t.minute g),
    )

time-spelled : (w : List ℕ) → time_test w ≡ true → good_time (time_value w) ≡ true → spell_time (time_value w) ≡ w
unfolding spell_time good_time
time-spelled w e g =
    let l : length w ≡ 5 = marked-long 5 4 (code "Z") w e in
    rw (
      two-part w 0 (omega arith) (clock-hour (two_of (part 0 2 w)) (two_of (part 2 4 w)) g),
      two-part w 2 (omega arith) (clock-minute (two_of (part 0 2 w)) (two_of (part 2 4 w)) g),
      part-cons w 4 5 0 (code "Z") (omega arith) (omega arith) (marked-at 5 4 (code "Z") w e),
      part_join w 2 4 5 (omega arith) (omega arith),
      part_join w 0 2 5 (omega arith) (omega arith),
    )
    (part-whole w 5 l)

pub time-reads : Reads time_of spell_time good_time no_time
unfolding time_of good_time
time-reads = if-good-reads time_test time_value spell_time good_time no_time time-passes time-gives time-spelled refl

-- What is spelled is a word of plain bytes.

group-bytes : (g : Group) → all_of plain (spell_group g) ≡ true
unfolding spell_group
group-bytes g =
    rw (all_append plain (in_figures 2 g.day), all_append plain (in_figures 2 g.hour), in_figures-plain 2 g.day, in_figures-plain 2 g.hour, in_figures-plain 2 g.minute)

pub group-plain : (g : Group) → plain_word (spell_group g) ≡ true
group-plain g = run-plain (spell_group g) (omega (arith, length-group g)) (group-bytes g)

pub period-plain : (p : Period) → plain_word (spell_period p) ≡ true
unfolding spell_period all_of allowed
period-plain p =
    run-plain (spell_period p) (omega (arith, length-period p))
    (rw (all_append plain (spell_group p.from), group-bytes p.from) (group-bytes p.to))

pub time-plain : (t : Time) → plain_word (spell_time t) ≡ true
unfolding spell_time all_of allowed
time-plain t =
    run-plain (spell_time t) (omega (arith, length-time t))
    (rw (all_append plain (in_figures 2 t.hour), all_append plain (in_figures 2 t.minute), in_figures-plain 2 t.hour, in_figures-plain 2 t.minute))

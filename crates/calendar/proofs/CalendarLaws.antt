-- What a start, an end and a target's start are found to be is what the paper says they are.
use mathlib.Core.Bool.{Bool, true, false}
use mathlib.Core.Path.{◌≡◌, refl, sym, ap, subst, ◌∙◌}
use Prim.Native.Nat.{ℕ, ◌+◌, ◌-◌, ◌*◌, ◌/◌, ◌%◌, ◌≤◌, ◌<◌}
use native.Mathlib.Omega.{arith}
use lib.Dec.{leb, ltb, eqb}
use borrow.Author.Tests.{leb-true, leb-false, ltb-true, ltb-false, eqb-true, eqb-false, le-leb, lt-ltb, eq-eqb}
use Rattle.lists.specs.Choice.{both}
use Rattle.lists.proofs.Choice.{by, clash, both_left, both_right, both_true, both-four, pick_true, pick-false}
use Rattle.groups.specs.declared.Group.{Group}
use Rattle.calendar.specs.Gregorian.{month_length, first_day, never, Falls}
use Rattle.calendar.specs.Instants.{day_from, day_of_month, matches, minute_on, on_day, or_else, instant_in, start_of, end_of, target_of}
use Rattle.calendar.specs.Meanings.{limit_of, Has, IsStart, IsEnd, IsTarget}
use Rattle.calendar.proofs.MonthLaws.{first-gap, day-of-month}
use Rattle.calendar.proofs.CenturyLaws.{falls-some}

-- An instant that has the group, by the test and in the paper's words.

module _ (g : Group) (t : ℕ) where
  abbrev on_date : Bool
  on_date = eqb (day_of_month (t / 1440)) g.day

  abbrev at_hour : Bool
  at_hour = eqb (t / 60 % 24) g.hour

  abbrev at_minute : Bool
  at_minute = eqb (t % 60) g.minute

  pub matches-has : matches g t ≡ true → Has g t
  unfolding matches
  matches-has e =
      let four = both-four (ltb t never) on_date at_hour at_minute e in
      let instant : t < never = ltb-true t never four.0 in
      let month : (m : ℕ) × Falls (t / 1440) m = falls-some (t / 1440) (omega arith) in
      let date : day_of_month (t / 1440) ≡ g.day = eqb-true (day_of_month (t / 1440)) g.day four.1 in
      record {
        instant = instant;
        month = month.0;
        falls = month.1;
        day = omega (arith, day-of-month month.1);
        hour = eqb-true (t / 60 % 24) g.hour four.2;
        minute = eqb-true (t % 60) g.minute four.3;
      }

  pub has-matches : Has g t → matches g t ≡ true
  unfolding matches
  has-matches h =
      both_true (lt-ltb t never h.instant)
      (both_true (eq-eqb (day_of_month (t / 1440)) g.day (omega (arith, day-of-month h.falls)))
      (both_true (eq-eqb (t / 60 % 24) g.hour h.hour) (eq-eqb (t % 60) g.minute h.minute)))

-- Days that are the same one of two months lie as far apart as the months' first days.

not-soon : {g : Group} {t u : ℕ} (p : Has g t) (q : Has g u) → t / 1440 ≤ u / 1440 + 2 → u / 1440 ≤ t / 1440 + 2 → p.month < q.month → ⊥
not-soon p q h k l = omega (arith, first-gap p.month q.month l)

same-day : {g : Group} {t u : ℕ} (p : Has g t) (q : Has g u) → t / 1440 ≤ u / 1440 + 2 → u / 1440 ≤ t / 1440 + 2 → t / 1440 ≡ u / 1440
same-day p q h k =
    by (ltb p.month q.month)
    (λ (t : ltb p.month q.month ≡ true). absurd (not-soon p q h k (ltb-true p.month q.month t)))
    (λ (t : ltb p.month q.month ≡ false).
    by (ltb q.month p.month)
    (λ (u : ltb q.month p.month ≡ true). absurd (not-soon q p k h (ltb-true q.month p.month u)))
    (λ (u : ltb q.month p.month ≡ false).
    let same : p.month ≡ q.month = omega (arith, ltb-false p.month q.month t, ltb-false q.month p.month u) in
    omega (arith, ap first_day same)))

-- an instant by its day, hour and minute
pub in_parts : (t : ℕ) → t ≡ t / 1440 * 1440 + (t / 60 % 24 * 60 + t % 60)
in_parts t = omega arith

pub has_parts : {g : Group} {t : ℕ} → Has g t → minute_on g (t / 1440) ≡ t
has_parts {g} {t} h = omega (arith, in_parts t, h.hour, h.minute)

-- "the one instant": two that have the group and lie in a stretch of 2,881 minutes are one
pub only_one : {g : Group} {t u : ℕ} (low high : ℕ) → high ≤ low + 2881 → low ≤ t → t < high → low ≤ u → u < high → Has g t → Has g u → t ≡ u
only_one {g} {t} {u} low high w a b c d p q =
    let same : t / 1440 ≡ u / 1440 = same-day p q (omega arith) (omega arith) in
    omega (arith, has_parts p, has_parts q)

-- An instant of a stretch that has the group.

pub record In (g : Group) (low high t : ℕ) : Type 0 where
  pub has : Has g t
  pub from : low ≤ t
  pub until : t < high

module _ (g : Group) (low high : ℕ) where
  abbrev window : ℕ → Bool
  window t = both (leb low t) (ltb t high)

  tested : (t : ℕ) → both (window t) (matches g t) ≡ true → In g low high t
  tested t e =
      let inside : window t ≡ true = both_left (window t) (matches g t) e in
      record {
        has = matches-has g t (both_right (window t) (matches g t) e);
        from = leb-true low t (both_left (leb low t) (ltb t high) inside);
        until = ltb-true t high (both_right (leb low t) (ltb t high) inside);
      }

  passes : (t : ℕ) → In g low high t → both (window t) (matches g t) ≡ true
  passes t i = both_true (both_true (le-leb low t i.from) (lt-ltb t high i.until)) (has-matches g t i.has)

  -- one day

  pub on-there : (day : ℕ) → In g low high (minute_on g day) → on_day g low high day ≡ minute_on g day
  unfolding on_day
  on-there day i = pick_true (minute_on g day) never (passes (minute_on g day) i)

  pub on_none : (day : ℕ) → (In g low high (minute_on g day) → ⊥) → on_day g low high day ≡ never
  unfolding on_day
  on_none day no_one =
      by (both (window (minute_on g day)) (matches g (minute_on g day)))
      (λ (t : both (window (minute_on g day)) (matches g (minute_on g day)) ≡ true). absurd (no_one (tested (minute_on g day) t)))
      (λ (t : both (window (minute_on g day)) (matches g (minute_on g day)) ≡ false). pick-false (minute_on g day) never t)

  pub data Found : ℕ → Type 0 where
    found : {t : ℕ} → In g low high t → Found t
    none : Found never

  on-result : (day : ℕ) → Found (on_day g low high day)
  on-result day =
      by (both (window (minute_on g day)) (matches g (minute_on g day)))
      (λ (t : both (window (minute_on g day)) (matches g (minute_on g day)) ≡ true).
      let i : In g low high (minute_on g day) = tested (minute_on g day) t in
      rw (on-there day i) (found i))
      (λ (t : both (window (minute_on g day)) (matches g (minute_on g day)) ≡ false).
      rw (on_none day (λ i. clash _ (passes (minute_on g day) i) t)) none)

  or-found : {a b : ℕ} → Found a → Found b → Found (or_else a b)
  or-found {a} {b} (found i) q = rw (lt-ltb a never i.has.instant) (found i)
  or-found none q = q

  in-result : Found (instant_in g low high)
  unfolding instant_in
  in-result = or-found (on-result (low / 1440)) (or-found (on-result (low / 1440 + 1)) (on-result (low / 1440 + 2)))

  is_found : {t : ℕ} → Found t → t < never → In g low high t
  is_found (found i) h = i
  is_found none h = absurd (omega arith)

  is_bound : {t : ℕ} → Found t → t ≤ never
  is_bound (found i) = omega (arith, i.has.instant)
  is_bound none = omega arith

  -- what is found lies in the stretch and has the group
  pub in-found : instant_in g low high < never → In g low high (instant_in g low high)
  in-found h = is_found in-result h

  pub in-bound : instant_in g low high ≤ never
  in-bound = is_bound in-result

  module _ (wide : high ≤ low + 2881) (t : ℕ) (i : In g low high t) where
    on-its-day : (day : ℕ) → t / 1440 ≡ day → on_day g low high day ≡ t
    on-its-day day e =
        let here : minute_on g day ≡ t = ap (minute_on g) (sym e) ∙ has_parts i.has in
        on-there day (subst (In g low high) (sym here) i) ∙ here

    or_left : {a : ℕ} (b : ℕ) → a ≡ t → or_else a b ≡ t
    or_left {a} b e = pick_true a b (lt-ltb a never (omega (arith, i.has.instant))) ∙ e

    or_right : {a b : ℕ} → Found a → b ≡ t → or_else a b ≡ t
    or_right {a} {b} (found j) e =
        or_left b (only_one low high wide j.from j.until i.from i.until j.has i.has)
    or_right none e = e

    -- an instant of the stretch that has the group is found
    pub in-complete : instant_in g low high ≡ t
    unfolding instant_in
    in-complete =
        by (eqb (t / 1440) (low / 1440))
        (λ (e : eqb (t / 1440) (low / 1440) ≡ true). or_left _ (on-its-day (low / 1440) (eqb-true (t / 1440) (low / 1440) e)))
        (λ (e : eqb (t / 1440) (low / 1440) ≡ false). or_right (on-result (low / 1440))
        (by (eqb (t / 1440) (low / 1440 + 1))
        (λ (f : eqb (t / 1440) (low / 1440 + 1) ≡ true). or_left _ (on-its-day (low / 1440 + 1) (eqb-true (t / 1440) (low / 1440 + 1) f)))
        (λ (f : eqb (t / 1440) (low / 1440 + 1) ≡ false). or_right (on-result (low / 1440 + 1))
        (on-its-day (low / 1440 + 2) (omega (arith, eqb-false (t / 1440) (low / 1440) e, eqb-false (t / 1440) (low / 1440 + 1) f, i.from, i.until))))))

-- an instant is never `never`
absent : {g : Group} {t n : ℕ} → n ≡ never → n ≡ t → Has g t → ⊥
absent e f h = omega (arith, h.instant)

pub limit-most : (kind : ℕ) → limit_of kind ≤ 360
limit-most kind =
    by (eqb kind 2)
    (λ (t : eqb kind 2 ≡ true). rw t (omega arith))
    (λ (t : eqb kind 2 ≡ false). rw t (omega arith))

-- A start.

module _ (clock : ℕ) (g : Group) where
  in_start : {t : ℕ} → IsStart clock g t → In g (clock - 1440) (clock + 1441) t
  in_start s = record { has = s.has; from = omega (arith, s.no-earlier); until = omega (arith, s.no-later) }

  pub start-found : start_of clock g < never → IsStart clock g (start_of clock g)
  unfolding start_of
  start-found h =
      let i = in-found g (clock - 1440) (clock + 1441) h in
      record { has = i.has; no-earlier = omega (arith, i.from); no-later = omega (arith, i.until) }

  pub start-bound : start_of clock g ≤ never
  unfolding start_of
  start-bound = in-bound g (clock - 1440) (clock + 1441)

pub start-complete : {clock : ℕ} {g : Group} {t : ℕ} → IsStart clock g t → start_of clock g ≡ t
unfolding start_of
start-complete {clock} {g} {t} s = in-complete g (clock - 1440) (clock + 1441) (omega arith) t (in_start clock g s)

pub start-only : {clock : ℕ} {g : Group} {t u : ℕ} → IsStart clock g t → IsStart clock g u → t ≡ u
start-only r s = sym (start-complete r) ∙ start-complete s

pub start_none : (clock : ℕ) (g : Group) → start_of clock g ≡ never → (t : ℕ) → IsStart clock g t → ⊥
start_none clock g e t s = absent e (start-complete s) s.has

-- An end.

module _ (kind start : ℕ) (g : Group) where
  abbrev end_in : ℕ → Type 0
  end_in t = In g (start + 1) (start + limit_of kind + 1) t

  in_end : {t : ℕ} → IsEnd kind start g t → end_in t
  in_end s = record { has = s.has; from = omega (arith, s.after); until = omega (arith, s.within) }

  end-wide : start + limit_of kind + 1 ≤ start + 1 + 2881
  end-wide = omega (arith, limit-most kind)

  end-in : end_of kind start g < never → end_in (end_of kind start g)
  unfolding end_of
  end-in h = in-found g (start + 1) (start + limit_of kind + 1) h

  -- no instant with the group stands between the start and one that is in reach
  end-first : (t : ℕ) → end_in t → (u : ℕ) → Has g u → start < u → t ≤ u
  end-first t i u h l =
      by (leb t u)
      (λ (e : leb t u ≡ true). leb-true t u e)
      (λ (e : leb t u ≡ false).
      let less : u < t = leb-false t u e in
      omega (arith, only_one (start + 1) (start + limit_of kind + 1) end-wide (omega arith) (omega (arith, i.until)) i.from i.until h i.has))

  pub end-within : end_of kind start g < never → (start < end_of kind start g) × (end_of kind start g ≤ start + limit_of kind)
  end-within h = let i = end-in h in (omega (arith, i.from), omega (arith, i.until))

  pub end-found : end_of kind start g < never → IsEnd kind start g (end_of kind start g)
  end-found h =
      let i = end-in h in
      record { has = i.has; after = (end-within h).0; first = end-first (end_of kind start g) i; within = (end-within h).1 }

  pub end-bound : end_of kind start g ≤ never
  unfolding end_of
  end-bound = in-bound g (start + 1) (start + limit_of kind + 1)

pub end-complete : {kind start : ℕ} {g : Group} {t : ℕ} → IsEnd kind start g t → end_of kind start g ≡ t
unfolding end_of
end-complete {kind} {start} {g} {t} s = in-complete g (start + 1) (start + limit_of kind + 1) (end-wide kind start g) t (in_end kind start g s)

pub end-only : {kind start : ℕ} {g : Group} {t u : ℕ} → IsEnd kind start g t → IsEnd kind start g u → t ≡ u
end-only r s = sym (end-complete r) ∙ end-complete s

pub end_none : (kind start : ℕ) (g : Group) → end_of kind start g ≡ never → (t : ℕ) → IsEnd kind start g t → ⊥
end_none kind start g e t s = absent e (end-complete s) s.has

-- The start of a cancellation's target.

module _ (kind end : ℕ) (g : Group) where
  abbrev target_in : ℕ → Type 0
  target_in t = In g (end - limit_of kind) end t

  in-target : {t : ℕ} → IsTarget kind end g t → target_in t
  in-target s = record { has = s.has; from = omega (arith, s.within); until = s.before }

  target-wide : end ≤ end - limit_of kind + 2881
  target-wide = omega (arith, limit-most kind)

  target-in : target_of kind end g < never → target_in (target_of kind end g)
  unfolding target_of
  target-in h = in-found g (end - limit_of kind) end h

  -- no instant with the group stands between one that is in reach and the end
  target-latest : (t : ℕ) → target_in t → (u : ℕ) → Has g u → u < end → u ≤ t
  target-latest t i u h l =
      by (leb u t)
      (λ (e : leb u t ≡ true). leb-true u t e)
      (λ (e : leb u t ≡ false).
      let less : t < u = leb-false u t e in
      omega (arith, only_one (end - limit_of kind) end target-wide i.from i.until (omega (arith, i.from)) l i.has h))

  pub target-within : target_of kind end g < never → (target_of kind end g < end) × (end ≤ target_of kind end g + limit_of kind)
  target-within h = let i = target-in h in (i.until, omega (arith, i.from))

  pub target_found : target_of kind end g < never → IsTarget kind end g (target_of kind end g)
  target_found h =
      let i = target-in h in
      record { has = i.has; before = i.until; latest = target-latest (target_of kind end g) i; within = (target-within h).1 }

  pub target-bound : target_of kind end g ≤ never
  unfolding target_of
  target-bound = in-bound g (end - limit_of kind) end

pub target-complete : {kind end : ℕ} {g : Group} {t : ℕ} → IsTarget kind end g t → target_of kind end g ≡ t
unfolding target_of
target-complete {kind} {end} {g} {t} s = in-complete g (end - limit_of kind) end (target-wide kind end g) t (in-target kind end g s)

pub target-only : {kind end : ℕ} {g : Group} {t u : ℕ} → IsTarget kind end g t → IsTarget kind end g u → t ≡ u
target-only r s = sym (target-complete r) ∙ target-complete s

pub target_none : (kind end : ℕ) (g : Group) → target_of kind end g ≡ never → (t : ℕ) → IsTarget kind end g t → ⊥
target_none kind end g e t s = absent e (target-complete s) s.has

-- Cases, by evaluation.

pub case-leap-year : start_of 12709380 (record { day = 1; hour = 1; minute = 0 }) ≡ 12709500
unfolding month_length first_day day_from day_of_month matches on_day instant_in start_of
case-leap-year = refl

pub case-common-year : start_of 12182340 (record { day = 29; hour = 1; minute = 0 }) ≡ never
unfolding month_length first_day day_from day_of_month matches on_day instant_in start_of
case-common-year = refl

pub case-at-the-clock : start_of 12648030 (record { day = 18; hour = 8; minute = 30 }) ≡ 12648030
unfolding month_length first_day day_from day_of_month matches on_day instant_in start_of
case-at-the-clock = refl

pub case-at-the-limit : end_of 2 12648030 (record { day = 18; hour = 12; minute = 30 }) ≡ 12648270
unfolding month_length first_day day_from day_of_month matches on_day instant_in end_of
case-at-the-limit = refl

pub case-end-of-2099 : first_day 1200 ≡ 36525
unfolding month_length first_day
case-end-of-2099 = refl

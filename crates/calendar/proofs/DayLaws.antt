-- One day: the ways in which it has no instant of the stretch with the group, and the one in which it has.
use mathlib.Core.Bool.{true, false}
use mathlib.Core.Path.{◌≡◌, refl, ap, ◌∙◌}
use Prim.Native.Nat.{ℕ, ◌+◌, ◌-◌, ◌/◌, ◌%◌, ◌≤◌, ◌<◌}
use native.Mathlib.Nat.{add-zero}
use native.Mathlib.Omega.{arith}
use borrow.Author.Tests.{lt-ltb}
use Rattle.std.specs.Prelude.{Option, Some, None}
use Rattle.std.specs.Option.{MatchOption, option_or}
use Rattle.lists.specs.Choice.{found}
use Rattle.lists.proofs.Choice.{by}
use Rattle.groups.specs.declared.Group.{Group}
use Rattle.calendar.specs.Gregorian.{first_day, days, never, is_instant, Falls}
use Rattle.calendar.specs.Instants.{minute_on, on_day, or_else, instant_in}
use Rattle.calendar.specs.Meanings.{Has}
use Rattle.calendar.proofs.MonthLaws.{falls-only}
use Rattle.calendar.proofs.CalendarLaws.{In, on-there, on_none}

module _ (g : Group) (low high day : ℕ) where
  abbrev there : Option ℕ
  there = found is_instant (on_day g low high day)

  none : (In g low high (minute_on g day) → ⊥) → None ≡ there
  none other = rw (on_none g low high day other) refl

  pub none-beyond : days ≤ day → None ≡ there
  none-beyond h = none (λ (i : In g low high (minute_on g day)). omega (arith, i.has.instant))

  pub none-hour : 23 < g.hour → None ≡ there
  none-hour h = none (λ (i : In g low high (minute_on g day)). omega (arith, i.has.hour))

  pub none-minute : 59 < g.minute → None ≡ there
  none-minute h = none (λ (i : In g low high (minute_on g day)). omega (arith, i.has.minute))

  pub none_before : minute_on g day < low → None ≡ there
  none_before h = none (λ (i : In g low high (minute_on g day)). omega (arith, i.from))

  pub none_after : high ≤ minute_on g day → None ≡ there
  none_after h = none (λ (i : In g low high (minute_on g day)). omega (arith, i.until))

  module _ (hour : g.hour ≤ 23) (minute : g.minute ≤ 59) where
    its-day : minute_on g day / 1440 ≡ day
    its-day = omega arith

    its-hour : minute_on g day / 60 % 24 ≡ g.hour
    its-hour = omega arith

    its-minute : minute_on g day % 60 ≡ g.minute
    its-minute = omega arith

    module _ (month first : ℕ) (falls : Falls day month) (is-first : first ≡ first_day month) where
      pub none-date : (day - first + 1 ≡ g.day → ⊥) → None ≡ there
      none-date other =
          none
          (λ (i : In g low high (minute_on g day)).
          let on-it : Falls day i.has.month = rw its-day at i.has.falls in
          let same : first_day i.has.month ≡ first_day month = ap first_day (falls-only on-it falls) in
          other (omega (arith, its-day, i.has.day, on-it.from)))

      pub one-there : day < days → day - first + 1 ≡ g.day → low ≤ minute_on g day → minute_on g day < high → Some (minute_on g day) ≡ there
      one-there within date from until =
          let has : Has g (minute_on g day) =
          record {
            instant = omega arith;
            month = month;
            falls = rw its-day falls;
            day = omega (arith, its-day, falls.from);
            hour = its-hour;
            minute = its-minute;
          } in
          rw (on-there g low high day (record { has = has; from = from; until = until }), lt-ltb (minute_on g day) never has.instant) refl

-- the value that `or_else` answers, P being what its closure promises
or-else-is : {P : Type 0} (a b r : Option ℕ) → MatchOption a P (λ x. r ≡ Some x) → (P → r ≡ b) → r ≡ option_or a b
or-else-is None b r m f = f m
or-else-is (Some x) b r m f = m

-- Three days: what the first that has one gives.

found-three : (a b c : ℕ) → option_or (option_or (found is_instant a) (found is_instant b)) (found is_instant c) ≡ found is_instant (or_else a (or_else b c))
found-three a b c =
    by (is_instant a)
    (λ (t : is_instant a ≡ true). rw (t, t) refl)
    (λ (t : is_instant a ≡ false).
    by (is_instant b)
    (λ (u : is_instant b ≡ true). rw (t, u, u) refl)
    (λ (u : is_instant b ≡ false). rw (t, u) refl))

module _ (g : Group) (low high : ℕ) where
  abbrev on : ℕ → Option ℕ
  on day = found is_instant (on_day g low high day)

  pub in-days : {P Q : Type 0} (here two three : Option ℕ)
      → here ≡ on (low / 1440 + 0)
      → MatchOption here P (λ x. two ≡ Some x) → (P → two ≡ on (low / 1440 + 1))
      → MatchOption two Q (λ x. three ≡ Some x) → (Q → three ≡ on (low / 1440 + 2))
      → three ≡ found is_instant (instant_in g low high)
  unfolding instant_in
  in-days here two three e m p n q =
      let a : here ≡ on (low / 1440) = e ∙ ap on (add-zero (low / 1440)) in
      or-else-is two (on (low / 1440 + 2)) three n q
      ∙ ap (λ o. option_or o (on (low / 1440 + 2))) (or-else-is here (on (low / 1440 + 1)) two m p)
      ∙ ap (λ o. option_or (option_or o (on (low / 1440 + 1))) (on (low / 1440 + 2))) a
      ∙ found-three (on_day g low high (low / 1440)) (on_day g low high (low / 1440 + 1)) (on_day g low high (low / 1440 + 2))

-- What a start, an end and a target's start are, in the paper's words.
-- Believed.
use Rattle.std.specs.Prelude.{◌≡◌, ℕ, ◌+◌, ◌/◌, ◌%◌, ◌≤◌, ◌<◌, eqb}
use Rattle.lists.specs.Choice.{pick}
use Rattle.groups.specs.declared.Group.{Group}
use Rattle.calendar.specs.Gregorian.{first_day, never, Falls}

-- an instant "that has that day, hour and minute": its day falls in some month of the hundred years, and is that day of the month
pub record Has (g : Group) (t : ℕ) : Type 0 where
  pub instant : t < never
  pub month : ℕ
  pub falls : Falls (t / 1440) month
  pub day : t / 1440 + 1 ≡ first_day month + g.day
  pub hour : t / 60 % 24 ≡ g.hour
  pub minute : t % 60 ≡ g.minute

-- "A start group means the one instant within 1,440 minutes of the clock, either side, both ends counted, that has that day, hour and minute."
pub record IsStart (clock : ℕ) (g : Group) (t : ℕ) : Type 0 where
  pub has : Has g t
  pub no-earlier : clock ≤ t + 1440
  pub no-later : t ≤ clock + 1440

-- "at most 240 minutes later for WS and 360 for WV": 2 is WS
abbrev pub limit_of : ℕ → ℕ
limit_of kind = pick (eqb kind 2) 240 360

-- "The end is the first such instant after the start, at most 240 minutes later for WS and 360 for WV."
pub record IsEnd (kind start : ℕ) (g : Group) (t : ℕ) : Type 0 where
  pub has : Has g t
  pub after : start < t
  pub first : (u : ℕ) → Has g u → start < u → t ≤ u
  pub within : t ≤ start + limit_of kind

-- "A cancellation's target has the cancellation's type, area and end; its start is the latest matching instant before that, under the same
-- limit."
pub record IsTarget (kind end : ℕ) (g : Group) (t : ℕ) : Type 0 where
  pub has : Has g t
  pub before : t < end
  pub latest : (u : ℕ) → Has g u → u < end → u ≤ t
  pub within : end ≤ t + limit_of kind

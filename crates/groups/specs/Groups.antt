-- 01, "day, hour, minute in six digits", "Day 01-31, hour 00-23, minute 00-59 in every six-digit group; hour and minute alike in `GGggZ`."
-- Believed.
use Rattle.std.specs.Prelude.{Bool, List, ◌∷◌, ◌++◌, ℕ, leb, eqb, length, get_or}
use Prim.Native.Char.{code}
use Rattle.lists.specs.Choice.{pick, both}
use Rattle.lists.specs.Lists.{part}
use Rattle.lists.specs.Text.{bytes}
use Rattle.words.specs.Bytes.{between}
use Rattle.figures.specs.Figures.{two_of, in_figures}
use Rattle.figures.specs.Reads.{if_good}
use Rattle.groups.specs.declared.Group.{Group}
use Rattle.groups.specs.declared.Period.{Period}
use Rattle.groups.specs.declared.Time.{Time}

-- "hour 00-23, minute 00-59"
abbrev pub on_clock : ℕ → ℕ → Bool
on_clock hour minute = both (leb hour 23) (leb minute 59)

-- "Day 01-31, hour 00-23, minute 00-59"
unfoldable pub good_group : Group → Bool
good_group g = both (between 1 31 g.day) (on_clock g.hour g.minute)

-- the same day, hour and minute
abbrev pub same_group : Group → Group → Bool
same_group g h = both (eqb g.day h.day) (both (eqb g.hour h.hour) (eqb g.minute h.minute))

abbrev pub no_group : Group
no_group = record { day = 0; hour = 0; minute = 0 }

-- the six digits of a word
unfoldable pub group_of : List ℕ → Group
group_of w =
    pick (eqb (length w) 6)
    (if_good good_group no_group (record { day = two_of (part 0 2 w); hour = two_of (part 2 4 w); minute = two_of (part 4 6 w) }))
    no_group

unfoldable pub spell_group : Group → List ℕ
spell_group g = in_figures 2 g.day ++ (in_figures 2 g.hour ++ in_figures 2 g.minute)

-- `group/group`
unfoldable pub good_period : Period → Bool
good_period p = both (good_group p.from) (good_group p.to)

abbrev pub no_period : Period
no_period = record { from = no_group; to = no_group }

unfoldable pub period_of : List ℕ → Period
period_of w =
    pick (both (eqb (length w) 13) (eqb (get_or w 6 0) (code "/")))
    (if_good good_period no_period (record { from = group_of (part 0 6 w); to = group_of (part 7 13 w) }))
    no_period

unfoldable pub spell_period : Period → List ℕ
spell_period p = spell_group p.from ++ (code "/" ∷ spell_group p.to)

-- `GGggZ`: "hour and minute alike". A word that is no time is answered with hour 24, which no clock shows.
unfoldable pub good_time : Time → Bool
good_time t = on_clock t.hour t.minute

abbrev pub no_time : Time
no_time = record { hour = 24; minute = 0 }

unfoldable pub time_of : List ℕ → Time
time_of w =
    pick (both (eqb (length w) 5) (eqb (get_or w 4 0) (code "Z")))
    (if_good good_time no_time (record { hour = two_of (part 0 2 w); minute = two_of (part 2 4 w) }))
    no_time

unfoldable pub spell_time : Time → List ℕ
spell_time t = in_figures 2 t.hour ++ (in_figures 2 t.minute ++ bytes "Z")

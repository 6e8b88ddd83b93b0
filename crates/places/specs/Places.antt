-- 01, "Identity: type, area, sequence as written, start, end. A board has 64 places, each empty (all zero) or holding an identity, a
-- correction and a mark."
-- Believed.
use Rattle.std.specs.Prelude.{Bool, false, not, ℕ, ◌+◌, leb, ltb, eqb}
use Rattle.lists.specs.Choice.{both, either}
use Rattle.figures.specs.Letters.{good_letters}
use Rattle.headings.specs.Headings.{good_type, good_correction}
use Rattle.calendar.specs.Gregorian.{never}
use Rattle.calendar.specs.Meanings.{limit_of}
use Rattle.places.specs.Padded.{held_sequence}
use Rattle.places.specs.declared.Identity.{Identity}
use Rattle.places.specs.declared.Place.{Place}

-- type, area, sequence, start and end are all the same
unfoldable pub same_identity : Identity → Identity → Bool
same_identity a b =
    both (eqb a.kind b.kind)
    (both (eqb a.area b.area) (both (eqb a.sequence b.sequence) (both (eqb a.start b.start) (eqb a.end b.end))))

-- all zero
abbrev pub no_identity : Identity
no_identity = record { kind = 0; area = 0; sequence = 0; start = 0; end = 0 }

abbrev pub no_place : Place
no_place = record { identity = no_identity; correction = 0; marked = false }

-- "empty (all zero)"
unfoldable pub empty_place : Place → Bool
empty_place p = both (same_identity p.identity no_identity) (both (eqb p.correction 0) (not p.marked))

-- "well-formed letters and sequence, …, a start before its end by no more than its type's limit, and an end after the clock and before 2100"
unfoldable pub held_identity : ℕ → Identity → Bool
held_identity clock i =
    both (both (good_type i.kind) (both (good_letters 4 i.area) (held_sequence i.sequence)))
    (both (both (ltb i.start i.end) (leb i.end (i.start + limit_of i.kind))) (both (ltb clock i.end) (ltb i.end never)))

-- "a correction that is none or A to X and is none where marked"
unfoldable pub held_correction : Bool → ℕ → Bool
held_correction marked c = either (eqb c 0) (both (not marked) (good_correction c))

-- "each held place has …", on a board of that clock
unfoldable pub held_place : ℕ → Place → Bool
held_place clock p = both (held_identity clock p.identity) (held_correction p.marked p.correction)

-- "each empty (all zero) or holding an identity, a correction and a mark"
unfoldable pub good_place : ℕ → Place → Bool
good_place clock p = either (empty_place p) (held_place clock p)

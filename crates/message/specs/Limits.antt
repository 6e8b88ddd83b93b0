-- The numbers of the paper that bound a record, each named once.
-- Believed.
use Rattle.std.specs.Prelude.{ℕ}

-- "with single spaces it has at most 50 characters": so many bytes are kept of any name
abbrev pub name_bytes : ℕ
name_bytes = 50

-- "rules as above, 30 characters"
abbrev pub mountain_limit : ℕ
mountain_limit = 30

-- 02, CR 7: "Outlines may have 4 to 20 written points, for the location and for the forecast."
abbrev pub least_points : ℕ
least_points = 4

abbrev pub most_points : ℕ
most_points = 20

-- the kinds of bulletin, as the listing numbers them
abbrev pub ws : ℕ
ws = 2

abbrev pub wv : ℕ
wv = 3

-- the closing word of a CTA
abbrev pub cta : ℕ
cta = 3

-- the phenomena of a WV: a cloud, and a cloud with the eruption that it comes from
abbrev pub ash_cloud : ℕ
ash_cloud = 16

abbrev pub eruption : ℕ
eruption = 17

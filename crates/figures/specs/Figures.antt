-- Decimal figures: what a run of them counts, and a number written in so many of them.
-- Believed.
use Rattle.std.specs.Prelude.{List, map, ℕ, ◌+◌, ◌-◌, leb, ltb, length}
use Rattle.lists.specs.Choice.{pick, both}
use Rattle.lists.specs.Lists.{all_of}
use Rattle.lists.specs.Base.{worth, places}
use Rattle.words.specs.Bytes.{digit}

-- the number of a figure, and the figure of a number
abbrev pub figure : ℕ → ℕ
figure x = x - 48

abbrev pub as_figure : ℕ → ℕ
as_figure d = d + 48

-- what at most five figures count; 100,000 of any other word
unfoldable pub figures_of : List ℕ → ℕ
figures_of w = pick (both (leb (length w) 5) (all_of digit w)) (worth 10 (map figure w)) 100000

-- n in k figures
abbrev pub in_figures : ℕ → ℕ → List ℕ
in_figures k n = map as_figure (places 10 k n)

-- n, or the limit where n is not below it
abbrev pub capped : ℕ → ℕ → ℕ
capped limit n = pick (ltb n limit) n limit

-- what figures count where that is below 100, or below 1,000; the limit itself otherwise, and for any other word
abbrev pub two_of : List ℕ → ℕ
two_of w = capped 100 (figures_of w)

abbrev pub three_of : List ℕ → ℕ
three_of w = capped 1000 (figures_of w)

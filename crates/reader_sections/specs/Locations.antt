-- The location, in a report and in a forecast alike.
-- Internal contract.
use Rattle.std.specs.Prelude.{Option, None, Some, Result, ◌≡◌, ◌⊎◌, ℕ, ◌%◌}
use Rattle.figures.specs.Codes.{FixedWord}
use Rattle.message.specs.declared.Extent.{Extent}
use Rattle.message.specs.Locations.{entire_word}
use Rattle.grammar.specs.Numbers.{location_part}
use Rattle.grammar.specs.States.State.{at_place}
use Rattle.grammar.specs.States.{Site, Placing}
use Rattle.grammar.specs.Steps.{closing_at, after}
use Rattle.reader_sections.specs.declared.parts.Part.{Part}
use Rattle.reader_sections.specs.declared.step.Refused.{Refused}
use Rattle.reader_sections.specs.declared.step.Step.{Step}
use Rattle.reader_sections.specs.Parts.{part_number}
use Rattle.reader_sections.specs.Steps.{Leads}

-- the letter of a code that is one of two, which are those of words of one letter
abbrev pub side : ℕ → ℕ → ℕ → Option ℕ → Type 0
side code plus minus (Some letter) = ((code ≡ plus) ⊎ (code ≡ minus)) × (letter ≡ code % 256)
side code plus minus None = (code ≡ plus → ⊥) × (code ≡ minus → ⊥)

pub record SideSays (code plus minus : ℕ) (r : Option ℕ) : Type 0 where
  pub is : side code plus minus r

-- the code of what the entire area is called
pub record EntireSays (closing code : ℕ) : Type 0 where
  pub fixed : FixedWord (entire_word closing) code

-- from that place of a location on, at a site whose location is judged as that part
pub record LocatedSays (placing : Placing) (judged : Part) (from : Step) (r : Result (Extent × Step) Refused) : Type 0 where
  pub says : (site : Site) → location_part site ≡ part_number judged → Leads (at_place site placing) from r (after site)

-- the same where the closing word of the area tells: "`ENTIRE CTA` exactly when the area is a CTA"
pub record LocatedInSays (closing : ℕ) (placing : Placing) (judged : Part) (from : Step) (r : Result (Extent × Step) Refused) : Type 0 where
  pub says : (site : Site) → closing_at site ≡ closing → location_part site ≡ part_number judged → Leads (at_place site placing) from r (after site)

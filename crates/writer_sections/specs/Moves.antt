-- A pen before and after a call: it has put something, and is still on its page.
-- Internal contract.
use Rattle.std.specs.Prelude.{List, ◌≡◌, ℕ}
use Rattle.writer_sections.specs.declared.pen.Pen.{Pen}

-- what it has put, as `Puts text`, `Words words` or `Line words` say it of a place and a page; and the page is the one that it was lent
pub record Moved (put : ℕ → List ℕ → ℕ → List ℕ → Type 0) (before after : Pen) : Type 0 where
  pub says : put before.at before.page.now after.at after.page.now
  pub same_page : after.page.ghost_name ≡ before.page.ghost_name

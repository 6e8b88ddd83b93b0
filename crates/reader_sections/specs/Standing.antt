-- Where a step stands: at a word of the text, or at the `=` behind it, which is empty there.
-- Internal contract.
use Rattle.std.specs.Prelude.{List, ◌≡◌, ℕ, ◌≤◌, length}
use Rattle.words.specs.Words.{span_of}

-- the next word of the text from a place on begins and ends there
pub record WordAt (t : List ℕ) (at start end : ℕ) : Type 0 where
  pub starts : start ≡ (span_of t at).start
  pub ends : end ≡ (span_of t at).end
  pub ordered : start ≤ end
  pub within : end ≤ length t

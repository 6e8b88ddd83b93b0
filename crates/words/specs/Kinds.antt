-- The kinds of byte that the walk of `check` goes by, and the table of them.
-- Internal contract.
use Rattle.std.specs.Prelude.{List, ◌≡◌, ℕ, ◌≤◌, ◌<◌, get_or}
use Prim.Native.Char.{code}
use Rattle.lists.specs.Choice.{pick}
use Rattle.words.specs.Bytes.{blank, equals, barred}

-- as the table draws them: `?` a byte that is not allowed, `=` itself, `-` a blank, `.` a byte of a word
unfoldable pub kind_of : ℕ → ℕ
kind_of x = pick (barred x) (code "?") (pick (equals x) (code "=") (pick (blank x) (code "-") (code ".")))

-- k is the kind of x; the bounds are what a sum of four needs
pub record IsKind (x k : ℕ) : Type 0 where
  pub is : k ≡ kind_of x
  pub least : code "-" ≤ k
  pub most : k ≤ code "?"

-- the table has the kind of every byte
pub record Kinds (table : List ℕ) : Type 0 where
  pub right : (x : ℕ) → x < 256 → get_or table x 0 ≡ kind_of x

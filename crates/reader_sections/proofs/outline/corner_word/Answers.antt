-- `corner_word` meets its contract: a point that closes wants four points, any other room.
use mathlib.Core.Path.{◌≡◌}
use native.Mathlib.Omega.{arith}
use borrow.Author.Rules.{rules}
use Rattle.std.specs.Prelude.{None}
use Rattle.reader_sections.proofs.OutlineLaws.{no-longitude, corner-closes, corner-early, corner-further, corner-late}
use Rattle.reader_sections.proofs.outline.corner_word.Goals as goal

pub returns-in_err-longitude : goal.returns-in_err-longitude
returns-in_err-longitude c = let none : c.from_residual.result ≡ None = search rules in rw none (no-longitude _ c.in_err-longitude.ensures)

pub returns-then-enough : goal.returns-then-enough
returns-then-enough c = corner-closes _ c.in_ok-longitude.ensures c.closes.ensures c.if-closes.true (omega arith)

pub returns-else-enough : goal.returns-else-enough
returns-else-enough c = corner-early _ c.in_ok-longitude.ensures c.closes.ensures c.if-closes.true (omega arith)

pub returns-then-room : goal.returns-then-room
returns-then-room c = corner-further _ c.in_ok-longitude.ensures c.closes.ensures c.if-closes.false (omega arith)

pub returns-else-room : goal.returns-else-room
returns-else-room c = corner-late _ c.in_ok-longitude.ensures c.closes.ensures c.if-closes.false (omega arith)

-- 01, "Writer: 13 bad record; 24 text over 2,048 bytes; 14 buffer shorter than what would be written. Count 0, buffer untouched."
-- Tied: `three-outcomes` (crates/roundtrips/proofs/RoundTrips.antt).
use Rattle.std.specs.Prelude.{not, List, ℕ, ltb, length}
use Rattle.lists.specs.Choice.{pick}
use Rattle.pens.specs.Outcomes.{Wrote, unwritten, written}
use Rattle.message.specs.Records.{good}
use Rattle.message.specs.Words.{text_of}
use Rattle.message.specs.declared.Record.{Record}

unfoldable pub write_of : Record → List ℕ → Wrote
write_of r buffer =
    pick (not (good r)) (unwritten 13 buffer)
    (pick (ltb 2048 (length (text_of r))) (unwritten 24 buffer)
    (pick (ltb (length buffer) (length (text_of r))) (unwritten 14 buffer) (written (text_of r) buffer)))

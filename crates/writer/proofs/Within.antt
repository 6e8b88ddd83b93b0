-- What is counted as written lies within the buffer, by the definition that `write`'s contract cites: a refusal counts 0, and otherwise the buffer begins with the text that is counted.
use mathlib.Core.Bool.{Bool, true, false, not}
use mathlib.Core.List.{List}
use mathlib.Core.Path.{◌≡◌, subst, sym}
use Prim.Native.Nat.{ℕ, ◌≤◌}
use native.Mathlib.Omega.{arith}
use lib.Dec.{ltb}
use lib.ListN.{length, length-append}
use Rattle.lists.specs.Choice.{pick}
use Rattle.message.specs.Records.{good}
use Rattle.message.specs.Words.{text_of}
use Rattle.message.specs.declared.Record.{Record}
use Rattle.grammar.specs.Writes.{write_of}
use Rattle.pens.specs.Outcomes.{Wrote, unwritten, written}

abbrev Within : Wrote → Type 0
Within w = w.count ≤ length w.buffer

by-case : (bad long short : Bool) (text buffer : List ℕ)
    → Within (pick bad (unwritten 13 buffer) (pick long (unwritten 24 buffer) (pick short (unwritten 14 buffer) (written text buffer))))
by-case true long short text buffer = omega arith
by-case false true short text buffer = omega arith
by-case false false true text buffer = omega arith
by-case false false false text buffer = simp length-append (omega arith)

pub within : (w : Wrote) (message : Record) (buffer : List ℕ) → w ≡ write_of message buffer → w.count ≤ length w.buffer
unfolding write_of
within w message buffer e =
    subst Within (sym e)
    (by-case (not (good message)) (ltb 2048 (length (text_of message))) (ltb (length buffer) (length (text_of message))) (text_of message) buffer)

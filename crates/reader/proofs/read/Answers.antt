-- `read` meets its contract: `check` refuses by numbers 1 to 3, and else the words before the `=` are read.
use mathlib.Core.Path.{refl, sym}
use lib.Seq.{length-take-le}
use Rattle.words.proofs.Refusals.{check-small}
use Rattle.grammar.specs.Reads.{read_of}
use Rattle.reader.proofs.read.Goals as goal

pub slice_bounds-read_text-end : goal.slice_bounds-read_text-end
slice_bounds-read_text-end c = sym (length-take-le _ _ (rw (← c.in-Ok.ensures) at (check-small c.args.bulletin.now).place))

pub returns-in-Ok : goal.returns-in-Ok
unfolding read_of
returns-in-Ok c = rw (c.read_text.ensures, ← c.in-Ok.ensures) refl

pub returns-in-Err-Length : goal.returns-in-Err-Length
unfolding read_of
returns-in-Err-Length c = rw (c.refusal.ensures, ← (rw c.in-Err-Length.field-0-is at c.in-Err-Length.ensures)) refl

pub returns-in-Err-Barred : goal.returns-in-Err-Barred
unfolding read_of
returns-in-Err-Barred c = rw (c.refusal-in-Err-Barred.ensures, ← (rw c.in-Err-Barred.field-0-is at c.in-Err-Barred.ensures)) refl

pub returns-in-Err-NoEquals : goal.returns-in-Err-NoEquals
unfolding read_of
returns-in-Err-NoEquals c = rw (c.refusal-in-Err-NoEquals.ensures, ← (rw c.in-Err-NoEquals.field-0-is at c.in-Err-NoEquals.ensures)) refl

pub returns-in-Err-Behind : goal.returns-in-Err-Behind
unfolding read_of
returns-in-Err-Behind c = rw (c.refusal-in-Err-Behind.ensures, ← (rw c.in-Err-Behind.field-0-is at c.in-Err-Behind.ensures)) refl

-- `write` meets its contract: one law for each reply, on the page as the text.
use mathlib.Core.Bool.{true}
use mathlib.Core.Path.{◌≡◌}
use Prim.Native.Nat.{ℕ}
use lib.ListN.{length, take, length-replicate}
use Rattle.message.specs.Records.{good}
use Rattle.message.specs.Words.{text_of}
use Rattle.writer.proofs.WriteLaws.{page-count, page-text, bad-here, good-here, bad-record, too_long, no_room, all-written}
use Rattle.writer.proofs.write.Goals as goal
use Rattle.writer.proofs.write.Goals.{Else-bad}

-- past the first test the record is good; the count is the text's length, and so many bytes of the page are the text
known-good : (c : Else-bad) → good c.args.message ≡ true
known-good c = good-here c.args.message c.put_text-count.ensures c.if-bad.false

counted : (c : Else-bad) → c.put_text-count.result ≡ length (text_of c.args.message)
counted c = page-count c.args.message (known-good c) (length-replicate {A = ℕ} 2049 0) c.put_text-count.ensures

paged : (c : Else-bad) → take c.put_text-count.result c.put_text-count.new.out ≡ text_of c.args.message
paged c = page-text c.args.message (known-good c) (length-replicate {A = ℕ} 2049 0) c.put_text-count.ensures

pub returns-then-bad : goal.returns-then-bad
returns-then-bad c =
    bad-record c.args.message c.refused.result c.args.out.now
    (bad-here c.args.message (length-replicate {A = ℕ} 2049 0) c.put_text-count.ensures c.if-bad.true)
    c.refused.ensures

pub returns-then-count-gt-MOST_BYTES : goal.returns-then-count-gt-MOST_BYTES
returns-then-count-gt-MOST_BYTES c =
    let here = (goal.at.returns-then-count-gt-MOST_BYTES c).Else-bad in
    too_long c.args.message c.refused-then-count-gt-MOST_BYTES.result c.args.out.now _ (known-good here) (counted here) c.if-count-gt-MOST_BYTES.true
    c.refused-then-count-gt-MOST_BYTES.ensures

pub returns-then-out-count : goal.returns-then-out-count
returns-then-out-count c =
    let here = (goal.at.returns-then-out-count c).Else-bad in
    no_room c.args.message c.refused-then-out-count.result c.args.out.now _ (known-good here) (counted here) c.if-count-gt-MOST_BYTES.false
    c.if-out-count.true c.refused-then-out-count.ensures

pub returns : goal.returns
returns c =
    let here = (goal.at.returns c).Else-bad in
    all-written c.args.message _ c.args.out.now (known-good here) (counted here) c.if-count-gt-MOST_BYTES.false c.if-out-count.false (paged here)
    c.copy_from_slice.ensures.after

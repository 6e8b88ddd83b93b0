-- `put_record` meets its contract: the parts of the record, one behind the other.
use Rattle.pens.proofs.PenLaws.{then, put-alike}
use Rattle.listing.specs.Listings.{message_record}
use Rattle.listing.proofs.put_record.Goals as goal

pub returns : goal.returns
unfolding message_record
returns c =
    let kind = c.put-a.ensures in
    let area = c.put_big_endian-b.ensures in
    let sequence = c.put_big_endian-c.ensures in
    let correction = put-alike c.correction_byte-correction.ensures c.put-d.ensures in
    let start = c.put_big_endian-e.ensures in
    let end = c.put_big_endian.ensures in
    then kind (then area (then sequence (then correction (then start end))))

-- `put_time` meets its contract: its kind, and the time behind it.
use Rattle.pens.proofs.PenLaws.{then}
use Rattle.listing.specs.Listings.{time_record}
use Rattle.listing.proofs.put_time.Goals as goal

pub returns : goal.returns
unfolding time_record
returns c = then c.put-next.ensures c.put_big_endian.ensures

-- `put_places` ends: each call has one place less.
use Rattle.pens.proofs.+put_places.Given as goal

abbrev pub decreases-put_places : goal.decreases-put_places
decreases-put_places g l = l.k

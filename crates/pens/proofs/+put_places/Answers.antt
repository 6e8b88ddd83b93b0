-- `put_places` meets its contract: the last place goes behind those of n / BASE, as in the definition.
use Rattle.pens.proofs.PenLaws.{no_place, place-more}
use Rattle.pens.proofs.+put_places.Goals as goal

pub returns-then-k-eq0 : goal.returns-then-k-eq0
returns-then-k-eq0 g t c = search no_place

pub returns : goal.returns
returns g t c = search place-more

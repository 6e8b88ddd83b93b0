-- `unpad` meets its contract.
use Rattle.places.proofs.PaddedLaws.{unpads}
use Rattle.places.proofs.padding.unpad.Goals as goal

pub returns : goal.returns
returns c =
    let count = rw c.to_be_bytes.ensures at c.before_space.ensures.counted in
    rw (c.to_be_bytes.ensures, unpads _ count) at c.sequence_word.ensures

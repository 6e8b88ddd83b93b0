-- `padded` meets its contract.
use mathlib.Core.Path.{◌≡◌, ◌∙◌}
use lib.ListN.{length}
use Rattle.places.proofs.PaddedLaws.{joined}
use borrow.Author.Rules.{rules}
use Rattle.places.proofs.padding.padded.Goals as goal

pub returns : goal.returns
returns c =
    let long : length c.characters.result ≡ 3 = search rules in
    c.from_be_bytes.ensures ∙ joined c.characters.result long ∙ c.characters.ensures

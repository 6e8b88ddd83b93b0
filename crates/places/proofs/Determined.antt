-- The public contracts of this crate determine their replies: two replies that one of them allows on the same arguments are equal.
use Rattle.lists.proofs.Choice.{determined}
use Rattle.lists.specs.Determined.{Determines}
use Rattle.places.proofs.places.same_identity.Kinds as same-identity-kinds
use Rattle.places.proofs.places.same_identity.Reads as same-identity-reads
use Rattle.places.proofs.places.no_place.Kinds as no-place-kinds
use Rattle.places.proofs.places.no_place.Reads as no-place-reads
use Rattle.places.proofs.places.empty_place.Kinds as empty-place-kinds
use Rattle.places.proofs.places.empty_place.Reads as empty-place-reads
use Rattle.places.proofs.places.good_place.Kinds as good-place-kinds
use Rattle.places.proofs.places.good_place.Reads as good-place-reads
use Rattle.places.proofs.RefusalLaws.{claim-only}
use Rattle.places.proofs.refusals.Refusal.number.Kinds as number-kinds
use Rattle.places.proofs.refusals.Refusal.number.Reads as number-reads
use Rattle.places.proofs.claims.claim_of.Kinds as claim-of-kinds
use Rattle.places.proofs.claims.claim_of.Reads as claim-of-reads

pub same-identity-determined : Determines 0 same-identity-kinds.ps same-identity-kinds.r same-identity-reads.Learnt
same-identity-determined κs a r s x y p q = determined p q

pub no-place-determined : Determines 0 no-place-kinds.ps no-place-kinds.r no-place-reads.Learnt
no-place-determined κs a r s x y p q = determined p q

pub empty-place-determined : Determines 0 empty-place-kinds.ps empty-place-kinds.r empty-place-reads.Learnt
empty-place-determined κs a r s x y p q = determined p q

pub good-place-determined : Determines 0 good-place-kinds.ps good-place-kinds.r good-place-reads.Learnt
good-place-determined κs a r s x y p q = determined p q

pub claim-of-determined : Determines 0 claim-of-kinds.ps claim-of-kinds.r claim-of-reads.Learnt
claim-of-determined κs a r s x y p q = claim-only r s (determined p q)

pub number-determined : Determines 0 number-kinds.ps number-kinds.r number-reads.Learnt
number-determined κs a r s x y p q = determined p q

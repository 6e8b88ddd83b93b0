-- Each public contract of this crate determines its reply: two replies that it allows on the same arguments are equal.
use Rattle.lists.proofs.Choice.{determined}
use Rattle.lists.specs.Determined.{Determines}
use Rattle.coordinates.proofs.latitude.Kinds as latitude-kinds
use Rattle.coordinates.proofs.latitude.Reads as latitude-reads
use Rattle.coordinates.proofs.longitude.Kinds as longitude-kinds
use Rattle.coordinates.proofs.longitude.Reads as longitude-reads
use Rattle.coordinates.proofs.good_latitude.Kinds as good-latitude-kinds
use Rattle.coordinates.proofs.good_latitude.Reads as good-latitude-reads
use Rattle.coordinates.proofs.good_longitude.Kinds as good-longitude-kinds
use Rattle.coordinates.proofs.good_longitude.Reads as good-longitude-reads
use Rattle.coordinates.proofs.empty_coordinate.Kinds as empty-coordinate-kinds
use Rattle.coordinates.proofs.empty_coordinate.Reads as empty-coordinate-reads
use Rattle.coordinates.proofs.signed.Kinds as signed-kinds
use Rattle.coordinates.proofs.signed.Reads as signed-Reads
use Rattle.coordinates.proofs.same_point.Kinds as same-point-kinds
use Rattle.coordinates.proofs.same_point.Reads as same-point-reads
use Rattle.coordinates.proofs.good_point.Kinds as good-point-kinds
use Rattle.coordinates.proofs.good_point.Reads as good-point-reads
use Rattle.coordinates.proofs.empty_point.Kinds as empty-point-kinds
use Rattle.coordinates.proofs.empty_point.Reads as empty-point-reads
use Rattle.coordinates.proofs.same_latitude.Kinds as same-latitude-kinds
use Rattle.coordinates.proofs.same_latitude.Reads as same-latitude-reads

pub latitude-determined : Determines 1 latitude-kinds.ps latitude-kinds.r latitude-reads.Learnt
latitude-determined κs a r s x y p q = determined p q

pub longitude-determined : Determines 1 longitude-kinds.ps longitude-kinds.r longitude-reads.Learnt
longitude-determined κs a r s x y p q = determined p q

pub good-latitude-determined : Determines 0 good-latitude-kinds.ps good-latitude-kinds.r good-latitude-reads.Learnt
good-latitude-determined κs a r s x y p q = determined p q

pub good-longitude-determined : Determines 0 good-longitude-kinds.ps good-longitude-kinds.r good-longitude-reads.Learnt
good-longitude-determined κs a r s x y p q = determined p q

pub empty-coordinate-determined : Determines 0 empty-coordinate-kinds.ps empty-coordinate-kinds.r empty-coordinate-reads.Learnt
empty-coordinate-determined κs a r s x y p q = determined p q

pub signed-determined : Determines 0 signed-kinds.ps signed-kinds.r signed-Reads.Learnt
signed-determined κs a r s x y p q = determined p q

pub same-point-determined : Determines 0 same-point-kinds.ps same-point-kinds.r same-point-reads.Learnt
same-point-determined κs a r s x y p q = determined p q

pub good-point-determined : Determines 0 good-point-kinds.ps good-point-kinds.r good-point-reads.Learnt
good-point-determined κs a r s x y p q = determined p q

pub empty-point-determined : Determines 0 empty-point-kinds.ps empty-point-kinds.r empty-point-reads.Learnt
empty-point-determined κs a r s x y p q = determined p q

pub same-latitude-determined : Determines 0 same-latitude-kinds.ps same-latitude-kinds.r same-latitude-reads.Learnt
same-latitude-determined κs a r s x y p q = determined p q

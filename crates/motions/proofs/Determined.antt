-- Each public contract of this crate determines its reply: two replies that it allows on the same arguments are equal.
use Rattle.lists.proofs.Choice.{determined}
use Rattle.lists.specs.Determined.{Determines}
use Rattle.motions.proofs.compass_word.Kinds as compass-word-kinds
use Rattle.motions.proofs.compass_word.Reads as compass-word-reads
use Rattle.motions.proofs.intensity_word.Kinds as intensity-word-kinds
use Rattle.motions.proofs.intensity_word.Reads as intensity-word-reads
use Rattle.motions.proofs.good_speed.Kinds as good-speed-kinds
use Rattle.motions.proofs.good_speed.Reads as good-speed-reads
use Rattle.motions.proofs.speed_word.Kinds as speed-word-kinds
use Rattle.motions.proofs.speed_word.Reads as speed-word-reads

pub compass-word-determined : Determines 1 compass-word-kinds.ps compass-word-kinds.r compass-word-reads.Learnt
compass-word-determined κs a r s x y p q = determined p q

pub intensity-word-determined : Determines 1 intensity-word-kinds.ps intensity-word-kinds.r intensity-word-reads.Learnt
intensity-word-determined κs a r s x y p q = determined p q

pub good-speed-determined : Determines 0 good-speed-kinds.ps good-speed-kinds.r good-speed-reads.Learnt
good-speed-determined κs a r s x y p q = determined p q

pub speed-word-determined : Determines 1 speed-word-kinds.ps speed-word-kinds.r speed-word-reads.Learnt
speed-word-determined κs a r s x y p q = determined p q

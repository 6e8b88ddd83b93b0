-- Each public contract of this crate determines its reply: two replies that it allows on the same arguments are equal.
use Rattle.lists.proofs.Choice.{determined}
use Rattle.lists.specs.Determined.{Determines}
use Rattle.levels.proofs.feet_figures.Kinds as feet-figures-kinds
use Rattle.levels.proofs.feet_figures.Reads as feet-figures-reads
use Rattle.levels.proofs.level_word.Kinds as level-word-kinds
use Rattle.levels.proofs.level_word.Reads as level-word-reads
use Rattle.levels.proofs.good_level.Kinds as good-level-kinds
use Rattle.levels.proofs.good_level.Reads as good-level-reads
use Rattle.levels.proofs.empty_level.Kinds as empty-level-kinds
use Rattle.levels.proofs.empty_level.Reads as empty-level-reads

pub feet-figures-determined : Determines 0 feet-figures-kinds.ps feet-figures-kinds.r feet-figures-reads.Learnt
feet-figures-determined κs a r s x y p q = determined p q

pub level-word-determined : Determines 1 level-word-kinds.ps level-word-kinds.r level-word-reads.Learnt
level-word-determined κs a r s x y p q = determined p q

pub good-level-determined : Determines 0 good-level-kinds.ps good-level-kinds.r good-level-reads.Learnt
good-level-determined κs a r s x y p q = determined p q

pub empty-level-determined : Determines 0 empty-level-kinds.ps empty-level-kinds.r empty-level-reads.Learnt
empty-level-determined κs a r s x y p q = determined p q

-- The public contracts of this crate determine their replies: two replies that one of them allows on the same arguments are equal.
use Rattle.lists.proofs.Choice.{determined}
use Rattle.lists.specs.Determined.{Determines}
use Rattle.places.proofs.RefusalLaws.{answer-only}
use Rattle.board.proofs.Board.new.Kinds as new-kinds
use Rattle.board.proofs.Board.new.Reads as new-reads
use Rattle.board.proofs.Board.is_good.Kinds as is-good-kinds
use Rattle.board.proofs.Board.is_good.Reads as is-good-reads
use Rattle.board.proofs.Board.refusal_at.Kinds as refusal-at-kinds
use Rattle.board.proofs.Board.refusal_at.Reads as refusal-at-reads
use Rattle.board.proofs.Board.post.Kinds as post-kinds
use Rattle.board.proofs.Board.post.Reads as post-reads

pub new-determined : Determines 0 new-kinds.ps new-kinds.r new-reads.Learnt
new-determined κs a r s x y p q = determined p q

pub is-good-determined : Determines 0 is-good-kinds.ps is-good-kinds.r is-good-reads.Learnt
is-good-determined κs a r s x y p q = determined p q

pub refusal-at-determined : Determines 0 refusal-at-kinds.ps refusal-at-kinds.r refusal-at-reads.Learnt
refusal-at-determined κs a r s x y p q = answer-only r s (determined p q)

pub post-determined : Determines 0 post-kinds.ps post-kinds.r post-reads.Learnt
post-determined κs a r s x y p q = determined p q

-- `letters` meets its contract: the loop keeps what the letters still to be read add to the number.
use mathlib.Core.Bool.{true}
use mathlib.Core.Path.{◌≡◌, refl, sym, ◌∙◌}
use Prim.Native.Nat.{◌<◌}
use native.Mathlib.Omega.{arith}
use lib.ListN.{length, get_or}
use lib.Dec.{ltb}
use borrow.Author.Tests.{le-leb, lt-leb, lt-ltb, le-ltb, ne_eqb}
use Rattle.lists.proofs.Found.{found-some, found-none}
use Rattle.lists.specs.Base.{worth}
use Rattle.words.specs.Bytes.{letter}
use Rattle.figures.specs.Letters.{letters_of}
use Rattle.figures.proofs.Reading.{begins, fits, goes, barred, passed, whole}
use Rattle.figures.proofs.LetterLaws.{letter-small, letters-barred, letters-are}
use Rattle.figures.proofs.letters.Goals as goal
use Rattle.figures.proofs.letters.Goals.{Else-not-is_letter, After-loop-x}

-- the byte that is read is a letter
read-letter : (c : Else-not-is_letter) → letter (get_or c.args.w.now c.loop-x.x-index 0) ≡ true
read-letter c = sym c.is_letter.ensures ∙ c.if-not-is_letter.false

read_small : (c : Else-not-is_letter) → get_or c.args.w.now c.loop-x.x-index 0 < 256
read_small c = letter-small _ (read-letter c)

pub returns-then-k-gt4 : goal.returns-then-k-gt4
unfolding letters_of
returns-then-k-gt4 c = rw (lt-leb c.args.k 4 (omega arith))

pub returns-then-w-k : goal.returns-then-w-k
unfolding letters_of
returns-then-w-k c = rw (le-leb c.args.k 4 (omega arith), ne_eqb (length c.args.w.now) c.args.k c.if-w-k.true)

pub loop-x-init : goal.loop-x-init
loop-x-init c = begins 256 0 4 letter _ _ (omega arith)

pub returns-then-not-is_letter : goal.returns-then-not-is_letter
returns-then-not-is_letter c = found-none (ltb 0) (letters-barred _ _ (barred 256 0 4 letter _ _ c.loop-x.invariant (omega arith) (sym c.is_letter.ensures ∙ c.if-not-is_letter.true))) refl

pub overflow_mul-n : goal.overflow_mul-n
overflow_mul-n c = omega (arith, fits 256 0 4 letter _ _ c.loop-x.invariant {d = 0} (omega arith) (omega arith))

pub overflow_cast-n : goal.overflow_cast-n
overflow_cast-n c = omega (arith, read_small (goal.at.overflow_cast-n c).Else-not-is_letter)

pub overflow_add-n : goal.overflow_add-n
overflow_add-n c = omega (arith, fits 256 0 4 letter _ _ c.loop-x.invariant (omega arith) (read_small (goal.at.overflow_add-n c).Else-not-is_letter))

pub loop-x-preserved : goal.loop-x-preserved
loop-x-preserved c = goes 256 0 4 letter _ _ c.loop-x.invariant (omega arith) refl (read-letter (goal.at.loop-x-preserved c).Else-not-is_letter) refl (read_small (goal.at.loop-x-preserved c).Else-not-is_letter)

-- what the loop counted
counted : (c : After-loop-x) → c.loop-x.n ≡ letters_of c.args.k c.args.w.now
counted c =
    let m : c.loop-x.n ≡ worth 256 c.args.w.now = whole 256 0 4 letter _ _ c.loop-x.invariant (omega arith) refl in
    letters-are c.args.k c.args.w.now (omega arith) (omega arith) (passed 256 0 4 letter _ _ c.loop-x.invariant (omega arith)) m

pub returns-then-n-gt0 : goal.returns-then-n-gt0
returns-then-n-gt0 c = found-some (ltb 0) (counted (goal.at.returns-then-n-gt0 c).After-loop-x) (lt-ltb 0 _ (omega arith))

pub returns-else-n-gt0 : goal.returns-else-n-gt0
returns-else-n-gt0 c = found-none (ltb 0) (counted (goal.at.returns-else-n-gt0 c).After-loop-x) (le-ltb 0 _ (omega arith))

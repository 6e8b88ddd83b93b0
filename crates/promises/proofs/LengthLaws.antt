-- The length of a refusal: what `Replied` says of it, on the bytes of the bulletin.
use mathlib.Core.Bool.{true, false}
use mathlib.Core.List.{List, [], ◌∷◌}
use mathlib.Core.Path.{◌≡◌, refl}
use Prim.Native.Nat.{ℕ, ◌<◌}
use native.Mathlib.Omega.{arith}
use Rattle.lists.specs.Lists.{all_of}
use Rattle.words.specs.Bytes.{allowed, solid, unequal}
use Rattle.words.specs.Check.{equals_at}
use Rattle.words.proofs.Refusals.{check-sized}
use Rattle.grammar.specs.Replies.{Replied}
use Rattle.grammar.specs.Replies.Replied.{unreadable, read_as, refused_with}
use Rattle.grammar.specs.declared.Reply.{Reply}
use Rattle.grammar.proofs.Theorems as grammar
use Rattle.promises.specs.Lengths.{underlined, Lengths}
use Rattle.promises.proofs.JudgementLaws.{says, refused-word}

module _ (b : List ℕ) where
  barred : (p : Reply) → Replied b p → p.number ≡ 2 → (p.length ≡ 1) × ((byte : ℕ) × (underlined b p ≡ byte ∷ []) × (allowed byte ≡ false))
  barred p (unreadable k) h = let two = (check-sized b).two h in rw two.0 (refl, two.1)
  barred p (read_as c g w) h = absurd (omega arith)
  barred p (refused_with c low high r) h = absurd (omega arith)

  after : (p : Reply) → Replied b p → p.number ≡ 3 → all_of unequal b ≡ false
      → (p.length ≡ 1) × (equals_at b < p.place) × ((byte : ℕ) × (underlined b p ≡ byte ∷ []) × (solid byte ≡ true))
  after p (unreadable k) h f = let three = (check-sized b).after h f in rw three.0 (refl, three.1, three.2)
  after p (read_as c g w) h f = absurd (omega arith)
  after p (refused_with c low high r) h f = absurd (omega arith)

  missing : (p : Reply) → Replied b p → p.number ≡ 3 → all_of unequal b ≡ true → p.length ≡ 0
  missing p (unreadable k) h f = (check-sized b).missing h f
  missing p (read_as c g w) h f = refl
  missing p (refused_with c low high r) h f = absurd (omega arith)

  unfit : (p : Reply) → Replied b p → p.number ≡ 1 → p.length ≡ 0
  unfit p (unreadable k) h = (check-sized b).one h
  unfit p (read_as c g w) h = refl
  unfit p (refused_with c low high r) h = absurd (omega arith)

  read : (p : Reply) → Replied b p → p.number ≡ 0 → p.length ≡ 0
  read p (unreadable k) h = absurd (omega arith)
  read p (read_as c g w) h = refl
  read p (refused_with c low high r) h = absurd (omega arith)

pub lengths : Lengths
lengths =
    record {
      word = λ b p m h. let w = refused-word b p (says b p m) h in (w.1, grammar.refused-bytes b p.number p.place p.length w.0 w.1);
      sign = λ b p m h. let w = refused-word b p (says b p m) h in grammar.refused-equals b p.number p.place p.length w.0 w.1;
      barred = λ b p m. barred b p (says b p m);
      after = λ b p m. after b p (says b p m);
      unfit = λ b p m. unfit b p (says b p m);
      missing = λ b p m. missing b p (says b p m);
      read = λ b p m. read b p (says b p m);
    }

-- 01, "How much each contract has to say": "The contract of a public function determines its reply and the final contents of lent buffers on
-- every input, refused ones too." What that means of a function of any signature: two outcomes that it allows on the same arguments are equal.
-- Believed.
use Rattle.std.specs.Prelude.{List, ◌≡◌, ℕ}
use contract.Lifetimes.{Lfts}
use denote.Triple.Clauses.{AtExit, Lasts, at_exit}
use borrow.Fn.Kinds.{ParamKind, ResultKind, Out, Dens, res_t, ended_of}

-- `Learnt` of a function is what a caller learns of arguments, reply and parameters at exit: the function's `ensures`
abbrev pub Determines : (n : ℕ) (ps : List (ParamKind n)) (k : ResultKind n) → Out n ps k → Type 0
Determines n ps k Q = (κs : Lfts n) (a : Dens κs ps) (r s : (res_t k κs).Denot) (x y : AtExit (ended_of n ps k) κs) → Q κs a r x → Q κs a s y → r ≡ s

-- For a function with lent buffers: two outcomes, each a reply with the last contents of every buffer (`Lasts`: a list for each `&mut [u8]`,
-- nothing for the other parameters), are equal. A buffer stays where it lies: at exit it is seen as it was passed, with these contents (`at_exit`).
abbrev pub Settles : (n : ℕ) (ps : List (ParamKind n)) (k : ResultKind n) → Out n ps k → Type 0
Settles n ps k Q = (κs : Lfts n) (a : Dens κs ps) (r s : (res_t k κs).Denot) (x y : Lasts (ended_of n ps k) κs a)
    → Q κs a r (at_exit (ended_of n ps k) κs a x) → Q κs a s (at_exit (ended_of n ps k) κs a y) → (r ≡ s) × (x ≡ y)

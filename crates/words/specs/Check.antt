-- 01, "Refusal numbers", reader, numbers 1 to 3 with their places, in the paper's order; 02, CR 4, their lengths: "1 for number 2 and for a
-- byte after `=`, 0 for number 1 and for a missing `=`".
-- Believed.
use Rattle.std.specs.Prelude.{Result, Ok, Err, List, ℕ, ◌+◌, ltb, eqb, length}
use Rattle.lists.specs.Choice.{pick, either}
use Rattle.lists.specs.Lists.{index_of, index_from}
use Rattle.words.specs.Bytes.{solid, equals, barred}
use Rattle.words.specs.declared.Fault.{Fault}
use Rattle.words.specs.declared.Fault.TheVariants.{Length, Barred, NoEquals, Behind}

-- the refusal number with its place and length, or number 0 with the place of the first `=` and length 0
pub record Checked : Type 0 where
  pub number : ℕ
  pub place : ℕ
  pub length : ℕ

-- "byte not allowed": the first such
abbrev pub barred_at : List ℕ → ℕ
barred_at b = index_of barred b

-- the first `=`, or the length where there is none
abbrev pub equals_at : List ℕ → ℕ
equals_at b = index_of equals b

-- "Only spaces, CR and LF may follow it": the first other byte behind the first `=`
abbrev pub after_at : List ℕ → ℕ
after_at b = index_from solid (equals_at b + 1) b

-- number 0 with the place of the `=` where the words can be read, else number, place and length of the refusal
unfoldable pub check_of : List ℕ → Checked
check_of b =
    pick (either (eqb (length b) 0) (ltb 2048 (length b))) (record { number = 1; place = 0; length = 0 })
    (pick (ltb (barred_at b) (length b)) (record { number = 2; place = barred_at b; length = 1 })
    (pick (eqb (equals_at b) (length b)) (record { number = 3; place = length b; length = 0 })
    (pick (ltb (after_at b) (length b)) (record { number = 3; place = after_at b; length = 1 })
    (record { number = 0; place = equals_at b; length = 0 }))))

-- what an answer of `check` tells: number, place and length
abbrev pub told : Result ℕ Fault → Checked
told (Ok place) = record { number = 0; place = place; length = 0 }
told (Err Length) = record { number = 1; place = 0; length = 0 }
told (Err (Barred place)) = record { number = 2; place = place; length = 1 }
told (Err (NoEquals place)) = record { number = 3; place = place; length = 0 }
told (Err (Behind place)) = record { number = 3; place = place; length = 1 }

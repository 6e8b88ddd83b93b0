-- What is known on the walk of `check`: the answer as far as the bytes seen tell it.
-- Internal contract.
use Rattle.std.specs.Prelude.{List, [], ◌∷◌, ℕ, suc, ◌+◌, ltb, eqb}
use Prim.Native.Char.{code}
use Rattle.lists.specs.Choice.{pick}
use Rattle.words.specs.Kinds.{kind_of}
use Rattle.words.specs.Check.{Checked}
use Rattle.words.specs.declared.one_walk.SoFar.{SoFar}
use Rattle.words.specs.declared.one_walk.SoFar.TheVariants.{NoEquals, Blanks, Behind, Barred}

-- no `=` so far; n is the number of all bytes
abbrev pub no_equals : ℕ → Checked
no_equals n = record { number = 3; place = n; length = 0 }

-- what is known, as number, place and length; n is the number of all bytes
abbrev pub shown : ℕ → SoFar → Checked
shown n NoEquals = no_equals n
shown n (Blanks place) = record { number = 0; place = place; length = 0 }
shown n (Behind place) = record { number = 3; place = place; length = 1 }
shown n (Barred place) = record { number = 2; place = place; length = 1 }

-- the least kind that can change what is known: behind the `=` that of a word, beyond something else there that of a byte not allowed, and
-- before the `=` that of `=`; where a byte is not allowed none can, and it is not asked
unfoldable pub matters_from : Checked → ℕ
matters_from known = pick (eqb known.number 0) (code ".") (pick (eqb known.length 1) (code "?") (code "="))

-- what is known when a byte of kind k was seen at place p, too: a byte that is not allowed, something else than blanks behind the first `=`, or
-- that `=` itself
unfoldable pub seen_at : Checked → ℕ → ℕ → Checked
seen_at known p k =
    pick (eqb known.number 2) known
    (pick (ltb k (matters_from known)) known
    (pick (eqb k (code "?")) (record { number = 2; place = p; length = 1 })
    (pick (eqb known.number 0) (record { number = 3; place = p; length = 1 })
    (record { number = 0; place = p; length = 0 }))))

-- the same of the four bytes of a turn
unfoldable pub four_seen : Checked → ℕ → ℕ → ℕ → ℕ → ℕ → Checked
four_seen known p k l m n = seen_at (seen_at (seen_at (seen_at known p k) (p + 1) l) (p + 2) m) (p + 3) n

-- the same of bytes from place p on
unfoldable pub all_seen : Checked → ℕ → List ℕ → Checked
all_seen known p [] = known
all_seen known p (x ∷ xs) = all_seen (seen_at known p (kind_of x)) (suc p) xs

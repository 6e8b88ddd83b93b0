-- 01, "From bytes to words": the bytes that a bulletin is made of.
-- Believed.
use Rattle.std.specs.Prelude.{Bool, not, ℕ, leb, eqb}
use Prim.Native.Char.{code}
use Rattle.lists.specs.Choice.{both, either}

-- the number x lies from a to b, both counted
abbrev pub between : ℕ → ℕ → ℕ → Bool
between a b x = both (leb a x) (leb x b)

-- A-Z
abbrev pub letter : ℕ → Bool
letter x = between (code "A") (code "Z") x

-- 0-9
abbrev pub digit : ℕ → Bool
digit x = between (code "0") (code "9") x

-- space, CR and LF
abbrev pub blank : ℕ → Bool
blank x = either (eqb x (code " ")) (either (eqb x (code "\r")) (eqb x (code "\n")))

-- what is no blank
abbrev pub solid : ℕ → Bool
solid x = not (blank x)

-- `/ - . ,`
abbrev pub punctuation : ℕ → Bool
punctuation x = either (eqb x (code "/")) (either (eqb x (code "-")) (either (eqb x (code ".")) (eqb x (code ","))))

-- `( )`
abbrev pub bracket : ℕ → Bool
bracket x = either (eqb x (code "(")) (eqb x (code ")"))

-- `=`
abbrev pub equals : ℕ → Bool
equals x = eqb x (code "=")

-- any other byte
abbrev pub unequal : ℕ → Bool
unequal x = not (equals x)

-- "A-Z, 0-9, space, CR, LF and `/ - . , ( ) =`"
unfoldable pub allowed : ℕ → Bool
allowed x = either (letter x) (either (digit x) (either (blank x) (either (punctuation x) (either (bracket x) (equals x)))))

abbrev pub barred : ℕ → Bool
barred x = not (allowed x)

-- what a word may have: a byte that is allowed and neither blank nor `=`
abbrev pub plain : ℕ → Bool
plain x = both (allowed x) (both (solid x) (unequal x))

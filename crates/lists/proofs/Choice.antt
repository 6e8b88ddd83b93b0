-- The laws of choosing by a test.
use mathlib.Core.Bool.{Bool, true, false}
use mathlib.Core.Path.{◌≡◌, refl, sym, ◌∙◌}
use Prim.Native.Nat.{ℕ}
use native.Mathlib.Omega.{arith}
use Rattle.lists.specs.Choice.{pick, both, either}

-- a test is true or false, with the equation
pub by : {A : Type 0} (b : Bool) → (b ≡ true → A) → (b ≡ false → A) → A
by true t f = t refl
by false t f = f refl

pub clash : {A : Type 0} (b : Bool) → b ≡ true → b ≡ false → A
clash true t f = let z : ◌≡◌ {A = ℕ} 0 1 = cc in absurd (omega arith)
clash false t f = let z : ◌≡◌ {A = ℕ} 0 1 = cc in absurd (omega arith)

pub both_left : (a b : Bool) → both a b ≡ true → a ≡ true
both_left true b e = refl
both_left false b e = e

pub both_right : (a b : Bool) → both a b ≡ true → b ≡ true
both_right true b e = e
both_right false b e = clash false e refl

pub both_true : {a b : Bool} → a ≡ true → b ≡ true → both a b ≡ true
both_true p q = cc

-- tests that all hold
pub both-three : (a b c : Bool) → both a (both b c) ≡ true → (a ≡ true) × (b ≡ true) × (c ≡ true)
both-three a b c e =
    let rest : both b c ≡ true = both_right a (both b c) e in
    (both_left a (both b c) e, both_left b c rest, both_right b c rest)

pub both-four : (a b c d : Bool) → both a (both b (both c d)) ≡ true → (a ≡ true) × (b ≡ true) × (c ≡ true) × (d ≡ true)
both-four a b c d e =
    let t = both-three a b (both c d) e in
    (t.0, t.1, both_left c d t.2, both_right c d t.2)

pub both-five : (a b c d f : Bool) → both a (both b (both c (both d f))) ≡ true → (a ≡ true) × (b ≡ true) × (c ≡ true) × (d ≡ true) × (f ≡ true)
both-five a b c d f e =
    let t = both-four a b c (both d f) e in
    (t.0, t.1, t.2, both_left d f t.3, both_right d f t.3)

pub both-unit : (b : Bool) → both b true ≡ b
both-unit true = refl
both-unit false = refl

pub both-false-left : {a : Bool} (b : Bool) → a ≡ false → both a b ≡ false
both-false-left b p = cc

pub both-false-right : (a : Bool) {b : Bool} → b ≡ false → both a b ≡ false
both-false-right true p = p
both-false-right false p = refl

pub either_left : {a : Bool} (b : Bool) → a ≡ true → either a b ≡ true
either_left b p = cc

pub either-right : (a : Bool) {b : Bool} → b ≡ true → either a b ≡ true
either-right true p = refl
either-right false p = p

pub either-false : {a b : Bool} → a ≡ false → b ≡ false → either a b ≡ false
either-false p q = cc

pub either-cases : {A : Type 0} (a b : Bool) → either a b ≡ true → (a ≡ true → A) → (b ≡ true → A) → A
either-cases true b e f g = f refl
either-cases false b e f g = g e

pub pick_true : {A : Type 0} {b : Bool} (x y : A) → b ≡ true → pick b x y ≡ x
pick_true x y p = cc

pub pick-false : {A : Type 0} {b : Bool} (x y : A) → b ≡ false → pick b x y ≡ y
pick-false x y p = cc

-- two outcomes that a contract `r ≡ value` allows are equal: what determines every contract of that form
pub determined : {A : Type 0} {r s value : A} → r ≡ value → s ≡ value → r ≡ s
determined p q = p ∙ sym q

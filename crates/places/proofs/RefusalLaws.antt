-- The refusals' numbers tell them apart, and so what a claim answers is known by its number and place.
use mathlib.Core.Path.{◌≡◌, refl, sym, ap, ◌∙◌}
use Prim.Native.Nat.{ℕ}
use native.Mathlib.Omega.{arith}
use lib.Dec.{eqb}
use Rattle.std.specs.Prelude.{Result, Ok, Err}
use Rattle.lists.specs.Choice.{pick}
use Rattle.places.specs.Claims.{claim_in}
use Rattle.places.specs.Refusals.{number_of, answer_of}
use Rattle.places.specs.declared.Place.{Place}
use Rattle.places.specs.declared.refusals.Refusal.{Refusal}
use Rattle.places.specs.declared.refusals.Refusal.TheVariants.{BadRecord, Test, ClockOutOfRange, ClockGoesBack, NoStart, NoEnd, Ended, Held, Marked, Full, BadBoard}

-- the refusal of a number
abbrev refusal_of : ℕ → Refusal
refusal_of n =
    pick (eqb n 13) BadRecord
    (pick (eqb n 15) Test
    (pick (eqb n 16) ClockOutOfRange
    (pick (eqb n 17) ClockGoesBack
    (pick (eqb n 18) NoStart
    (pick (eqb n 19) NoEnd (pick (eqb n 20) Ended (pick (eqb n 21) Held (pick (eqb n 22) Marked (pick (eqb n 23) Full BadBoard)))))))))

found-again : (e : Refusal) → refusal_of (number_of e) ≡ e
found-again BadRecord = refl
found-again Test = refl
found-again ClockOutOfRange = refl
found-again ClockGoesBack = refl
found-again NoStart = refl
found-again NoEnd = refl
found-again Ended = refl
found-again Held = refl
found-again Marked = refl
found-again Full = refl
found-again BadBoard = refl

number-only : {a b : Refusal} → number_of a ≡ number_of b → a ≡ b
number-only {a} {b} e = sym (found-again a) ∙ ap refusal_of e ∙ found-again b

-- no refusal has the number 0
pub number_some : (e : Refusal) → number_of e ≡ 0 → ⊥
number_some BadRecord z = omega arith
number_some Test z = omega arith
number_some ClockOutOfRange z = omega arith
number_some ClockGoesBack z = omega arith
number_some NoStart z = omega arith
number_some NoEnd z = omega arith
number_some Ended z = omega arith
number_some Held z = omega arith
number_some Marked z = omega arith
number_some Full z = omega arith
number_some BadBoard z = omega arith

pub claim-only : (a b : Result Place Refusal) → claim_in a ≡ claim_in b → a ≡ b
claim-only (Ok p) (Ok q) e = ap (λ x. Ok x.place) e
claim-only (Ok p) (Err f) e = absurd (number_some f (sym (ap (λ x. x.answer) e)))
claim-only (Err f) (Ok q) e = absurd (number_some f (ap (λ x. x.answer) e))
claim-only (Err f) (Err g) e = ap (λ x. Err x) (number-only (ap (λ x. x.answer) e))

pub answer-only : (a b : Result (Unit {0}) Refusal) → answer_of a ≡ answer_of b → a ≡ b
answer-only (Ok x) (Ok y) e = refl
answer-only (Ok x) (Err f) e = absurd (number_some f (sym e))
answer-only (Err f) (Ok y) e = absurd (number_some f e)
answer-only (Err f) (Err g) e = ap (λ x. Err x) (number-only e)

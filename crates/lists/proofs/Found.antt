-- A value where it passes the test, and nothing where it does not.
use mathlib.Core.Bool.{Bool, true, false}
use mathlib.Core.Path.{◌≡◌, refl, sym, ◌∙◌}
use Rattle.std.specs.Prelude.{Option, None, Some}
use Rattle.std.proofs.lemmas.Option.{none-some, same_Some}
use Rattle.lists.specs.Choice.{pick, found}
use Rattle.lists.proofs.Choice.{by}

-- The ways out of the code that finds `u`, which is the value.

pub found-some : {A : Type 0} {v u : A} (good : A → Bool) → u ≡ v → good u ≡ true → Some u ≡ found good v
found-some good e g = rw (← e, g) refl

pub found-none : {A : Type 0} {v u : A} (good : A → Bool) → u ≡ v → good u ≡ false → None ≡ found good v
found-none good e g = rw (← e, g) refl

-- What was found is the value, which passes the test; and where nothing was found it does not.

module _ {A : Type 0} {v u : A} (good : A → Bool) (e : Some u ≡ found good v) where
  pub some-good : good v ≡ true
  some-good = by (good v) (λ y. y) (λ n. absurd (none-some u (sym (e ∙ rw n refl))))

  pub some-is : u ≡ v
  some-is = same_Some u v (e ∙ rw some-good refl)

pub none-bad : {A : Type 0} {v : A} (good : A → Bool) → None ≡ found good v → good v ≡ false
none-bad {v = v} good e = by (good v) (λ y. absurd (none-some v (e ∙ rw y refl))) (λ n. n)

-- … the other way round

pub found-is : {A : Type 0} {v x : A} (good : A → Bool) → found good v ≡ Some x → (v ≡ x) × (good v ≡ true)
found-is good e = (sym (some-is good (sym e)), some-good good (sym e))

pub found-out : {A : Type 0} {v : A} (good : A → Bool) → found good v ≡ None → good v ≡ false
found-out good e = none-bad good (sym e)

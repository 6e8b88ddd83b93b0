-- `one_walk::SoFar::seen` meets its contract: each return is one case of the definition.
use mathlib.Core.Path.{◌≡◌, refl, sym, ap}
use Prim.Native.Char.{code}
use Prim.Native.Nat.{ℕ, ◌≤◌}
use native.Mathlib.Omega.{arith}
use borrow.Author.Tests.{eq-eqb, ne_eqb, le-ltb}
use Rattle.words.specs.Check.{Checked}
use Rattle.words.specs.Seen.{shown, matters_from, seen_at}
use Rattle.words.specs.declared.one_walk.SoFar.{SoFar}
use Rattle.words.specs.declared.one_walk.SoFar.TheVariants.{NoEquals, Blanks, Behind, Barred}
use Rattle.words.proofs.SeenLaws.{seen-quiet, seen-settled}
use Rattle.words.proofs.one_walk.SoFar.seen.Goals as goal

-- what is known has number 2 only where a byte is not allowed, and number 0 only where blanks stand behind the `=`
unsettled : (n : ℕ) (v : SoFar) → ((x : ℕ) → v ≡ Barred x → ⊥) → (shown n v).number ≡ 2 → ⊥
unsettled n NoEquals not e = absurd (omega arith)
unsettled n (Blanks x) not e = absurd (omega arith)
unsettled n (Behind x) not e = absurd (omega arith)
unsettled n (Barred x) not e = not x refl

unended : (n : ℕ) (v : SoFar) → ((x : ℕ) → v ≡ Blanks x → ⊥) → (shown n v).number ≡ 0 → ⊥
unended n NoEquals not e = absurd (omega arith)
unended n (Blanks x) not e = not x refl
unended n (Behind x) not e = absurd (omega arith)
unended n (Barred x) not e = absurd (omega arith)

module _ (v : Checked) (p k : ℕ) {m : ℕ} (other : v.number ≡ 2 → ⊥) (e : m ≡ matters_from v) (h : m ≤ k) where
  on-barred : k ≡ code "?" → ◌≡◌ {A = Checked} (record { number = 2; place = p; length = 1 }) (seen_at v p k)
  unfolding seen_at
  on-barred is = rw (ne_eqb v.number 2 other, ← e, le-ltb k m h, eq-eqb k (code "?") is)

  module _ (fine : k ≡ code "?" → ⊥) where
    on-solid : v.number ≡ 0 → ◌≡◌ {A = Checked} (record { number = 3; place = p; length = 1 }) (seen_at v p k)
    unfolding seen_at
    on-solid ended = rw (ne_eqb v.number 2 other, ← e, le-ltb k m h, ne_eqb k (code "?") fine, eq-eqb v.number 0 ended)

    on-equals : (v.number ≡ 0 → ⊥) → ◌≡◌ {A = Checked} (record { number = 0; place = p; length = 0 }) (seen_at v p k)
    unfolding seen_at
    on-equals unended = rw (ne_eqb v.number 2 other, ← e, le-ltb k m h, ne_eqb k (code "?") fine, ne_eqb v.number 0 unended)

pub returns-in-Barred : goal.returns-in-Barred
returns-in-Barred c = λ n. sym (seen-settled (shown n c.args.self) _ _ (ap (λ (v : SoFar). (shown n v).number) c.in-Barred.is))

pub returns-then-kind-matters_from : goal.returns-then-kind-matters_from
returns-then-kind-matters_from c = λ n. sym (seen-quiet (shown n c.args.self) _ _ (rw (← (c.matters_from.ensures n)) c.if-kind-matters_from.true))

pub returns-then-kind-eq-BARRED : goal.returns-then-kind-eq-BARRED
returns-then-kind-eq-BARRED c = λ n. on-barred (shown n c.args.self) _ _ (unsettled n _ c.in_default.not-Barred) (c.matters_from.ensures n) c.if-kind-matters_from.false c.if-kind-eq-BARRED.true

pub returns-in-Blanks : goal.returns-in-Blanks
returns-in-Blanks c = λ n.
    on-solid (shown n c.args.self) _ _ (unsettled n _ c.in_default.not-Barred) (c.matters_from.ensures n) c.if-kind-matters_from.false c.if-kind-eq-BARRED.false
    (ap (λ (v : SoFar). (shown n v).number) c.in-Blanks.is)

pub returns-in_default-self : goal.returns-in_default-self
returns-in_default-self c = λ n.
    on-equals (shown n c.args.self) _ _ (unsettled n _ c.in_default.not-Barred) (c.matters_from.ensures n) c.if-kind-matters_from.false c.if-kind-eq-BARRED.false
    (unended n _ c.in_default-self.not-Blanks)

-- The word of a code is what stands behind the first of its eight bytes that is not 0.
use Rattle.std.proofs.Common.{ℕ, zero, suc, ◌+◌, ◌-◌, ◌*◌, ◌/◌, ◌%◌, ◌^◌, ◌<◌, ◌≤◌, ◌≡◌, ◌==◌, Bool, cond, not, nat_lt, List, [], ◌∷◌, ◌++◌, take, drop, Option, Some, None, refl, ap, sym, ◌∙◌, arith, inl, inr}
use Rattle.std.proofs.lemmas.Bool.{cases_lt}
use Rattle.std.proofs.Math.Nat.{pow-succ', div-div-eq-div-mul, div-eq_of_lt, div-lt_iff_lt-mul}
use Rattle.std.proofs.Math.ListN.{length-drop, drop_of_length-le}
use Rattle.std.proofs.Math.Seq.{take_all}
use Rattle.std.specs.Int.{w64, byte_at, bytes_high_first, to_be_bytes}
use Rattle.std.specs.List.{position, position_or_len}
use borrow.Author.Tests.{lt-ltb, le-ltb, ltb-false, ne_eqb}
use Rattle.lists.proofs.Choice.{by}
use Rattle.figures.specs.Codes.{behind_one, spell_code}
use Rattle.pens.specs.Pens.{Puts}
use Rattle.pens.proofs.PenLaws.{nothing}

-- byte i + 1 of a number is byte i of a 256th of it
byte-up : (i n : ℕ) → byte_at (suc i) n ≡ byte_at i (n / 256)
byte-up zero n = refl
byte-up (suc i) n = rw (div-div-eq-div-mul n 256 (256 ^ suc i), ← pow-succ' 256 (suc i)) refl

-- the bytes of a number, the last of them apart
last_apart : (k n : ℕ) → bytes_high_first (suc k) n ≡ bytes_high_first k (n / 256) ++ (n % 256 ∷ [])
last_apart zero n = refl
last_apart (suc k) n = rw (last_apart k n, byte-up k n) refl

some-power : (k : ℕ) → 1 ≤ 256 ^ k
some-power zero = omega arith
some-power (suc k) = rw (pow-succ' 256 k) (omega (arith, some-power k))

-- the bytes behind the first, of a number that has just so many
behind-first : (k most n : ℕ) → k ≤ most → 256 ^ k ≤ n → n < 256 ^ suc k → behind_one most n ≡ bytes_high_first k n
unfolding behind_one
behind-first zero zero n h low high = refl
behind-first zero (suc most) n h low high = rw (lt-ltb n 256 (omega arith)) refl
behind-first (suc k) zero n h low high = absurd (omega arith)
behind-first (suc k) (suc most) n h low high =
    let e : 256 ^ suc k ≡ 256 * 256 ^ k = pow-succ' 256 k in
    let f : 256 ^ suc (suc k) ≡ 256 * 256 ^ suc k = pow-succ' 256 (suc k) in
    let some : 1 ≤ 256 ^ k = some-power k in
    let less : 256 ≤ n = omega arith in
    let rest : behind_one most (n / 256) ≡ bytes_high_first k (n / 256) = behind-first k most (n / 256) (omega arith) (omega arith) (omega arith) in
    rw (le-ltb n 256 less, rest, last_apart k n) refl

-- the greatest byte of a number
top_byte : (k n : ℕ) → n < 256 ^ suc k → byte_at k n ≡ n / 256 ^ k
top_byte zero n h = omega arith
top_byte (suc k) n h =
    let e : 256 ^ suc (suc k) ≡ 256 * 256 ^ suc k = pow-succ' 256 (suc k) in
    let byte : n / 256 ^ suc k < 256 = (div-lt_iff_lt-mul (some-power (suc k))).1 (omega arith) in
    omega arith

abbrev set : ℕ → Bool
set x = not (x == 0)

-- … and of any number: behind the first that is not 0
behind : (k n : ℕ) → k ≤ 8 → n < 256 ^ k → spell_code n ≡ drop (position_or_len set (bytes_high_first k n) + 1) (bytes_high_first k n)
unfolding behind_one
behind zero n h low = let none : n ≡ 0 = omega arith in rw none refl
behind (suc k) n h low = elim (cases_lt n (256 ^ k)) [
  | inl less ↦
      let none : byte_at k n ≡ 0 = top_byte k n low ∙ div-eq_of_lt less in
      let z : ℕ = position_or_len set (bytes_high_first k n) in
      let e : 1 + z + 1 ≡ suc (z + 1) = omega arith in
      rw (none, e) (behind k n (omega arith) less)
  | inr more ↦
      let some : (byte_at k n ≡ 0 → ⊥) = λ f.
      let zero_there : n / 256 ^ k < 1 = omega (arith, top_byte k n low) in
      omega (arith, (div-lt_iff_lt-mul {k = 256 ^ k} {x = n} {y = 1} (some-power k)).0 zero_there) in
      rw (ne_eqb (byte_at k n) 0 some) (behind-first k 7 n (omega arith) more low)
]

-- What `put_code` finds among the bytes: no 1, or a 1 and the word behind it.

at_place : (z k : ℕ) {r : Option ℕ} (one : ℕ) → r ≡ cond (nat_lt z k) (Some z) None → r ≡ Some one → z ≡ one
at_place z k {r} one e f =
    by (nat_lt z k)
    (λ t. let g : r ≡ Some z = rw t at e in cc)
    (λ t. let g : r ≡ None = rw t at e in cc)

no_place_at : (z k : ℕ) {r : Option ℕ} → r ≡ cond (nat_lt z k) (Some z) None → r ≡ None → k ≤ z
no_place_at z k {r} e f =
    by (nat_lt z k)
    (λ t. let g : r ≡ Some z = rw t at e in cc)
    (λ t. ltb-false z k t)

pub no_one : (n : ℕ) {r : Option ℕ} {bytes : List ℕ} {at : ℕ} {page : List ℕ} → n < 2 ^ 64 → bytes ≡ to_be_bytes w64 n
    → r ≡ position set bytes → r ≡ None → Puts (spell_code n) at page at page
no_one n h b e f =
    let z : ℕ = position_or_len set (to_be_bytes w64 n) in
    let all : 8 ≤ z = no_place_at z 8 (e ∙ ap (position set) b) f in
    let none : spell_code n ≡ [] = behind 8 n (omega arith) h ∙ drop_of_length-le (to_be_bytes w64 n) (omega arith) in
    rw none nothing

pub behind-one : (n one : ℕ) {r : Option ℕ} {bytes : List ℕ} {at next : ℕ} {page after : List ℕ} → n < 2 ^ 64
    → bytes ≡ to_be_bytes w64 n → r ≡ position set bytes → r ≡ Some one
    → Puts (take (8 - (one + 1)) (drop (one + 1) bytes)) at page next after → Puts (spell_code n) at page next after
behind-one n one h b e f puts =
    let z : ℕ = position_or_len set (to_be_bytes w64 n) in
    let found : z ≡ one = at_place z 8 one (e ∙ ap (position set) b) f in
    let rest : List ℕ = drop (one + 1) (to_be_bytes w64 n) in
    let word : take (8 - (one + 1)) rest ≡ spell_code n =
    take_all (8 - (one + 1)) rest (omega (arith, length-drop (one + 1) (to_be_bytes w64 n))) ∙ (rw found at (sym (behind 8 n (omega arith) h))) in
    rw word at (rw b at puts)

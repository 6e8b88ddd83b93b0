-- What the loops of the one walk ask for, place by place.
use mathlib.Core.List.{List}
use mathlib.Core.Path.{◌≡◌, refl, sym, ◌∙◌}
use Prim.Native.Char.{code}
use Prim.Native.Nat.{ℕ, ◌+◌, ◌-◌, ◌*◌, ◌≤◌, ◌<◌}
use native.Mathlib.Numerals.{add-one}
use native.Mathlib.Omega.{arith}
use lib.ListN.{length, drop, get_or, drop_of_length-le}
use lib.Seq.{drop-cons}
use Rattle.words.specs.Kinds.{IsKind}
use Rattle.words.specs.Seen.{no_equals, seen_at, four_seen, all_seen, matters_from}
use Rattle.words.specs.Check.{Checked}
use Rattle.words.proofs.SeenLaws.{seen-quiet, all_settled}

-- v is what the bytes before place i tell, and with those from there on the answer is w
pub record Known (b : List ℕ) (i : ℕ) (v w : Checked) : Type 0 where
  pub so : w ≡ all_seen v i (drop i b)

pub known-end : {b : List ℕ} {i : ℕ} {v w : Checked} → Known b i v w → length b ≤ i → v ≡ w
unfolding all_seen
known-end {b} {i} {v} {w} t h = sym (t.so ∙ rw (drop_of_length-le b h))

pub known-settled : {b : List ℕ} {i : ℕ} {v w : Checked} → Known b i v w → v.number ≡ 2 → v ≡ w
known-settled {b} {i} {v} {w} t e = sym (t.so ∙ all_settled v i (drop i b) e)

-- what the bytes from place i on make of v is w
pub known-comes : {b : List ℕ} {i : ℕ} {v w r : Checked} → Known b i v w → r ≡ all_seen v i (drop i b) → r ≡ w
known-comes {b} {i} {v} {w} {r} t e = e ∙ sym t.so

pub known-again : {b : List ℕ} {i k : ℕ} {v w r : Checked} → Known b i v w → i < length b → IsKind (get_or b i 0) k → r ≡ seen_at v i k → Known b (i + 1) r w
unfolding all_seen
known-again {b} {i} {k} {v} {w} {r} t h is e = record { so = t.so ∙ rw (e, is.is, add-one, drop-cons b i 0 h) }

pub known-quiet : {b : List ℕ} {i k : ℕ} {v w : Checked} → Known b i v w → i < length b → IsKind (get_or b i 0) k → k < matters_from v → Known b (i + 1) v w
known-quiet {b} {i} {k} {v} {w} t h is low = known-again t h is (sym (seen-quiet v i k low))

-- a turn: what is known before it, and the kinds of its four bytes
pub record Turn (b : List ℕ) (i k l m n : ℕ) (v w : Checked) : Type 0 where
  pub before : Known b i v w
  pub within : 3 < length b - i
  pub first : IsKind (get_or b i 0) k
  pub second : IsKind (get_or b (i + 1) 0) l
  pub third : IsKind (get_or b (i + 2) 0) m
  pub fourth : IsKind (get_or b (i + 3) 0) n

pub turn-again : {b : List ℕ} {i k l m n : ℕ} {v w r : Checked} → Turn b i k l m n v w → r ≡ four_seen v i k l m n → Known b (i + 4) r w
unfolding four_seen
turn-again {b} {i} {k} {l} {m} {n} {v} {w} t e =
    let two : i + 1 + 1 ≡ i + 2 = omega arith in
    let three : i + 2 + 1 ≡ i + 3 = omega arith in
    let four : i + 3 + 1 ≡ i + 4 = omega arith in
    let past_one : Known b (i + 1) (seen_at v i k) w = known-again t.before (omega arith) t.first refl in
    let past_two = known-again past_one (omega arith) t.second refl in
    let past_three = known-again (rw two at past_two) (omega arith) t.third refl in
    rw (e, ← four) (known-again (rw three at past_three) (omega arith) t.fourth refl)

-- a turn changes nothing whose sum leaves no room for `=` or `?`
pub turn-quiet : {b : List ℕ} {i k l m n size : ℕ} {w : Checked} → Turn b i k l m n (no_equals size) w → k + l + (m + n) ≤ 4 * code "." → Known b (i + 4) (no_equals size) w
unfolding four_seen matters_from
turn-quiet {b} {i} {k} {l} {m} {n} {size} t low =
    let known : Checked = no_equals size in
    turn-again t
    (sym (rw (seen-quiet known i k (omega arith), seen-quiet known (i + 1) l (omega arith), seen-quiet known (i + 2) m (omega arith), seen-quiet known (i + 3) n (omega arith))))

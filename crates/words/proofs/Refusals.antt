-- The refusal table, numbers 1 to 3: number 1 as `check` meets it, when nothing is refused, and what `check_of` tells.
use mathlib.Core.Bool.{true, false}
use mathlib.Core.List.{List, [], ◌∷◌, ◌++◌}
use mathlib.Core.Path.{◌≡◌, refl, sym, ap, ◌∙◌}
use Prim.Native.Nat.{ℕ, suc, ◌+◌, ◌≤◌, ◌<◌, zero-le}
use native.Mathlib.Nat.{add-zero}
use native.Mathlib.Omega.{arith}
use lib.Dec.{ltb, eqb, lit≤}
use lib.ListN.{length, take, drop, get_or, length-append}
use lib.Seq.{split_at, drop-append-add}
use borrow.Author.Tests.{lt-ltb, le-ltb, eq-eqb, ne_eqb, ltb-true, ltb-false, eqb-true, eqb-false, not-true}
use Rattle.std.specs.Prelude.{Result, Ok, Err}
use Rattle.lists.specs.Choice.{pick, either}
use Rattle.lists.specs.Lists.{index_of, index_from, all_of, part}
use Rattle.lists.proofs.Choice.{by, clash, either_left, either-right}
use Rattle.lists.proofs.Lists.{part-one, from_found, index-within, index-found, index-clear, index-past, index-none, index-all, all_append, all_take, all-weaken, all-not-not}
use Rattle.words.specs.Bytes.{allowed, letter, digit, punctuation, bracket, blank, solid, equals, unequal, barred}
use Rattle.words.specs.Check.{Checked, told, check_of, barred_at, equals_at, after_at}
use Rattle.words.specs.declared.Fault.{Fault}
use Rattle.words.specs.declared.Fault.TheVariants.{Length, Barred, NoEquals, Behind}

pub refused-empty : (b : List ℕ) → length b ≡ 0 → ◌≡◌ {A = Checked} (record { number = 1; place = 0; length = 0 }) (check_of b)
unfolding check_of
refused-empty b h = rw (eq-eqb (length b) 0 h)

pub refused-long : (b : List ℕ) → (length b ≡ 0 → ⊥) → 2048 < length b → ◌≡◌ {A = Checked} (record { number = 1; place = 0; length = 0 }) (check_of b)
unfolding check_of
refused-long b some h = rw (ne_eqb (length b) 0 some, lt-ltb 2048 (length b) h)

-- what `check` refuses before the walk
pub ruleset refusals = (refused-empty, refused-long)

not-refused : (b : List ℕ) → (length b ≡ 0 → ⊥) → length b ≤ 2048 → {r s t : ℕ} → r ≡ barred_at b → length b ≤ r → s ≡ equals_at b → (s ≡ length b → ⊥)
    → t ≡ index_from solid (s + 1) b → length b ≤ t → ◌≡◌ {A = Checked} (record { number = 0; place = s; length = 0 }) (check_of b)
unfolding check_of
not-refused b some fits {r} {s} {t} e h f k g l =
    rw (ne_eqb (length b) 0 some, le-ltb 2048 (length b) fits, ← e, le-ltb r (length b) h, ← f, ne_eqb s (length b) k, ← g, le-ltb t (length b) l)

-- Answers of which the same is told are the same: an answer is found again in what is told of it.
unfoldable untold : Checked → Result ℕ Fault
untold c =
    pick (eqb c.number 0) (Ok c.place)
    (pick (eqb c.number 1) (Err Length)
    (pick (eqb c.number 2) (Err (Barred c.place))
    (pick (eqb c.length 0) (Err (NoEquals c.place)) (Err (Behind c.place)))))

untold-told : (r : Result ℕ Fault) → untold (told r) ≡ r
unfolding untold
untold-told (Ok place) = refl
untold-told (Err Length) = refl
untold-told (Err (Barred place)) = refl
untold-told (Err (NoEquals place)) = refl
untold-told (Err (Behind place)) = refl

pub told-once : (r s : Result ℕ Fault) → told r ≡ told s → r ≡ s
told-once r s e = sym (untold-told r) ∙ (ap untold e ∙ untold-told s)

-- What `check_of` tells.

-- a claim about `check_of b` is one for each line of the table
pub check-cases : (A : Checked → Type 0) (b : List ℕ) → A (record { number = 1; place = 0; length = 0 })
    → (barred_at b < length b → A (record { number = 2; place = barred_at b; length = 1 }))
    → (equals_at b ≡ length b → A (record { number = 3; place = length b; length = 0 }))
    → ((equals_at b ≡ length b → ⊥) → after_at b < length b → A (record { number = 3; place = after_at b; length = 1 }))
    → ((length b ≡ 0 → ⊥) → length b ≤ 2048 → length b ≤ barred_at b → (equals_at b ≡ length b → ⊥) → length b ≤ after_at b → A (record { number = 0; place = equals_at b; length = 0 }))
    → A (check_of b)
unfolding check_of
check-cases A b one two none after good =
    by (eqb (length b) 0) (λ e. rw e one)
    (λ some. by (ltb 2048 (length b)) (λ e. rw (some, e) one)
    (λ fits. by (ltb (barred_at b) (length b)) (λ e. rw (some, fits, e) (two (ltb-true (barred_at b) (length b) e)))
    (λ clean. by (eqb (equals_at b) (length b)) (λ e. rw (some, fits, clean, e) (none (eqb-true (equals_at b) (length b) e)))
    (λ found. by (ltb (after_at b) (length b)) (λ e. rw (some, fits, clean, found, e) (after (eqb-false (equals_at b) (length b) found) (ltb-true (after_at b) (length b) e)))
    (λ over. rw (some, fits, clean, found, over)
    (good (eqb-false (length b) 0 some) (ltb-false 2048 (length b) fits) (ltb-false (barred_at b) (length b) clean) (eqb-false (equals_at b) (length b) found) (ltb-false (after_at b) (length b) over)))))))

pub record Small (b : List ℕ) (r : Checked) : Type 0 where
  pub number : r.number ≤ 3
  pub place : r.place ≤ length b

pub check-small : (b : List ℕ) → Small b (check_of b)
check-small b = check-cases (Small b) b
    (record { number = lit≤ tt; place = zero-le })
    (λ h. record { number = lit≤ tt; place = omega arith })
    (λ h. record { number = lit≤ tt; place = omega arith })
    (λ found h. record { number = lit≤ tt; place = omega arith })
    (λ some fits clean found over. record { number = zero-le; place = index-within equals b })

-- the lengths of numbers 1 to 3
pub record Sized (b : List ℕ) (r : Checked) : Type 0 where
  pub one : r.number ≡ 1 → r.length ≡ 0
  pub two : r.number ≡ 2 → (r.length ≡ 1) × ((byte : ℕ) × (part r.place (r.place + 1) b ≡ byte ∷ []) × (allowed byte ≡ false))
  pub missing : r.number ≡ 3 → all_of unequal b ≡ true → r.length ≡ 0
  pub after : r.number ≡ 3 → all_of unequal b ≡ false
      → (r.length ≡ 1) × (equals_at b < r.place) × ((byte : ℕ) × (part r.place (r.place + 1) b ≡ byte ∷ []) × (solid byte ≡ true))

pub check-sized : (b : List ℕ) → Sized b (check_of b)
check-sized b = check-cases (Sized b) b
    (record { one = λ e. refl; two = λ e. absurd (omega arith); missing = λ e f. refl; after = λ e f. absurd (omega arith) })
    (λ h. record {
      one = λ e. absurd (omega arith);
      two = λ e. (refl, (get_or b (barred_at b) 0, part-one (barred_at b) b 0 h, not-true (allowed (get_or b (barred_at b) 0)) (index-found barred b 0 h)));
      missing = λ e f. absurd (omega arith);
      after = λ e f. absurd (omega arith);
    })
    (λ h. record {
      one = λ e. refl;
      two = λ e. absurd (omega arith);
      missing = λ e f. refl;
      after = λ e f. clash (all_of unequal b) (index-all equals b (omega arith)) f;
    })
    (λ found h. record {
      one = λ e. absurd (omega arith);
      two = λ e. absurd (omega arith);
      missing = λ e f. absurd (found (index-none equals b f));
      after = λ e f. (refl, omega arith, (get_or b (after_at b) 0, part-one (after_at b) b 0 h, from_found solid b (equals_at b + 1) 0 h));
    })
    (λ some fits clean found over. record { one = λ e. refl; two = λ e. absurd (omega arith); missing = λ e f. refl; after = λ e f. absurd (omega arith) })

-- what is known of bytes from which words can be read: `=` stands first at place e
pub record Readable (b : List ℕ) (e : ℕ) : Type 0 where
  pub at : e ≡ equals_at b
  pub within : e < length b
  pub fits : length b ≤ 2048
  pub split : b ≡ take e b ++ (61 ∷ drop (suc e) b)
  pub allowed-text : all_of allowed (take e b) ≡ true
  pub no-equals : all_of unequal (take e b) ≡ true

readable : (b : List ℕ) → length b ≤ 2048 → length b ≤ barred_at b → (equals_at b ≡ length b → ⊥) → Readable b (equals_at b)
readable b fits clean found =
    let e : ℕ = equals_at b in
    let within : e < length b = omega (arith, index-within equals b) in
    let byte : get_or b e 0 ≡ 61 = eqb-true (get_or b e 0) 61 (index-found equals b 0 within) in
    let all : all_of allowed b ≡ true = rw (all-not-not allowed b) at (index-all barred b clean) in
    record {
      at = refl;
      within = within;
      fits = fits;
      split = rw byte at (split_at b e 0 within);
      allowed-text = all_take allowed e b all;
      no-equals = index-clear equals b;
    }

pub check-readable : (b : List ℕ) → (check_of b).number ≡ 0 → Readable b (check_of b).place
check-readable b = check-cases (λ (r : Checked). r.number ≡ 0 → Readable b r.place) b
    (λ e. absurd (omega arith))
    (λ h e. absurd (omega arith))
    (λ h e. absurd (omega arith))
    (λ found h e. absurd (omega arith))
    (λ some fits clean found over e. readable b fits clean found)

-- And back: a text of allowed bytes without `=`, that `=`, and blanks, all of it short enough.

blank-allowed : (x : ℕ) → blank x ≡ true → allowed x ≡ true
unfolding allowed
blank-allowed x e = either-right (letter x) (either-right (digit x) (either_left (either (punctuation x) (either (bracket x) (equals x))) e))

module _ (t s : List ℕ) (good : all_of allowed t ≡ true) (free : all_of unequal t ≡ true) (after : all_of blank s ≡ true) where
  text-allowed : all_of allowed (t ++ (61 ∷ s)) ≡ true
  unfolding all_of allowed
  text-allowed = rw (all_append allowed t (61 ∷ s), good) (all-weaken blank allowed blank-allowed s after)

  text-equals : length t ≡ equals_at (t ++ (61 ∷ s))
  unfolding index_of
  text-equals = sym (rw add-zero at (index-past equals t (61 ∷ s) free))

  text-after : length (t ++ (61 ∷ s)) ≡ index_from solid (length t + 1) (t ++ (61 ∷ s))
  text-after = rw (drop-append-add t (61 ∷ s) 1, index-none solid s (all-not-not blank s ∙ after), length-append) (omega arith)

  pub check-text : length t + length s < 2048 → check_of (t ++ (61 ∷ s)) ≡ record { number = 0; place = length t; length = 0 }
  check-text h =
      let b : List ℕ = t ++ (61 ∷ s) in
      let long : length b ≡ length t + suc (length s) = length-append t (61 ∷ s) in
      sym (not-refused b (omega arith) (omega arith) (sym (index-none barred b (all-not-not allowed b ∙ text-allowed))) (omega arith) text-equals (omega arith) text-after (omega arith))

-- a text and its `=`, nothing after it
pub check-bare : (t : List ℕ) → all_of allowed t ≡ true → all_of unequal t ≡ true → length t < 2048
    → check_of (t ++ (61 ∷ [])) ≡ record { number = 0; place = length t; length = 0 }
unfolding all_of
check-bare t good free h = check-text t [] good free refl (rw add-zero h)

-- What is known when all bytes were seen is the answer of the refusal table.
use mathlib.Core.Bool.{Bool, true, false, not}
use mathlib.Core.List.{List, [], ◌∷◌}
use mathlib.Core.Path.{◌≡◌, refl, ap, ◌∙◌}
use Prim.Native.Char.{code}
use Prim.Native.Nat.{ℕ, suc, ◌+◌, ◌≤◌, ◌<◌}
use native.Mathlib.Nat.{add-zero, zero-add, add-suc, suc-add}
use native.Mathlib.Omega.{arith}
use lib.Dec.{ltb, eqb, leb-suc-suc, eqb-suc-suc}
use lib.ListN.{length, drop}
use borrow.Author.Tests.{eq-eqb, ne_eqb, lt-ltb, le-ltb, eqb-true}
use Rattle.lists.specs.Choice.{pick}
use Rattle.lists.specs.Lists.{index_of, index_from}
use Rattle.lists.proofs.Choice.{by, clash}
use Rattle.words.specs.Bytes.{blank, solid, equals, barred}
use Rattle.words.specs.Check.{check_of, barred_at, equals_at, after_at}
use Rattle.words.specs.Kinds.{kind_of}
use Rattle.words.specs.Seen.{no_equals, matters_from, seen_at, all_seen}
use Rattle.words.specs.Check.{Checked}

-- what can be known, beside `no_equals`: a byte at place p is not allowed
abbrev not_allowed : ℕ → Checked
not_allowed p = record { number = 2; place = p; length = 1 }

-- behind the first `=`, at place e, only blanks were seen
abbrev only_blanks : ℕ → Checked
only_blanks e = record { number = 0; place = e; length = 0 }

-- behind the first `=` something else stands, first at place s
abbrev after : ℕ → Checked
after s = record { number = 3; place = s; length = 1 }

-- `=` is no blank
equals-solid : (x : ℕ) → equals x ≡ true → blank x ≡ false
equals-solid x e = rw (eqb-true x (code "=") e)

-- a byte of a lesser kind than matters changes nothing
pub seen-quiet : (v : Checked) (p k : ℕ) → k < matters_from v → seen_at v p k ≡ v
unfolding seen_at
seen-quiet v p k h = by (eqb v.number 2) (λ two. rw two) (λ other. rw (other, lt-ltb k (matters_from v) h))

-- where a byte was not allowed no other changes anything
pub seen-settled : (v : Checked) (p k : ℕ) → v.number ≡ 2 → seen_at v p k ≡ v
unfolding seen_at
seen-settled v p k e = rw (eq-eqb v.number 2 e)

pub all_settled : (v : Checked) (p : ℕ) (xs : List ℕ) → v.number ≡ 2 → all_seen v p xs ≡ v
unfolding all_seen
all_settled v p [] e = refl
all_settled v p (x ∷ xs) e = rw (seen-settled v p (kind_of x) e, all_settled v (suc p) xs e)

-- One byte.

module _ (p x : ℕ) where
  -- before the `=`
  none-barred : (n : ℕ) → barred x ≡ true → seen_at (no_equals n) p (kind_of x) ≡ not_allowed p
  unfolding seen_at matters_from kind_of
  none-barred n e = rw e

  none-equals : (n : ℕ) → barred x ≡ false → equals x ≡ true → seen_at (no_equals n) p (kind_of x) ≡ only_blanks p
  unfolding seen_at matters_from kind_of
  none-equals n e f = rw (e, f)

  none_other : (n : ℕ) → barred x ≡ false → equals x ≡ false → seen_at (no_equals n) p (kind_of x) ≡ no_equals n
  unfolding seen_at matters_from kind_of
  none_other n e f = by (blank x) (λ g. rw (e, f, g)) (λ g. rw (e, f, g))

  -- behind the `=`
  blanks-barred : (q : ℕ) → barred x ≡ true → seen_at (only_blanks q) p (kind_of x) ≡ not_allowed p
  unfolding seen_at matters_from kind_of
  blanks-barred q e = rw e

  blanks-blank : (q : ℕ) → barred x ≡ false → blank x ≡ true → seen_at (only_blanks q) p (kind_of x) ≡ only_blanks q
  unfolding seen_at matters_from kind_of
  blanks-blank q e g = by (equals x) (λ f. clash (blank x) g (equals-solid x f)) (λ f. rw (e, f, g))

  blanks-solid : (q : ℕ) → barred x ≡ false → blank x ≡ false → seen_at (only_blanks q) p (kind_of x) ≡ after p
  unfolding seen_at matters_from kind_of
  blanks-solid q e g = by (equals x) (λ f. rw (e, f)) (λ f. rw (e, f, g))

  -- beyond something else there
  after-barred : (s : ℕ) → barred x ≡ true → seen_at (after s) p (kind_of x) ≡ not_allowed p
  unfolding seen_at matters_from kind_of
  after-barred s e = rw e

  after-other : (s : ℕ) → barred x ≡ false → seen_at (after s) p (kind_of x) ≡ after s
  unfolding seen_at matters_from kind_of
  after-other s e = by (equals x) (λ f. rw (e, f)) (λ f. by (blank x) (λ g. rw (e, f, g)) (λ g. rw (e, f, g)))

-- All bytes.

-- the first byte of xs that passes the test gives this number and its place, counted from p; else the answer is v
unless : (ℕ → Bool) → ℕ → ℕ → List ℕ → Checked → Checked
unless f number p xs v = pick (ltb (index_of f xs) (length xs)) (record { number = number; place = p + index_of f xs; length = 1 }) v

module _ (f : ℕ → Bool) (number p x : ℕ) (xs : List ℕ) (v : Checked) where
  unless-here : f x ≡ true → unless f number p (x ∷ xs) v ≡ record { number = number; place = p; length = 1 }
  unfolding unless index_of
  unless-here e = rw (e, lt-ltb 0 (suc (length xs)) (omega arith), add-zero)

  unless-past : f x ≡ false → unless f number p (x ∷ xs) v ≡ unless f number (suc p) xs v
  unfolding unless index_of
  unless-past e = rw (e, leb-suc-suc (suc (index_of f xs)) (length xs), add-suc p (index_of f xs), suc-add p (index_of f xs))

all_after : (s p : ℕ) (xs : List ℕ) → all_seen (after s) p xs ≡ unless barred 2 p xs (after s)
unfolding all_seen unless index_of
all_after s p [] = refl
all_after s p (x ∷ xs) =
    by (barred x)
    (λ e. rw (after-barred p x s e, all_settled (not_allowed p) (suc p) xs refl, unless-here barred 2 p x xs (after s) e))
    (λ e. rw (after-other p x s e, all_after s (suc p) xs, unless-past barred 2 p x xs (after s) e))

all-blanks : (q p : ℕ) (xs : List ℕ) → all_seen (only_blanks q) p xs ≡ unless barred 2 p xs (unless solid 3 p xs (only_blanks q))
unfolding all_seen unless index_of
all-blanks q p [] = refl
all-blanks q p (x ∷ xs) =
    let next : Checked = unless solid 3 p (x ∷ xs) (only_blanks q) in
    by (barred x)
    (λ e. rw (blanks-barred p x q e, all_settled (not_allowed p) (suc p) xs refl, unless-here barred 2 p x xs next e))
    (λ e. by (blank x)
    (λ g. rw (blanks-blank p x q e g, all-blanks q (suc p) xs, unless-past barred 2 p x xs next e, unless-past solid 3 p x xs (only_blanks q) (ap not g)))
    (λ g. rw (blanks-solid p x q e g, all_after p (suc p) xs, unless-past barred 2 p x xs next e, unless-here solid 3 p x xs (only_blanks q) (ap not g))))

-- what the first `=` of xs, counted from place p, and what stands behind it tell: as `check_of` has it, and byte by byte
end_of : ℕ → ℕ → List ℕ → Checked
end_of n p xs =
    pick (eqb (index_of equals xs) (length xs)) (no_equals n)
    (pick (ltb (index_from solid (index_of equals xs + 1) xs) (length xs)) (after (p + index_from solid (index_of equals xs + 1) xs)) (only_blanks (p + index_of equals xs)))

module _ (n p x : ℕ) (xs : List ℕ) where
  end-here : equals x ≡ true → end_of n p (x ∷ xs) ≡ unless solid 3 (suc p) xs (only_blanks p)
  unfolding end_of unless index_of
  end-here f =
      let a : ℕ = index_of solid xs in
      let one : 1 + a ≡ suc a = omega arith in
      rw (f, ne_eqb 0 (suc (length xs)) (λ z. omega arith), one, leb-suc-suc (suc a) (length xs), add-suc p a, suc-add p a, add-zero p)

  end-past : equals x ≡ false → end_of n p (x ∷ xs) ≡ end_of n (suc p) xs
  unfolding end_of index_of
  end-past f =
      let e : ℕ = index_of equals xs in
      let a : ℕ = index_from solid (e + 1) xs in
      rw (f, eqb-suc-suc e (length xs), suc-add e 1, suc-add (e + 1) (index_of solid (drop (e + 1) xs)), leb-suc-suc (suc a) (length xs), add-suc p a, suc-add p a, add-suc p e, suc-add p e)

all_none : (n p : ℕ) (xs : List ℕ) → all_seen (no_equals n) p xs ≡ unless barred 2 p xs (end_of n p xs)
unfolding all_seen unless end_of index_of
all_none n p [] = refl
all_none n p (x ∷ xs) =
    by (barred x)
    (λ e. rw (none-barred p x n e, all_settled (not_allowed p) (suc p) xs refl, unless-here barred 2 p x xs (end_of n p (x ∷ xs)) e))
    (λ e. by (equals x)
    (λ f. rw (none-equals p x n e f, all-blanks p (suc p) xs, unless-past barred 2 p x xs (end_of n p (x ∷ xs)) e, end-here n p x xs f))
    (λ f. rw (none_other p x n e f, all_none n (suc p) xs, unless-past barred 2 p x xs (end_of n p (x ∷ xs)) e, end-past n p x xs f)))

pub all-checks : (b : List ℕ) → (length b ≡ 0 → ⊥) → length b ≤ 2048 → all_seen (no_equals (length b)) 0 b ≡ check_of b
unfolding check_of unless end_of
all-checks b some fits =
    all_none (length b) 0 b
    ∙ rw (ne_eqb (length b) 0 some, le-ltb 2048 (length b) fits, zero-add (barred_at b), zero-add (after_at b), zero-add (equals_at b))

-- A place by itself: the same identity is an equal one, the parts of a held identity, and the empty place.
use mathlib.Core.Bool.{true, false, not}
use mathlib.Core.Path.{◌≡◌, refl, ap}
use Prim.Native.Nat.{ℕ, ◌+◌, ◌≤◌, ◌<◌}
use native.Mathlib.Omega.{arith}
use lib.Dec.{leb, ltb, eqb}
use borrow.Author.Tests.{eq-eqb, eqb-true, lt-ltb, le-leb, leb-true, ltb-true}
use Rattle.lists.specs.Choice.{both}
use Rattle.lists.proofs.Choice.{by, clash, both_left, both_right, both_true, both-three, either_left, either-right, both-five}
use Rattle.words.proofs.Ranges.{between-low}
use Rattle.figures.specs.Letters.{good_letters}
use Rattle.headings.specs.Headings.{type_words, good_type}
use Rattle.calendar.specs.Gregorian.{never}
use Rattle.calendar.specs.Meanings.{limit_of}
use Rattle.places.specs.Padded.{held_sequence}
use Rattle.places.specs.Places.{same_identity, no_identity, no_place, empty_place, held_identity, held_correction, held_place, good_place}
use Rattle.places.specs.declared.Identity.{Identity}
use Rattle.places.specs.declared.Place.{Place}
use Rattle.places.specs.declared.places.TheConstants.{NO_PLACE}

-- The same identity is an equal one.

pub same-identity-is : (a b : Identity) → same_identity a b ≡ true → a ≡ b
unfolding same_identity
same-identity-is a b t =
    let u = both-five (eqb a.kind b.kind) (eqb a.area b.area) (eqb a.sequence b.sequence) (eqb a.start b.start) (eqb a.end b.end) t in
    let k = eqb-true a.kind b.kind u.0 in
    let r = eqb-true a.area b.area u.1 in
    let s = eqb-true a.sequence b.sequence u.2 in
    let f = eqb-true a.start b.start u.3 in
    let e = eqb-true a.end b.end u.4 in
    λ i. record { kind = k i; area = r i; sequence = s i; start = f i; end = e i }

pub same-identity-refl : (a : Identity) → same_identity a a ≡ true
unfolding same_identity
same-identity-refl a =
    both_true (eq-eqb a.kind a.kind refl)
    (both_true (eq-eqb a.area a.area refl)
    (both_true (eq-eqb a.sequence a.sequence refl) (both_true (eq-eqb a.start a.start refl) (eq-eqb a.end a.end refl))))

pub same-identity-swap : (a b : Identity) → same_identity a b ≡ false → same_identity b a ≡ false
same-identity-swap a b f =
    by (same_identity b a)
    (λ t. clash (same_identity a b) (rw (same-identity-is b a t) (same-identity-refl a)) f)
    (λ g. g)

-- The parts of a held identity.

pub record HeldIdentity (clock : ℕ) (i : Identity) : Type 0 where
  pub formed : both (good_type i.kind) (both (good_letters 4 i.area) (held_sequence i.sequence)) ≡ true
  pub starts : i.start < i.end
  pub short : i.end ≤ i.start + limit_of i.kind
  pub lasts : clock < i.end
  pub timely : i.end < never

pub identity-parts : (clock : ℕ) (i : Identity) → held_identity clock i ≡ true → HeldIdentity clock i
unfolding held_identity
identity-parts clock i t =
    let u = both-three (both (good_type i.kind) (both (good_letters 4 i.area) (held_sequence i.sequence))) (both (ltb i.start i.end) (leb i.end (i.start + limit_of i.kind))) (both (ltb clock i.end) (ltb i.end never)) t in
    record {
      formed = u.0;
      starts = ltb-true i.start i.end (both_left (ltb i.start i.end) (leb i.end (i.start + limit_of i.kind)) u.1);
      short = leb-true i.end (i.start + limit_of i.kind) (both_right (ltb i.start i.end) (leb i.end (i.start + limit_of i.kind)) u.1);
      lasts = ltb-true clock i.end (both_left (ltb clock i.end) (ltb i.end never) u.2);
      timely = ltb-true i.end never (both_right (ltb clock i.end) (ltb i.end never) u.2);
    }

pub identity-held : (clock : ℕ) (i : Identity) → HeldIdentity clock i → held_identity clock i ≡ true
unfolding held_identity
identity-held clock i h =
    both_true h.formed
    (both_true (both_true (lt-ltb i.start i.end h.starts) (le-leb i.end (i.start + limit_of i.kind) h.short))
    (both_true (lt-ltb clock i.end h.lasts) (lt-ltb i.end never h.timely)))

-- a held identity is not the empty one
pub held-some : (clock : ℕ) (p : Place) → held_place clock p ≡ true → same_identity p.identity no_identity ≡ false
unfolding held_place type_words
held-some clock p t =
    by (same_identity p.identity no_identity)
    (λ s.
    let h = identity-parts clock p.identity (both_left (held_identity clock p.identity) (held_correction p.marked p.correction) t) in
    let k : p.identity.kind ≡ 0 = ap (λ (i : Identity). i.kind) (same-identity-is p.identity no_identity s) in
    absurd (omega (arith, k, between-low 2 3 p.identity.kind (both_left (good_type p.identity.kind) (both (good_letters 4 p.identity.area) (held_sequence p.identity.sequence)) h.formed))))
    (λ f. f)

-- The empty place.

pub no-place-is : NO_PLACE ≡ no_place
no-place-is = refl

pub no-place-empty : empty_place no_place ≡ true
unfolding empty_place same_identity
no-place-empty = refl

pub empty-good : (clock : ℕ) → good_place clock no_place ≡ true
unfolding good_place
empty-good clock = either_left (held_place clock no_place) no-place-empty

pub empty-identity : (p : Place) → empty_place p ≡ true → same_identity p.identity no_identity ≡ true
unfolding empty_place
empty-identity p t = both_left (same_identity p.identity no_identity) (both (eqb p.correction 0) (not p.marked)) t

-- an empty place ends at 0, and so what ends later is held
pub empty-ends : (p : Place) → empty_place p ≡ true → p.identity.end ≡ 0
empty-ends p t = ap (λ (x : Identity). x.end) (same-identity-is p.identity no_identity (empty-identity p t))

pub ends_some : (p : Place) → 0 < p.identity.end → empty_place p ≡ false
ends_some p h = by (empty_place p) (λ t. absurd (omega (arith, h, empty-ends p t))) (λ f. f)

-- A held place is a good one.
pub held-good-place : (clock : ℕ) (p : Place) → held_place clock p ≡ true → good_place clock p ≡ true
unfolding good_place
held-good-place clock p h = either-right (empty_place p) h

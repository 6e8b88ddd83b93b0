-- What follows from the two contracts of one outcome, for the theorems in `RoundTrips`.
use mathlib.Core.Bool.{true, false}
use mathlib.Core.List.{List, ◌++◌}
use mathlib.Core.Logic.{◌⊎◌, inl, inr, ◌↔◌}
use mathlib.Core.Path.{◌≡◌, refl, sym, subst}
use Prim.Native.Nat.{ℕ, ◌≤◌, ◌<◌}
use native.Mathlib.Omega.{arith}
use lib.Dec.{ltb}
use lib.ListN.{length, drop}
use borrow.Author.Tests.{le-ltb, ltb-true, ltb-false}
use Rattle.lists.proofs.Choice.{by, clash}
use Rattle.message.specs.Records.{good}
use Rattle.message.specs.Words.{text_of}
use Rattle.message.specs.declared.Record.{Record}
use Rattle.grammar.specs.Bulletins.{acceptance}
use Rattle.grammar.specs.Reads.{read_of}
use Rattle.grammar.specs.Replies.{Replied}
use Rattle.grammar.specs.Replies.Replied.{unreadable, read_as, refused_with}
use Rattle.grammar.specs.Writes.{write_of}
use Rattle.pens.specs.Outcomes.{Wrote}
use Rattle.grammar.specs.declared.Reply.{Reply}
use Rattle.grammar.proofs.Lengths.{text-fits}
use Rattle.pens.specs.Outcomes.{wrote}
use Rattle.pens.specs.declared.Written.{Written}
use Rattle.roundtrips.specs.Trips.{MayRead, MayWrite, Outcome}
use Rattle.roundtrips.specs.Trips.Outcome.{bad, short, whole}

-- The reader.

pub reads : {b : List ℕ} {p : Reply} → MayRead b p → p ≡ read_of b
reads m = m.allowed

pub accepted : {b : List ℕ} {p : Reply} → Replied b p → p.number ≡ 0 → (p ≡ acceptance p.message) × (good p.message ≡ true)
accepted (unreadable h) e = absurd (omega arith)
accepted (read_as c g ws) e = (refl, g)
accepted (refused_with c low high at) e = absurd (omega arith)

-- The writer.

pub writes : {r : Record} {buffer after : List ℕ} {w : Written} → MayWrite r buffer w after → wrote w after ≡ write_of r buffer
writes m = m.allowed

abbrev Ends : Record → List ℕ → Wrote → Type 0
Ends r buffer x = Outcome r buffer x.number x.count x.buffer

defined : (r : Record) (buffer : List ℕ) → Ends r buffer (write_of r buffer)
unfolding write_of
defined r buffer =
    by (good r)
    (λ g. by (ltb (length buffer) (length (text_of r)))
    (λ t. rw (g, le-ltb 2048 (length (text_of r)) (text-fits r g), t) (short g (ltb-true (length buffer) (length (text_of r)) t)))
    (λ f. rw (g, le-ltb 2048 (length (text_of r)) (text-fits r g), f) (whole g (ltb-false (length buffer) (length (text_of r)) f))))
    (λ f. rw f (bad f))

pub ends : {r : Record} {buffer after : List ℕ} {w : Written} → MayWrite r buffer w after → Outcome r buffer w.number w.count after
ends {r} {buffer} m = subst (Ends r buffer) (sym (writes m)) (defined r buffer)

module _ {r : Record} {buffer : List ℕ} where
  pub put_whole : {number count : ℕ} {after : List ℕ} → Outcome r buffer number count after → good r ≡ true → length (text_of r) ≤ length buffer
      → (number ≡ 0) × (count ≡ length (text_of r)) × (after ≡ text_of r ++ drop (length (text_of r)) buffer)
  put_whole (bad f) g h = clash (good r) g f
  put_whole (short g s) g' h = absurd (omega arith)
  put_whole (whole g s) g' h = (refl, refl, refl)

  pub untouched : {number count : ℕ} {after : List ℕ} → Outcome r buffer number count after → 0 < number → (count ≡ 0) × (after ≡ buffer)
  untouched (bad f) h = (refl, refl)
  untouched (short g s) h = (refl, refl)
  untouched (whole g s) h = absurd (omega arith)

  pub numbers : {number count : ℕ} {after : List ℕ} → Outcome r buffer number count after → (number ≡ 0) ⊎ ((number ≡ 13) ⊎ (number ≡ 14))
  numbers (bad f) = inr (inl refl)
  numbers (short g s) = inr (inr refl)
  numbers (whole g s) = inl refl

  pub at_zero : {number count : ℕ} {after : List ℕ} → Outcome r buffer number count after → (number ≡ 0) ↔ ((good r ≡ true) × (length (text_of r) ≤ length buffer))
  at_zero (bad f) = (λ e. absurd (omega arith), λ h. clash (good r) h.0 f)
  at_zero (short g s) = (λ e. absurd (omega arith), λ h. let room : length (text_of r) ≤ length buffer = h.1 in absurd (omega arith))
  at_zero (whole g s) = (λ e. (g, s), λ h. refl)

  pub at-thirteen : {number count : ℕ} {after : List ℕ} → Outcome r buffer number count after → (number ≡ 13) ↔ (good r ≡ false)
  at-thirteen (bad f) = (λ e. f, λ h. refl)
  at-thirteen (short g s) = (λ e. absurd (omega arith), λ f. clash (good r) g f)
  at-thirteen (whole g s) = (λ e. absurd (omega arith), λ f. clash (good r) g f)

  pub at-fourteen : {number count : ℕ} {after : List ℕ} → Outcome r buffer number count after → (number ≡ 14) ↔ ((good r ≡ true) × (length buffer < length (text_of r)))
  at-fourteen (bad f) = (λ e. absurd (omega arith), λ h. clash (good r) h.0 f)
  at-fourteen (short g s) = (λ e. (g, s), λ h. refl)
  at-fourteen (whole g s) = (λ e. absurd (omega arith), λ h. let less : length buffer < length (text_of r) = h.1 in absurd (omega arith))

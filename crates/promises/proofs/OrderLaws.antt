-- The order of the listing: of held identities, the order of the numbers that are kept is that of the characters; and these are as written.
use mathlib.Core.Bool.{Bool, true, Bool-set}
use mathlib.Core.List.Pairwise
use mathlib.Core.List.{List, [], ◌∷◌, Memᴰ, Pairwise, rel_of_Pairwise-cons}
use mathlib.Core.Logic.{◌↔◌, ∥∥₁_elim}
use mathlib.Core.Path.{◌≡◌, refl, sym, ap, ◌∙◌}
use Prim.Native.Char.{code}
use Prim.Native.Nat.{ℕ, ◌+◌, ◌*◌, ◌^◌, ◌≤◌, ◌<◌}
use native.Mathlib.Nat.{suc_inj, min-le_right}
use native.Mathlib.Omega.{arith}
use lib.Dec.{ltb, eqb, lit<}
use lib.ListN.{length, length-take}
use borrow.Author.Tests.{ltb-true, ltb-false, eqb-true}
use Rattle.lists.specs.Choice.{both}
use Rattle.lists.specs.Lists.{all_of, index_of}
use Rattle.lists.specs.Base.{worth, worth_after}
use Rattle.lists.proofs.Choice.{by, both_left, both_right, both_true}
use Rattle.lists.proofs.Lists.{all_take}
use Rattle.lists.proofs.Base.{worth-places, places-worth, worth-lt, length-places, places-small}
use Rattle.figures.specs.Letters.{in_letters, good_letters}
use Rattle.figures.proofs.LetterLaws.{good-lt}
use Rattle.headings.specs.Sequences.{good_sequence, sequence_of, spell_sequence}
use Rattle.headings.specs.declared.Sequence.{Sequence}
use Rattle.message.specs.Words.{line_words, area_words}
use Rattle.message.specs.declared.Record.{Record}
use Rattle.message.proofs.Goodness.{good-parts, line-parts, area-parts}
use Rattle.places.specs.Padded.{padded, padded_of, unpadded, held_sequence}
use Rattle.places.specs.declared.Identity.{Identity}
use Rattle.places.specs.declared.Place.{Place}
use Rattle.places.proofs.PaddedLaws.{unpad-padded, padded-held}
use Rattle.listing.specs.Order.{Precedes, Before}
use Rattle.listing.specs.Order.Precedes.{by-area as area-less, by-type as type-less, by-start as start-less, by-sequence as sequence-less, by_end as end-less}
use Rattle.promises.specs.Calls.{History}
use Rattle.promises.specs.Accepted.{IsReport, Reported}
use Rattle.promises.specs.Accepted.Reported.{report-now, report-before}
use Rattle.promises.specs.Order.{TextBefore, area_text, sequence_text, ListedBefore, InOrder, padded_to, OrderAsWritten}
use Rattle.promises.specs.Order.TextBefore.{here, further}
use Rattle.promises.specs.Order.ListedBefore.{by-area, by-type, by-start, by-sequence, by_end}

-- Texts of one length, and the numbers that they are in base 256.

abbrev byte : ℕ → Bool
byte x = ltb x 256

-- what is less before is less behind
less-on : (n m : ℕ) (xs ys : List ℕ) → length xs ≡ length ys → all_of byte xs ≡ true → n < m → worth_after 256 n xs < worth_after 256 m ys
unfolding worth_after all_of
less-on n m [] [] l t h = h
less-on n m [] (y ∷ ys) l t h = absurd (omega (arith, l))
less-on n m (x ∷ xs) [] l t h = absurd (omega (arith, l))
less-on n m (x ∷ xs) (y ∷ ys) l t h =
    less-on (n * 256 + x) (m * 256 + y) xs ys (suc_inj l) (both_right (byte x) (all_of byte xs) t)
    (omega (arith, h, ltb-true x 256 (both_left (byte x) (all_of byte xs) t)))

before-less : (n : ℕ) {xs ys : List ℕ} → length xs ≡ length ys → all_of byte xs ≡ true → TextBefore xs ys → worth_after 256 n xs < worth_after 256 n ys
unfolding worth_after all_of
before-less n l t (here {x} {y} {xs} {ys} h) =
    less-on (n * 256 + x) (n * 256 + y) xs ys (suc_inj l) (both_right (byte x) (all_of byte xs) t) (omega (arith, h))
before-less n l t (further {x} {xs} {ys} b) = before-less (n * 256 + x) (suc_inj l) (both_right (byte x) (all_of byte xs) t) b

less-before : (n : ℕ) (xs ys : List ℕ) → length xs ≡ length ys → all_of byte xs ≡ true → all_of byte ys ≡ true
    → worth_after 256 n xs < worth_after 256 n ys → TextBefore xs ys
unfolding worth_after all_of
less-before n [] [] l t u h = absurd (omega (arith, h))
less-before n [] (y ∷ ys) l t u h = absurd (omega (arith, l))
less-before n (x ∷ xs) [] l t u h = absurd (omega (arith, l))
less-before n (x ∷ xs) (y ∷ ys) l t u h =
    let rest : all_of byte ys ≡ true = both_right (byte y) (all_of byte ys) u in
    by (ltb x y) (λ e. here (ltb-true x y e)) (λ e. by (ltb y x)
    (λ f. absurd (omega (arith, h, less-on (n * 256 + y) (n * 256 + x) ys xs (sym (suc_inj l)) rest (omega (arith, ltb-true y x f)))))
    (λ f.
    let same : x ≡ y = omega (arith, ltb-false x y e, ltb-false y x f) in
    rw same (further (less-before (n * 256 + y) xs ys (suc_inj l) (both_right (byte x) (all_of byte xs) t) rest (rw same at h)))))

-- the numbers of k characters stand in the order of the characters, and equal characters are of one number
module _ (k : ℕ) {m n : ℕ} (h : m < 256 ^ k) (g : n < 256 ^ k) where
  long : length (in_letters k m) ≡ length (in_letters k n)
  long = length-places 256 k m ∙ sym (length-places 256 k n)

  pub text-order : (m < n) ↔ TextBefore (in_letters k m) (in_letters k n)
  text-order =
      let first : worth 256 (in_letters k m) ≡ m = worth-places 256 (lit< tt) k m h in
      let second : worth 256 (in_letters k n) ≡ n = worth-places 256 (lit< tt) k n g in
      let bytes : all_of byte (in_letters k m) ≡ true = places-small 256 (lit< tt) k m in (
        λ l. less-before 0 (in_letters k m) (in_letters k n) long bytes (places-small 256 (lit< tt) k n) (omega (arith, first, second, l)),
        λ b. omega (arith, first, second, before-less 0 long bytes b),
      )

  pub text_same : in_letters k m ≡ in_letters k n → m ≡ n
  text_same e = sym (worth-places 256 (lit< tt) k m h) ∙ (ap (worth 256) e ∙ worth-places 256 (lit< tt) k n g)

-- The characters of a sequence.

abbrev space : ℕ
space = code " "

-- three characters are those of their number, and it is one of three characters
abbrev Three : ℕ → List ℕ → Type 0
Three n text = (in_letters 3 n ≡ text) × (n < 256 ^ 3)

three : (a b c : ℕ) → all_of byte (a ∷ b ∷ c ∷ []) ≡ true → Three (worth 256 (a ∷ b ∷ c ∷ [])) (a ∷ b ∷ c ∷ [])
three a b c t = (places-worth 256 (a ∷ b ∷ c ∷ []) t, worth-lt 256 (a ∷ b ∷ c ∷ []) t)

padded-three : (w : List ℕ) → length w ≤ 3 → all_of byte w ≡ true → Three (padded w) (padded_to 3 w)
unfolding padded all_of
padded-three [] h t = three space space space t
padded-three (a ∷ []) h t = three a space space t
padded-three (a ∷ b ∷ []) h t = three a b space t
padded-three (a ∷ b ∷ c ∷ []) h t = three a b c t
padded-three (a ∷ b ∷ c ∷ d ∷ w) h t = absurd (omega (arith, h))

-- what stands in three characters before the first space, padded again
unpadded-three : (n : ℕ) → Three (padded (unpadded n)) (padded_to 3 (unpadded n))
unfolding unpadded
unpadded-three n =
    let count : ℕ = index_of (eqb space) (in_letters 3 n) in
    padded-three (unpadded n)
    (omega (arith, length-take count (in_letters 3 n), min-le_right count (length (in_letters 3 n)), length-places 256 3 n))
    (all_take byte count (in_letters 3 n) (places-small 256 (lit< tt) 3 n))

sequence-text : (s : Sequence) → good_sequence s ≡ true → in_letters 3 (padded_of s) ≡ padded_to 3 (spell_sequence s)
sequence-text s g = rw (unpad-padded s g) at (unpadded-three (padded_of s)).0

held_small : (n : ℕ) → held_sequence n ≡ true → n < 256 ^ 3
unfolding held_sequence
held_small n h = rw (eqb-true (padded (unpadded n)) n (both_right (good_sequence (sequence_of (unpadded n))) _ h)) at (unpadded-three n).1

-- Held identities.

-- "well-formed letters and sequence"
abbrev pub formed : Identity → Bool
formed i = both (good_letters 4 i.area) (held_sequence i.sequence)

area_small : (i : Identity) → formed i ≡ true → i.area < 256 ^ 4
area_small i t = good-lt 4 i.area (both_left (good_letters 4 i.area) (held_sequence i.sequence) t)

sequence-small : (i : Identity) → formed i ≡ true → i.sequence < 256 ^ 3
sequence-small i t = held_small i.sequence (both_right (good_letters 4 i.area) (held_sequence i.sequence) t)

module _ (a b : Identity) (f : formed a ≡ true) (g : formed b ≡ true) where
  areas : (a.area < b.area) ↔ TextBefore (area_text a) (area_text b)
  areas = text-order 4 (area_small a f) (area_small b g)

  sequences : (a.sequence < b.sequence) ↔ TextBefore (sequence_text a) (sequence_text b)
  sequences = text-order 3 (sequence-small a f) (sequence-small b g)

  one-area : area_text a ≡ area_text b → a.area ≡ b.area
  one-area = text_same 4 (area_small a f) (area_small b g)

  one-sequence : sequence_text a ≡ sequence_text b → a.sequence ≡ b.sequence
  one-sequence = text_same 3 (sequence-small a f) (sequence-small b g)

  forth : Precedes a b → ListedBefore a b
  forth (area-less h) = by-area (areas.0 h)
  forth (type-less e h) = by-type (ap (in_letters 4) e) h
  forth (start-less e k h) = by-start (ap (in_letters 4) e) k h
  forth (sequence-less e k s h) = by-sequence (ap (in_letters 4) e) k s (sequences.0 h)
  forth (end-less e k s n h) = by_end (ap (in_letters 4) e) k s (ap (in_letters 3) n) h

  back : ListedBefore a b → Precedes a b
  back (by-area h) = area-less (areas.1 h)
  back (by-type e h) = type-less (one-area e) h
  back (by-start e k h) = start-less (one-area e) k h
  back (by-sequence e k s h) = sequence-less (one-area e) k s (sequences.1 h)
  back (by_end e k s n h) = end-less (one-area e) k s (one-sequence n) h

  pub held-order : Precedes a b ↔ ListedBefore a b
  held-order = (forth, back)

-- what holds of any two held rows holds of the rows in their order
held-pairs : {R S : Place → Place → Type 0} (rows : List Place) → ((p : Place) → Memᴰ p rows → formed p.identity ≡ true)
    → ((p q : Place) → formed p.identity ≡ true → formed q.identity ≡ true → R p q → S p q) → Pairwise R rows → Pairwise S rows
held-pairs [] f g o = Pairwise.nil
held-pairs (p ∷ rows) f g o =
    Pairwise.cons
    (λ q m. g p q (f p (Memᴰ.head refl)) (∥∥₁_elim m (Bool-set (formed q.identity) true) (λ d. f q (Memᴰ.tail d))) (rel_of_Pairwise-cons o m))
    (held-pairs rows (λ q m. f q (Memᴰ.tail m)) g (Pairwise.of_cons o))

pub rows-in-order : (rows : List Place) → ((p : Place) → Memᴰ p rows → formed p.identity ≡ true) → Pairwise Before rows ↔ Pairwise InOrder rows
rows-in-order rows f = (
  held-pairs rows f (λ p q s t. (held-order p.identity q.identity s t).0),
  held-pairs rows f (λ p q s t. (held-order p.identity q.identity s t).1),
)

-- Reports.

report-formed : {clock correction : ℕ} {r : Record} {i : Identity} → IsReport clock r i correction → formed i ≡ true
report-formed {r = r} m =
    rw (m.area, m.sequence) (both_true (area-parts r.area (good-parts r m.sound).area).indicator
    (padded-held r.line.sequence (line-parts r.line (good-parts r m.sound).line).sequence))

pub reported-formed : {i : Identity} {correction : ℕ} {h : History} → Reported i correction h → formed i ≡ true
reported-formed (report-now e m) = report-formed m
reported-formed (report-before x) = reported-formed x

pub order-as-written : OrderAsWritten
unfolding area_words line_words
order-as-written =
    record {
      area = λ clock correction r i m. ap (in_letters 4) m.area;
      sequence =
          λ clock correction r i m.
          ap (in_letters 3) m.sequence ∙ sequence-text r.line.sequence (line-parts r.line (good-parts r m.sound).line).sequence;
    }

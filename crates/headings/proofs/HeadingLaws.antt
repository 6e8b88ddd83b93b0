-- The words of the heading and the office: each reader and its spelling undo one another, and each spelling is a word.
use mathlib.Core.Bool.{Bool, true, false}
use mathlib.Core.List.{List, [], ◌∷◌, ◌++◌}
use mathlib.Core.Logic.{inl, inr}
use mathlib.Core.Path.{◌≡◌, refl, sym, ◌∙◌}
use Prim.Native.Char.{code}
use Prim.Native.Nat.{ℕ, ◌/◌, ◌%◌, ◌^◌, ◌≤◌, ◌<◌}
use native.Mathlib.Omega.{arith}
use lib.Dec.{leb, ltb, eqb, lit<}
use lib.ListN.{length, get_or, length-append}
use borrow.Author.Tests.{leb-true, le-leb, eqb-true, eq-eqb, lt-ltb, le-ltb, ltb-true, ltb-false}
use Rattle.std.specs.Prelude.{Some, None}
use Rattle.std.specs.Int.{w32, to_be_bytes}
use Rattle.std.specs.List.{list_all}
use Rattle.lists.specs.Choice.{pick, both, found}
use Rattle.lists.specs.Lists.{all_of, same, part}
use Rattle.lists.specs.Base.{places, worth_after}
use Rattle.lists.specs.Text.{bytes}
use Rattle.lists.proofs.Choice.{by, both_left, both_right, both_true}
use Rattle.lists.proofs.Lists.{all_append, length_part}
use Rattle.lists.proofs.Library.{all-list}
use Rattle.lists.proofs.Parts.{part-whole, part-here, part-past, at-past, part_join, part-cons, marked, marked-long, marked-at}
use Rattle.words.specs.Bytes.{letter, allowed, plain}
use Rattle.words.specs.Words.{plain_word}
use Rattle.words.proofs.Ranges.{between-high}
use Rattle.figures.specs.Figures.{two_of, in_figures}
use Rattle.figures.specs.Letters.{letters_of, in_letters, good_letters}
use Rattle.figures.specs.Codes.{code_of}
use Rattle.figures.specs.Tables.{distinct, numbered}
use Rattle.figures.specs.Reads.{Reads}
use Rattle.figures.proofs.FigureLaws.{length-in_figures, two-forth, two_back}
use Rattle.figures.proofs.ReadsLaws.{Back, if-good-reads, reads-spelled}
use Rattle.figures.proofs.LetterLaws.{length-in_letters, letters-reads}
use Rattle.figures.proofs.PlainLaws.{letter-plain, in_figures-plain, in_letters-plain, run-plain}
use Rattle.figures.proofs.TableLaws.{number-coded, numbered-all, numbers-reads}
use Rattle.headings.specs.Headings.{type_words, type_of, good_type, good_designator, no_designator, designator_of, spell_designator, good_correction, correction_of, spell_correction, office_of, spell_office}
use Rattle.headings.specs.declared.Designator.{Designator}

-- The tests of letters, place by place.

-- the last bytes of a number are its places
pub two_good : (n : ℕ) → n < 65536 → list_all letter (n / 256 % 256 ∷ n % 256 ∷ []) ≡ good_letters 2 n
unfolding good_letters places
two_good n h = rw (lt-ltb n 65536 h, all-list letter (in_letters 2 n))

pub two_many : (n : ℕ) → 65536 ≤ n → good_letters 2 n ≡ false
unfolding good_letters
two_many n h = rw (le-ltb n 65536 h)

pub four_good : (n : ℕ) → n < 256 ^ 4 → list_all letter (to_be_bytes w32 n) ≡ good_letters 4 n
unfolding good_letters places
four_good n h =
    let first : n / 16777216 ≡ n / 256 / 256 / 256 = omega arith in
    let second : n / 65536 ≡ n / 256 / 256 = omega arith in
    rw (first, second, lt-ltb n (256 ^ 4) h, all-list letter (in_letters 4 n))

-- The type.

types-distinct : distinct type_words ≡ true
unfolding type_words distinct all_of same
types-distinct = refl

pub type_codes : (w : List ℕ) → found good_type (type_of w) ≡ pick (eqb (code_of w) 0x015753) (Some 2) (pick (eqb (code_of w) 0x015756) (Some 3) None)
unfolding type_words code_of worth_after all_of
type_codes w = number-coded 2 type_words w (lit< tt) refl

pub type_reads : Reads type_of (numbered 2 type_words) good_type 0
unfolding type_words
type_reads = numbers-reads 2 type_words (lit< tt) (lit< tt) types-distinct

length-type : (n : ℕ) → good_type n ≡ true → length (numbered 2 type_words n) ≡ 2
unfolding type_words all_of
length-type n g = eqb-true (length (numbered 2 type_words n)) 2 (numbered-all (λ (w : List ℕ). eqb (length w) 2) 2 type_words (lit< tt) refl n g)

type-plain : (n : ℕ) → good_type n ≡ true → all_of plain (numbered 2 type_words n) ≡ true
unfolding type_words all_of allowed
type-plain n g = numbered-all (all_of plain) 2 type_words (lit< tt) refl n g

-- The designator.

two-letters-reads : Reads (letters_of 2) (in_letters 2) (good_letters 2) 0
two-letters-reads = letters-reads 2 (lit< tt) (lit< tt)

-- a word of letters is one whose number is not 0
letters_found : (k : ℕ) → Reads (letters_of k) (in_letters k) (good_letters k) 0 → (w : List ℕ) → ltb 0 (letters_of k w) ≡ good_letters k (letters_of k w)
letters_found k laws w =
    by (ltb 0 (letters_of k w))
    (λ t. t ∙ sym (some (ltb-true 0 (letters_of k w) t) (laws.back w)))
    (λ f. f ∙ sym (none (ltb-false 0 (letters_of k w) f)))
  where
    some : 0 < letters_of k w → Back (in_letters k) (good_letters k) 0 w (letters_of k w) → good_letters k (letters_of k w) ≡ true
    some h (inl e) = absurd (omega arith)
    some h (inr p) = p.0

    none : letters_of k w ≤ 0 → good_letters k (letters_of k w) ≡ false
    none h = let e : letters_of k w ≡ 0 = omega arith in rw e laws.refuses

pub two_found : (w : List ℕ) → ltb 0 (letters_of 2 w) ≡ good_letters 2 (letters_of 2 w)
two_found = letters_found 2 two-letters-reads

module _ (d : Designator) (t : good_designator d ≡ true) where
  good-kind : good_type d.kind ≡ true
  unfolding good_designator
  good-kind = both_left (good_type d.kind) (both (good_letters 2 d.region) (leb d.number 99)) t

  good-region : good_letters 2 d.region ≡ true
  unfolding good_designator
  good-region = both_left (good_letters 2 d.region) (leb d.number 99) (both_right (good_type d.kind) (both (good_letters 2 d.region) (leb d.number 99)) t)

  good-number : d.number < 100
  unfolding good_designator
  good-number = omega (arith, leb-true d.number 99 (both_right (good_letters 2 d.region) (leb d.number 99) (both_right (good_type d.kind) (both (good_letters 2 d.region) (leb d.number 99)) t)))

  length-designator : length (spell_designator d) ≡ 6
  unfolding spell_designator
  length-designator =
      rw (length-append (numbered 2 type_words d.kind), length-append (in_letters 2 d.region), length-type d.kind good-kind, length-in_letters 2 d.region, length-in_figures 2 d.number)

abbrev designator_value : List ℕ → Designator
designator_value w = record { kind = type_of (part 0 2 w); region = letters_of 2 (part 2 4 w); number = two_of (part 4 6 w) }

designator-gives : (d : Designator) → good_designator d ≡ true → designator_value (spell_designator d) ≡ d
unfolding spell_designator
designator-gives d t =
    let k : List ℕ = numbered 2 type_words d.kind in
    let r : List ℕ = in_letters 2 d.region in
    let n : List ℕ = in_figures 2 d.number in
    let kl : length k ≡ 2 = length-type d.kind (good-kind d t) in
    rw (
      part-here k (r ++ n) 2 kl,
      part-past k (r ++ n) 2 0 2 kl,
      part-here r n 2 (length-in_letters 2 d.region),
      part-past k (r ++ n) 2 2 4 kl,
      part-past r n 2 0 2 (length-in_letters 2 d.region),
      part-whole n 2 (length-in_figures 2 d.number),
      type_reads.forth d.kind (good-kind d t),
      two-letters-reads.forth d.region (good-region d t),
      two-forth d.number (good-number d t),
    )

designator-spelled : (w : List ℕ) → eqb (length w) 6 ≡ true → good_designator (designator_value w) ≡ true → spell_designator (designator_value w) ≡ w
unfolding spell_designator
designator-spelled w e t =
    let l : length w ≡ 6 = eqb-true (length w) 6 e in
    rw (
      reads-spelled type_reads (part 0 2 w) (good-kind (designator_value w) t),
      reads-spelled two-letters-reads (part 2 4 w) (good-region (designator_value w) t),
      two_back (part 4 6 w) (length_part 4 6 w (omega arith) (omega arith)) (good-number (designator_value w) t),
      part_join w 2 4 6 (omega arith) (omega arith),
      part_join w 0 2 6 (omega arith) (omega arith),
    )
    (part-whole w 6 l)

pub designator-reads : Reads designator_of spell_designator good_designator no_designator
unfolding designator_of good_designator
designator-reads =
    if-good-reads (λ (w : List ℕ). eqb (length w) 6) designator_value spell_designator good_designator no_designator
    (λ d t. eq-eqb (length (spell_designator d)) 6 (length-designator d t))
    designator-gives
    designator-spelled
    refl

pub designator-plain : (d : Designator) → good_designator d ≡ true → plain_word (spell_designator d) ≡ true
unfolding spell_designator
designator-plain d t =
    run-plain (spell_designator d) (omega (arith, length-designator d t))
    (rw (
      all_append plain (numbered 2 type_words d.kind),
      all_append plain (in_letters 2 d.region),
      type-plain d.kind (good-kind d t),
      in_letters-plain 2 d.region (good-region d t),
      in_figures-plain 2 d.number,
    ))

-- The correction.

abbrev correction_test : List ℕ → Bool
correction_test w = both (eqb (length w) 3) (both (eqb (get_or w 0 0) (code "C")) (eqb (get_or w 1 0) (code "C")))

correction-spelled : (w : List ℕ) → correction_test w ≡ true → spell_correction (get_or w 2 0) ≡ w
correction-spelled w t =
    let l : length w ≡ 3 = eqb-true (length w) 3 (both_left (eqb (length w) 3) (both (eqb (get_or w 0 0) 67) (eqb (get_or w 1 0) 67)) t) in
    let cs : both (eqb (get_or w 0 0) 67) (eqb (get_or w 1 0) 67) ≡ true = both_right (eqb (length w) 3) (both (eqb (get_or w 0 0) 67) (eqb (get_or w 1 0) 67)) t in
    rw (
      part-cons w 2 3 0 (get_or w 2 0) (omega arith) (omega arith) refl,
      part-cons w 1 3 0 67 (omega arith) (omega arith) (eqb-true (get_or w 1 0) 67 (both_right (eqb (get_or w 0 0) 67) (eqb (get_or w 1 0) 67) cs)),
      part-cons w 0 3 0 67 (omega arith) (omega arith) (eqb-true (get_or w 0 0) 67 (both_left (eqb (get_or w 0 0) 67) (eqb (get_or w 1 0) 67) cs)),
    )
    (part-whole w 3 l)

pub correction-reads : Reads correction_of spell_correction good_correction 0
unfolding correction_of good_correction
correction-reads =
    if-good-reads correction_test (λ (w : List ℕ). get_or w 2 0) spell_correction good_correction 0
    (λ c g. refl)
    (λ c g. refl)
    (λ w t g. correction-spelled w t)
    refl

correction-letter : (c : ℕ) → good_correction c ≡ true → letter c ≡ true
unfolding good_correction
correction-letter c g =
    let high : c ≤ 88 = between-high 65 88 c g in
    both_true (both_left (leb 65 c) (leb c 88) g) (le-leb c 90 (omega arith))

pub correction-plain : (c : ℕ) → good_correction c ≡ true → plain_word (spell_correction c) ≡ true
unfolding all_of allowed
correction-plain c g = rw (letter-plain c (correction-letter c g))

-- The office.

abbrev office_test : List ℕ → Bool
office_test w = marked 5 4 (code "-") w

four-letters-reads : Reads (letters_of 4) (in_letters 4) (good_letters 4) 0
four-letters-reads = letters-reads 4 (lit< tt) (lit< tt)

pub four_found : (w : List ℕ) → ltb 0 (letters_of 4 w) ≡ good_letters 4 (letters_of 4 w)
four_found = letters_found 4 four-letters-reads

pub four_none : good_letters 4 0 ≡ false
four_none = four-letters-reads.refuses

pub length-office : (o : ℕ) → length (spell_office o) ≡ 5
length-office o = rw (length-append (in_letters 4 o), length-in_letters 4 o)

office-forth : (o : ℕ) → good_letters 4 o ≡ true → office_of (spell_office o) ≡ o
unfolding office_of
office-forth o g =
    rw (
      eq-eqb (length (spell_office o)) 5 (length-office o),
      at-past (in_letters 4 o) (bytes "-") 4 0 0 (length-in_letters 4 o),
      part-here (in_letters 4 o) (bytes "-") 4 (length-in_letters 4 o),
    )
    (four-letters-reads.forth o g)

office-joined : (w : List ℕ) → office_test w ≡ true → part 0 4 w ++ bytes "-" ≡ w
office-joined w t =
    let l : length w ≡ 5 = marked-long 5 4 (code "-") w t in
    rw (
      part-cons w 4 5 0 (code "-") (omega arith) (omega arith) (marked-at 5 4 (code "-") w t),
      part_join w 0 4 5 (omega arith) (omega arith),
    )
    (part-whole w 5 l)

office-back : (w : List ℕ) → Back spell_office (good_letters 4) 0 w (office_of w)
unfolding office_of
office-back w = by (office_test w) (λ t. go t (four-letters-reads.back (part 0 4 w))) (λ f. inl (rw f))
  where
    go : office_test w ≡ true → Back (in_letters 4) (good_letters 4) 0 (part 0 4 w) (letters_of 4 (part 0 4 w)) → Back spell_office (good_letters 4) 0 w (office_of w)
    go t (inl e) = inl (rw t e)
    go t (inr p) = inr (rw t p.0, rw (t, p.1) (office-joined w t))

pub office-reads : Reads office_of spell_office (good_letters 4) 0
office-reads = record { forth = office-forth; back = office-back; refuses = four-letters-reads.refuses }

pub office-plain : (o : ℕ) → good_letters 4 o ≡ true → plain_word (spell_office o) ≡ true
unfolding all_of allowed
office-plain o g =
    run-plain (spell_office o) (omega (arith, length-office o)) (rw (all_append plain (in_letters 4 o) (bytes "-"), in_letters-plain 4 o g))

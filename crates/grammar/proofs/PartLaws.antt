-- The parts of a message: each word has a number from 4 to 11, and the `=` alone has 12; they come in the order of their numbers.
use mathlib.Core.Bool.{Bool, true, false}
use mathlib.Core.List.{List, [], ◌∷◌, ◌++◌, Memᴰ}
use mathlib.Core.Path.{◌≡◌, refl, ◌∙◌}
use Prim.Native.Nat.{ℕ, ◌≤◌}
use native.Mathlib.Nat.{le_refl, le_trans}
use native.Mathlib.Omega.{arith}
use lib.Dec.{lit≤}
use lib.ListN.{take, drop}
use Rattle.lists.specs.Lists.{all_of}
use Rattle.lists.proofs.Choice.{clash, both_left, both_right, both_true}
use Rattle.lists.proofs.Lists.{all_append}
use Rattle.words.specs.Bytes.{between}
use Rattle.words.specs.Words.{equals_sign}
use Rattle.message.specs.Words.{heading_words, line_words, area_words}
use Rattle.levels.specs.Levels.{level_words}
use Rattle.message.specs.Locations.{extent_words}
use Rattle.message.specs.Reports.{phenomenon_words, observation_words, ending_words}
use Rattle.message.specs.Words.{correction_words, form_words, time_of_day}
use Rattle.message.specs.declared.Form.{Form}
use Rattle.message.specs.declared.Form.TheVariants.{NoForm, Test, Cancellation, Reported}
use Rattle.message.specs.declared.Record.{Record}
use Rattle.grammar.specs.Parts.{Marked, in_part, form_parts, parts_of, message_parts}

-- the part of a word that is not the `=`
abbrev pub of_word : Marked → Bool
of_word m = between 4 11 m.number

in-part : (n : ℕ) → between 4 11 n ≡ true → (ws : List (List ℕ)) → all_of of_word (in_part n ws) ≡ true
unfolding all_of
in-part n b [] = refl
in-part n b (w ∷ ws) = both_true b (in-part n b ws)

part_of : (n : ℕ) → between 4 11 n ≡ true → (ws : List (List ℕ)) (ms : List Marked) → all_of of_word ms ≡ true → all_of of_word (in_part n ws ++ ms) ≡ true
part_of n b ws ms e = all_append of_word (in_part n ws) ms ∙ both_true (in-part n b ws) e

form-parts : (r : Record) (f : Form) → all_of of_word (form_parts r f) ≡ true
unfolding all_of
form-parts r NoForm = refl
form-parts r (Test n) = in-part 7 refl (form_words r (Test n))
form-parts r (Cancellation s from) = in-part 7 refl (form_words r (Cancellation s from))
form-parts r Reported =
    part_of 7 refl (phenomenon_words r.report.phenomenon r.report.volcano) _
    (part_of 8 refl (observation_words r.report.observation) _
    (part_of 9 refl (extent_words r.area.closing r.report.extent) _
    (part_of 10 refl (level_words r.report.level) _
    (in-part 11 refl (ending_words (time_of_day r.line.valid.to) r.area.closing r.report.ending r.report.forecast)))))

pub words-parts : (r : Record) → all_of of_word (parts_of r) ≡ true
unfolding parts_of heading_words all_of
words-parts r =
    part_of 5 refl (correction_words r.heading.correction) _
    (part_of 5 refl (line_words r.line) _ (part_of 6 refl (area_words r.area) _ (form-parts r r.form)))

-- a part that is no word's stands at the end
pub other_last : (x : Marked) → of_word x ≡ false → (xs rest ys : List Marked) (z : Marked) → all_of of_word ys ≡ true → xs ++ (x ∷ rest) ≡ ys ++ (z ∷ []) → (xs ≡ ys) × (x ≡ z)
unfolding all_of
other_last x f [] rest [] z a e = (refl, cc)
other_last x f [] rest (y ∷ ys) z a e =
    let same : x ≡ y = cc in
    clash (of_word x) (rw same (both_left (of_word y) (all_of of_word ys) a)) f
other_last x f (w ∷ []) rest [] z a e = absurd (let q : ◌≡◌ {A = List Marked} (x ∷ rest) [] = cc in let k : ◌≡◌ {A = ℕ} 0 1 = cc in omega arith)
other_last x f (w ∷ v ∷ xs) rest [] z a e = absurd (let q : ◌≡◌ {A = List Marked} (v ∷ (xs ++ (x ∷ rest))) [] = cc in let k : ◌≡◌ {A = ℕ} 0 1 = cc in omega arith)
other_last x f (w ∷ xs) rest (y ∷ ys) z a e =
    let tail : xs ++ (x ∷ rest) ≡ ys ++ (z ∷ []) = cc in
    let head : w ≡ y = cc in
    let later : (xs ≡ ys) × (x ≡ z) = other_last x f xs rest ys z (both_right (of_word y) (all_of of_word ys) a) tail in
    (rw (head, later.0), later.1)

-- The order of the parts: the numbers are from low to high, none less than one before it.

data Rises : ℕ → List Marked → ℕ → Type 0 where
  level : {low high : ℕ} → low ≤ high → Rises low [] high
  rising : {low high : ℕ} {m : Marked} {ms : List Marked} → low ≤ m.number → Rises m.number ms high → Rises low (m ∷ ms) high

rises-from : {low from high : ℕ} (ms : List Marked) → low ≤ from → Rises from ms high → Rises low ms high
rises-from [] h (level k) = level (le_trans h k)
rises-from (m ∷ ms) h (rising k r) = rising (le_trans h k) r

then : {low between high : ℕ} (xs ys : List Marked) → Rises low xs between → Rises between ys high → Rises low (xs ++ ys) high
then [] ys (level h) s = rises-from ys h s
then (x ∷ xs) ys (rising h r) s = rising h (then xs ys r s)

part-rises : {low high : ℕ} (n : ℕ) → low ≤ n → n ≤ high → (ws : List (List ℕ)) → Rises low (in_part n ws) high
part-rises n h k [] = level (le_trans h k)
part-rises n h k (w ∷ ws) = rising h (part-rises n (le_refl n) k ws)

form-rises : (r : Record) (f : Form) → Rises 7 (form_parts r f) 12
form-rises r NoForm = level (lit≤ tt)
form-rises r (Test n) = part-rises 7 (lit≤ tt) (lit≤ tt) (form_words r (Test n))
form-rises r (Cancellation s from) = part-rises 7 (lit≤ tt) (lit≤ tt) (form_words r (Cancellation s from))
form-rises r Reported =
    then _ _ (part-rises {high = 8} 7 (lit≤ tt) (lit≤ tt) (phenomenon_words r.report.phenomenon r.report.volcano))
    (then _ _ (part-rises {high = 9} 8 (lit≤ tt) (lit≤ tt) (observation_words r.report.observation))
    (then _ _ (part-rises {high = 10} 9 (lit≤ tt) (lit≤ tt) (extent_words r.area.closing r.report.extent))
    (then _ _ (part-rises {high = 11} 10 (lit≤ tt) (lit≤ tt) (level_words r.report.level))
    (part-rises 11 (lit≤ tt) (lit≤ tt) (ending_words (time_of_day r.line.valid.to) r.area.closing r.report.ending r.report.forecast)))))

message-rises : (r : Record) → Rises 4 (message_parts r) 12
unfolding parts_of
message-rises r =
    then (parts_of r) _
    (then _ _ (part-rises {high = 5} 4 (lit≤ tt) (lit≤ tt) (take 3 (heading_words r.heading)))
    (then _ _ (part-rises {high = 5} 5 (lit≤ tt) (lit≤ tt) (drop 3 (heading_words r.heading)))
    (then _ _ (part-rises {high = 6} 5 (lit≤ tt) (lit≤ tt) (line_words r.line))
    (then _ _ (part-rises {high = 7} 6 (lit≤ tt) (lit≤ tt) (area_words r.area)) (form-rises r r.form)))))
    (part-rises 12 (lit≤ tt) (lit≤ tt) (equals_sign ∷ []))

rises-all : {low high : ℕ} (x : Marked) (ms : List Marked) → Rises low ms high → Memᴰ x ms → low ≤ x.number
rises-all x [] r m = elim m [ ]
rises-all x (m ∷ ms) (rising h r) (Memᴰ.head e) = rw e h
rises-all x (m ∷ ms) (rising h r) (Memᴰ.tail i) = le_trans h (rises-all x ms r i)

rises-rest : {low high : ℕ} (seen left : List Marked) → Rises low (seen ++ left) high → Rises low left high
rises-rest [] left r = r
rises-rest (x ∷ xs) left (rising h r) = rises-from left h (rises-rest xs left r)

-- no word after this one has a lesser part
pub in_order : (r : Record) (seen left : List Marked) (m x : Marked) → seen ++ (m ∷ left) ≡ message_parts r → Memᴰ x (m ∷ left) → m.number ≤ x.number
in_order r seen left m x e i = from (rises-rest seen (m ∷ left) (rw e (message-rises r))) i
  where
    from : Rises 4 (m ∷ left) 12 → Memᴰ x (m ∷ left) → m.number ≤ x.number
    from (rising h s) (Memᴰ.head same) = rw same (le_refl m.number)
    from (rising h s) (Memᴰ.tail later) = rises-all x left s later

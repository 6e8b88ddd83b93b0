-- The words of a walk with the parts that they belong to, and that a walk which ends was told the words of its record.
use mathlib.Core.Bool.{true}
use mathlib.Core.List.{List, [], ◌∷◌, ◌++◌, map, append-nil, map-append}
use mathlib.Core.Path.{◌≡◌, refl, ap, sym, ◌∙◌}
use Prim.Native.Nat.{ℕ}
use Rattle.words.specs.Words.{equals_sign}
use Rattle.figures.specs.Letters.{in_letters}
use Rattle.groups.specs.Groups.{spell_group}
use Rattle.headings.specs.Headings.{spell_designator}
use Rattle.levels.specs.Levels.{level_words}
use Rattle.message.specs.Locations.{extent_words}
use Rattle.message.specs.Records.{good}
use Rattle.message.specs.Reports.{phenomenon_words, observation_words, ending_words, report_words}
use Rattle.message.specs.Words.{correction_words, heading_words, line_words, area_words, form_words, body_words, words_of, time_of_day}
use Rattle.message.specs.declared.Form.{Form}
use Rattle.message.specs.declared.Form.TheVariants.{NoForm, Test, Cancellation, Reported}
use Rattle.message.specs.declared.Record.{Record}
use Rattle.grammar.specs.Judged.{message_words}
use Rattle.grammar.specs.Parts.{Marked, marked, in_part, form_parts, parts_of, message_parts}
use Rattle.grammar.specs.Runs.{advance, walk}
use Rattle.grammar.specs.States.{State, Move}
use Rattle.grammar.specs.States.Move.{goes, done, dead}
use Rattle.grammar.specs.States.State.{at_designator}
use Rattle.grammar.specs.Steps.{step}
use Rattle.grammar.proofs.Invariant.{Ok, mark}
use Rattle.grammar.proofs.Moves.{Fine}
use Rattle.grammar.proofs.Moves.Fine.{leads, ends, dies}
use Rattle.grammar.proofs.Told.{rev_onto, rev-last, told, told_record}

-- Lists turned around.

rev-rev : {A : Type 0} (xs back front : List A) → rev_onto (rev_onto xs back) front ≡ rev_onto back (xs ++ front)
rev-rev [] back front = refl
rev-rev (x ∷ xs) back front = rev-rev xs (x ∷ back) front

pub rev-same : {A : Type 0} (xs ys : List A) → rev_onto xs [] ≡ rev_onto ys [] → xs ≡ ys
rev-same xs ys e = sym (append-nil xs) ∙ (sym (rev-rev xs [] []) ∙ (ap (λ (r : List _). rev_onto r []) e ∙ (rev-rev ys [] [] ∙ append-nil ys)))

-- The words of parts.

abbrev pub unmarked : List Marked → List (List ℕ)
unmarked ms = map (λ (m : Marked). m.word) ms

pub part-words : (n : ℕ) (ws : List (List ℕ)) → unmarked (in_part n ws) ≡ ws
part-words n [] = refl
part-words n (w ∷ ws) = ap (λ (r : List (List ℕ)). w ∷ r) (part-words n ws)

module _ (n : ℕ) (ws : List (List ℕ)) (ms : List Marked) where
  part_then : unmarked (in_part n ws ++ ms) ≡ ws ++ unmarked ms
  part_then = map-append (λ (m : Marked). m.word) (in_part n ws) ms ∙ ap (λ (r : List (List ℕ)). r ++ unmarked ms) (part-words n ws)

form-words : (r : Record) (f : Form) → unmarked (form_parts r f) ≡ form_words r f
unfolding form_words report_words
form-words r NoForm = refl
form-words r (Test n) = part-words 7 (form_words r (Test n))
form-words r (Cancellation s from) = part-words 7 (form_words r (Cancellation s from))
form-words r Reported =
    let t = time_of_day r.line.valid.to in
    let e : List (List ℕ) = ending_words t r.area.closing r.report.ending r.report.forecast in
    let l : List (List ℕ) = level_words r.report.level in
    let x : List (List ℕ) = extent_words r.area.closing r.report.extent in
    let o : List (List ℕ) = observation_words r.report.observation in
    let p : List (List ℕ) = phenomenon_words r.report.phenomenon r.report.volcano in
    part_then 7 p (in_part 8 o ++ (in_part 9 x ++ (in_part 10 l ++ in_part 11 e)))
    ∙ ap (λ (q : List (List ℕ)). p ++ q) (part_then 8 o (in_part 9 x ++ (in_part 10 l ++ in_part 11 e))
    ∙ ap (λ (q : List (List ℕ)). o ++ q) (part_then 9 x (in_part 10 l ++ in_part 11 e)
    ∙ ap (λ (q : List (List ℕ)). x ++ q) (part_then 10 l (in_part 11 e) ∙ ap (λ (q : List (List ℕ)). l ++ q) (part-words 11 e))))

-- the words of a record's parts are its words
pub parts-words : (r : Record) → unmarked (parts_of r) ≡ words_of r
unfolding parts_of words_of heading_words body_words
parts-words r =
    let c : List (List ℕ) = correction_words r.heading.correction in
    let l : List (List ℕ) = line_words r.line in
    let a : List (List ℕ) = area_words r.area in
    let f : List Marked = form_parts r r.form in
    ap (λ (q : List (List ℕ)). spell_designator r.heading.designator ∷ in_letters 4 r.heading.centre ∷ spell_group r.heading.sent ∷ q) (part_then 5 c (in_part 5 l ++ (in_part 6 a ++ f))
    ∙ ap (λ (q : List (List ℕ)). c ++ q) (part_then 5 l (in_part 6 a ++ f)
    ∙ ap (λ (q : List (List ℕ)). l ++ q) (part_then 6 a f ∙ ap (λ (q : List (List ℕ)). a ++ q) (form-words r r.form))))

pub message-words : (r : Record) → unmarked (message_parts r) ≡ message_words r
message-words r =
    map-append (λ (m : Marked). m.word) (parts_of r) (marked 12 equals_sign ∷ []) ∙ ap (λ (q : List (List ℕ)). q ++ (equals_sign ∷ [])) (parts-words r)

-- The parts along a walk.

abbrev pub mark_at : Move → List ℕ → Marked
mark_at (goes s) w = marked (mark s w) w
mark_at (done r) w = marked 0 w
mark_at dead w = marked 0 w

unfoldable pub marks_of : Move → List (List ℕ) → List Marked
marks_of m [] = []
marks_of m (w ∷ ws) = mark_at m w ∷ marks_of (advance m w) ws

mark-word : (m : Move) (w : List ℕ) → (mark_at m w).word ≡ w
mark-word (goes s) w = refl
mark-word (done r) w = refl
mark-word dead w = refl

pub marks-words : (m : Move) (ws : List (List ℕ)) → unmarked (marks_of m ws) ≡ ws
unfolding marks_of
marks-words m [] = refl
marks-words m (w ∷ ws) = rw (mark-word m w, marks-words (advance m w) ws)

pub marks-append : (m : Move) (vs ws : List (List ℕ)) → marks_of m (vs ++ ws) ≡ marks_of m vs ++ marks_of (walk m vs) ws
unfolding marks_of walk
marks-append m [] ws = refl
marks-append m (v ∷ vs) ws = ap (λ (r : List Marked). mark_at m v ∷ r) (marks-append (advance m v) vs ws)

-- What is kept along a walk: the state is sound and was told these words; at the end the record is good and was told them.

pub data Kept : Move → List Marked → Type 0 where
  keeps : {s : State} {ms : List Marked} → Ok s → told s ≡ ms → Kept (goes s) ms
  ended : {r : Record} {ms : List Marked} → good r ≡ true → marked 12 equals_sign ∷ told_record r ≡ ms → Kept (done r) ms
  lost : {ms : List Marked} → Kept dead ms

pub kept-ok : {s : State} {ms : List Marked} → Kept (goes s) ms → Ok s
kept-ok (keeps o t) = o

pub kept-good : {r : Record} {ms : List Marked} → Kept (done r) ms → good r ≡ true
kept-good (ended g t) = g

pub kept-told : {r : Record} {ms : List Marked} → Kept (done r) ms → marked 12 equals_sign ∷ told_record r ≡ ms
kept-told (ended g t) = t

-- where every walk begins
abbrev pub start : Move
start = goes at_designator

module _ (sound : (s : State) (w : List ℕ) → Ok s → Fine s w (step s w)) where
  kept_move : (s : State) (w : List ℕ) (ms : List Marked) (m : Move) → told s ≡ ms → Fine s w m → Kept m (mark_at (goes s) w ∷ ms)
  kept_move s w ms (goes next) t (leads f) = keeps f.ok (f.tells ∙ ap (λ (r : List Marked). marked (mark s w) w ∷ r) t)
  kept_move s w ms (done r) t (ends f) = ended f.is_good (ap (λ (x : Marked). x ∷ told_record r) (sym f.last) ∙ ap (λ (x : List Marked). marked (mark s w) w ∷ x) (f.tells ∙ t))
  kept_move s w ms dead t dies = lost

  kept_step : (m : Move) (w : List ℕ) (ms : List Marked) → Kept m ms → Kept (advance m w) (mark_at m w ∷ ms)
  kept_step (goes s) w ms (keeps o t) = kept_move s w ms (step s w) t (sound s w o)
  kept_step (done r) w ms k = lost
  kept_step dead w ms k = lost

  pub kept-walk : (m : Move) (ws : List (List ℕ)) (ms : List Marked) → Kept m ms → Kept (walk m ws) (rev_onto (marks_of m ws) ms)
  unfolding walk marks_of
  kept-walk m [] ms k = k
  kept-walk m (w ∷ ws) ms k = kept-walk (advance m w) ws (mark_at m w ∷ ms) (kept_step m w ms k)

  pub start-kept : (ws : List (List ℕ)) → Kept (walk start ws) (rev_onto (marks_of start ws) [])
  unfolding told
  start-kept ws = kept-walk start ws [] (keeps tt refl)

  -- accepted words with their parts are those of the record, which is good
  pub accepted-good : (ws : List (List ℕ)) (r : Record) → walk start ws ≡ done r → good r ≡ true
  accepted-good ws r e = kept-good (rw e at (start-kept ws))

  pub accepted-parts : (ws : List (List ℕ)) (r : Record) → walk start ws ≡ done r → marks_of start ws ≡ message_parts r
  accepted-parts ws r e =
      sym (rev-same (message_parts r) (marks_of start ws) (rev-last (parts_of r) (marked 12 equals_sign) [] ∙ kept-told (rw e at (start-kept ws))))

  pub accepted-words : (ws : List (List ℕ)) (r : Record) → walk start ws ≡ done r → ws ≡ message_words r
  accepted-words ws r e = sym (marks-words start ws) ∙ (ap unmarked (accepted-parts ws r e) ∙ message-words r)

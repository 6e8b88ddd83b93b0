-- The area: its letters, its name and its closing word.
use mathlib.Core.Bool.{true, false}
use mathlib.Core.List.{List, [], ◌∷◌, ◌++◌, append_assoc}
use mathlib.Core.Path.{◌≡◌, refl, ◌∙◌}
use Prim.Native.Nat.{ℕ}
use native.Mathlib.Nat.{le_refl}
use lib.Dec.{leb}
use lib.ListN.{length, take}
use Rattle.lists.specs.Base.{worth_after, places}
use Rattle.lists.specs.Lists.{all_of, index_of, same}
use Rattle.lists.specs.Text.{bytes}
use Rattle.lists.proofs.Choice.{both_left, both_true}
use Rattle.lists.proofs.Lists.{all_append}
use Rattle.words.specs.Words.{plain_word}
use Rattle.figures.specs.Letters.{letters_of, in_letters, good_letters}
use Rattle.figures.specs.Tables.{numbered}
use Rattle.figures.proofs.ReadsLaws.{reads-spelled}
use Rattle.names.specs.Names.{closing_words, closing_of, good_closing, name_word, in_name, pieces}
use Rattle.names.proofs.NameLaws.{closing-reads, closing-plain}
use Rattle.message.specs.Limits.{name_bytes}
use Rattle.message.specs.Names.{name_words}
use Rattle.message.specs.Records.{good_area}
use Rattle.message.specs.Words.{area_words}
use Rattle.message.specs.declared.Area.{Area}
use Rattle.message.specs.declared.FirstLine.{FirstLine}
use Rattle.message.specs.declared.Heading.{Heading}
use Rattle.message.proofs.Goodness.{area-parts}
use Rattle.grammar.specs.Parts.{Marked, marked}
use Rattle.grammar.specs.Records.{name_of}
use Rattle.grammar.specs.Runs.{walk}
use Rattle.grammar.specs.States.{ToArea}
use Rattle.grammar.specs.States.Move.{goes}
use Rattle.grammar.specs.States.State.{at_indicator, at_name, at_more_name, at_form}
use Rattle.grammar.specs.Steps.{begun, gone_on, grown, step}
use Rattle.grammar.proofs.Told.{told, told_line, onward, onward-last}
use Rattle.grammar.proofs.Invariant.{OpeningOk, NameOk, Ok}
use Rattle.grammar.proofs.Moves.{Fine, chosen, goes-if, Next, next-by, walk_step}
use Rattle.grammar.proofs.Moves.Fine.{leads}
use Rattle.grammar.proofs.NameText.{begun-name, begun-pieces, grown-name, grown-pieces, open-area, name-words-of, name-of-good, good-name-is, good-name-ok, good-name-plain, forth-name}
use Rattle.grammar.proofs.Opening.{four-reads, reads_on, four-plain}

-- Sound.

pub indicator-sound : (h : Heading) (l : FirstLine) (w : List ℕ) → Ok (at_indicator h l) → Fine (at_indicator h l) w (step (at_indicator h l) w)
unfolding step told
indicator-sound h l w ok =
    goes-if (good_letters 4 (letters_of 4 w)) (λ g. record { ok = (ok.0, ok.1, g); tells = rw (reads-spelled four-reads w g) })

pub name-sound : (h : Heading) (l : FirstLine) (i : ℕ) (w : List ℕ) → Ok (at_name h l i) → Fine (at_name h l i) w (step (at_name h l i) w)
unfolding step told
name-sound h l i w ok =
    goes-if (begun false name_bytes w) (λ g. record { ok = (ok.0, ok.1, ok.2, begun-name false name_bytes w g); tells = rw (begun-pieces false name_bytes w g) })

-- the area that a closing word ends
abbrev closed_area : ℕ → List ℕ → List ℕ → Area
closed_area i t w = record { indicator = i; name = name_of t; closing = closing_of w }

area-good : (i : ℕ) (t w : List ℕ) → good_letters 4 i ≡ true → NameOk false name_bytes t → good_closing (closing_of w) ≡ true → good_area (closed_area i t w) ≡ true
unfolding good_area
area-good i t w g ok c = both_true g (both_true (name-of-good false name_bytes t ok (le_refl name_bytes)) c)

area-told : (i : ℕ) (t w : List ℕ) (back : List Marked) → good_closing (closing_of w) ≡ true
    → onward 6 (area_words (closed_area i t w)) back ≡ marked 6 w ∷ onward 6 (pieces t) (marked 6 (in_letters 4 i) ∷ back)
unfolding area_words
area-told i t w back c = rw (name-words-of t, reads-spelled closing-reads w c) (onward-last 6 (pieces t) w (marked 6 (in_letters 4 i) ∷ back))

pub more-name-sound : (h : Heading) (l : FirstLine) (i : ℕ) (t w : List ℕ) → Ok (at_more_name h l i t)
    → Fine (at_more_name h l i t) w (step (at_more_name h l i t) w)
unfolding step told
more-name-sound h l i t w ok =
    chosen (good_closing (closing_of w))
    (λ c. leads (record { ok = record { heading = ok.0; line = ok.1; area = area-good i t w ok.2 ok.3 c }; tells = area-told i t w (told_line h l) c }))
    (λ c. goes-if (gone_on false name_bytes t w)
    (λ g. record { ok = (ok.0, ok.1, ok.2, grown-name false name_bytes t w ok.3 g); tells = rw (grown-pieces false name_bytes t w g) (onward-last 6 (pieces t) w (marked 6 (in_letters 4 i) ∷ told_line h l)) }))

-- Live.

module _ (form : (o : ToArea) → OpeningOk o → Next (at_form o)) where
  pub more-name-next : (h : Heading) (l : FirstLine) (i : ℕ) (t : List ℕ) → Ok (at_more_name h l i t) → Next (at_more_name h l i t)
  unfolding step closing_words index_of same
  more-name-next h l i t ok =
      let o : ToArea = record { heading = h; line = l; area = closed_area i t (bytes "FIR") } in
      next-by (at_more_name h l i t) (bytes "FIR") (at_form o) refl refl
      (form o (record { heading = ok.0; line = ok.1; area = area-good i t (bytes "FIR") ok.2 ok.3 refl }))

  pub name-next : (h : Heading) (l : FirstLine) (i : ℕ) → Ok (at_name h l i) → Next (at_name h l i)
  unfolding step closing_words name_word index_of all_of same
  name-next h l i ok =
      next-by (at_name h l i) (bytes "A") (at_more_name h l i (bytes "A")) refl refl
      (more-name-next h l i (bytes "A") (ok.0, ok.1, ok.2, begun-name false name_bytes (bytes "A") refl))

  pub indicator-next : (h : Heading) (l : FirstLine) → Ok (at_indicator h l) → Next (at_indicator h l)
  unfolding step letters_of good_letters all_of worth_after places
  indicator-next h l ok =
      let i : ℕ = letters_of 4 (bytes "QBBB") in
      next-by (at_indicator h l) (bytes "QBBB") (at_name h l i) refl refl (name-next h l i (ok.0, ok.1, refl))

-- Forth.

name-on : (h : Heading) (l : FirstLine) (i : ℕ) (t w : List ℕ) → gone_on false name_bytes t w ≡ true → step (at_more_name h l i t) w ≡ goes (at_more_name h l i (grown t w))
unfolding step
name-on h l i t w g = rw (open-area w (both_left (in_name false w) (leb (length (grown t w)) name_bytes) g), g)

name-first : (h : Heading) (l : FirstLine) (i : ℕ) (w : List ℕ) → begun false name_bytes w ≡ true → step (at_name h l i) w ≡ goes (at_more_name h l i w)
unfolding step
name-first h l i w g = rw g

-- a good area
module _ (a : Area) (g : good_area a ≡ true) where
  -- the text of its name
  abbrev area-text : List ℕ
  area-text = take a.name.count a.name.bytes

  area-indicator-step : (h : Heading) (l : FirstLine) → step (at_indicator h l) (in_letters 4 a.indicator) ≡ goes (at_name h l a.indicator)
  unfolding step
  area-indicator-step h l = reads_on four-reads (at_name h l) a.indicator (area-parts a g).indicator

  area-closing-step : (h : Heading) (l : FirstLine)
      → step (at_more_name h l a.indicator area-text) (numbered 1 closing_words a.closing) ≡ goes (at_form (record { heading = h; line = l; area = a }))
  unfolding step
  area-closing-step h l =
      let parts = area-parts a g in
      rw (closing-reads.forth a.closing parts.closing, parts.closing, ← (good-name-is false name_bytes (le_refl name_bytes) a.name parts.name))

pub forth-area : (h : Heading) (l : FirstLine) (a : Area) (ws : List (List ℕ)) → good_area a ≡ true
    → walk (goes (at_indicator h l)) (area_words a ++ ws) ≡ walk (goes (at_form (record { heading = h; line = l; area = a }))) ws
unfolding area_words
forth-area h l a ws g =
    let i : ℕ = a.indicator in
    let closing : List ℕ = numbered 1 closing_words a.closing in
    walk_step (at_indicator h l) (at_name h l i) (in_letters 4 i) ((name_words a.name ++ (closing ∷ [])) ++ ws) (area-indicator-step a g h l)
    ∙ (rw (append_assoc (name_words a.name) (closing ∷ []) ws)
    (forth-name false name_bytes (at_more_name h l i) (name-on h l i) (at_name h l i) (name-first h l i) (area-text a g) (closing ∷ ws) (good-name-ok false name_bytes (le_refl name_bytes) a.name (area-parts a g).name))
    ∙ walk_step (at_more_name h l i (area-text a g)) (at_form (record { heading = h; line = l; area = a })) closing ws (area-closing-step a g h l))

-- Plain.

pub plain-area : (a : Area) → good_area a ≡ true → all_of plain_word (area_words a) ≡ true
unfolding area_words all_of
plain-area a g =
    let parts = area-parts a g in
    let closing : List ℕ = numbered 1 closing_words a.closing in
    both_true (four-plain a.indicator parts.indicator)
    (all_append plain_word (name_words a.name) (closing ∷ [])
    ∙ both_true (good-name-plain false name_bytes (le_refl name_bytes) a.name parts.name) (both_true (closing-plain a.closing parts.closing) refl))

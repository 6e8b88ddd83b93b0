-- One word of a location, in a report and in a forecast alike: what the location does with it is what the machine does. And the letter of a
-- side, known by the word's code.
use mathlib.Core.Bool.{Bool, true, false}
use mathlib.Core.List.{List, [], ◌∷◌}
use mathlib.Core.Logic.{◌⊎◌}
use mathlib.Core.Logic.◌⊎◌.{inl, inr}
use mathlib.Core.Path.{◌≡◌, refl, ap, sym, ◌∙◌}
use Prim.Native.Nat.{ℕ, ◌%◌}
use lib.ListN.{get_or}
use borrow.Author.Tests.{eq-eqb, ne_eqb}
use Rattle.std.specs.Prelude.{Option, None, Some, Ok, Err}
use Rattle.lists.specs.Base.{worth_after}
use Rattle.lists.specs.Lists.{all_of, same}
use Rattle.lists.proofs.Choice.{either_left, either-right, either-false}
use Rattle.lists.proofs.Lists.{same-is}
use Rattle.figures.specs.Codes.{behind_one, code_of, FixedWord}
use Rattle.vocabulary.specs.Codes.{code-cta, code-fir}
use Rattle.vocabulary.proofs.FixedWords.{fixed-fir, fixed-cta}
use Rattle.coordinates.specs.Coordinates.{Axis, north_south, east_west}
use Rattle.message.specs.declared.Extent.{Extent}
use Rattle.message.specs.Limits.{cta}
use Rattle.message.specs.Locations.{entire_word}
use Rattle.grammar.specs.Numbers.{following_part, place_number, number_of}
use Rattle.grammar.specs.Placing.Placed.{on, there, past, nowhere}
use Rattle.grammar.specs.Placing.{on_if, there_if, side_word, place_step}
use Rattle.grammar.specs.States.Move.{goes, dead}
use Rattle.grammar.specs.States.Site.{in_report, in_forecast}
use Rattle.grammar.specs.States.State.{at_place}
use Rattle.grammar.specs.States.{Site, Placing}
use Rattle.grammar.specs.Steps.{goes_if, closing_at, after, step_after, settled, step}
use Rattle.reader_sections.specs.declared.parts.Part.{Part}
use Rattle.reader_sections.specs.declared.step.Refused.{Refused}
use Rattle.reader_sections.specs.declared.step.Step.{Step}
use Rattle.reader_sections.specs.Locations.{SideSays}
use Rattle.reader_sections.specs.Parts.{part_number}
use Rattle.reader_sections.specs.Steps.{next_word, word_on, Next, Required, Reaches, Ends}
use Rattle.reader_sections.proofs.OneWord.{Accepts, AcceptsFixed, code-yes, code-no, with-word, ends}
use Rattle.reader_sections.proofs.RunsAt.{OnlyWords}

-- the number of what follows a location
pub following-number : (site : Site) (e : Extent) → number_of (after site e) ≡ following_part site
following-number (in_report o) e = refl
following-number (in_forecast l i) e = refl

after-step : (site : Site) (e : Extent) (w : List ℕ) → step_after site e w ≡ step (after site e) w
unfolding step
after-step (in_report o) e w = refl
after-step (in_forecast l i) e w = refl

settled_on : (site : Site) (w : List ℕ) (t : Bool) (next : Placing) → settled site w (on_if t next) ≡ goes_if t (at_place site next)
settled_on site w true next = refl
settled_on site w false next = refl

settled-there : (site : Site) (w : List ℕ) (t : Bool) (e : Extent) → settled site w (there_if t e) ≡ goes_if t (after site e)
settled-there site w true e = refl
settled-there site w false e = refl

-- a word of a location, by what the location does with it
module _ (site : Site) (p : Placing) (w : List ℕ) where
  pub on_step : {next : Placing} → place_step (closing_at site) p w ≡ on next → step (at_place site p) w ≡ goes (at_place site next)
  unfolding step
  on_step k = ap (settled site w) k

  pub there-step : {e : Extent} → place_step (closing_at site) p w ≡ there e → step (at_place site p) w ≡ goes (after site e)
  unfolding step
  there-step k = ap (settled site w) k

  pub past-step : {e : Extent} → place_step (closing_at site) p w ≡ past e → step (at_place site p) w ≡ step (after site e) w
  unfolding step
  past-step {e} k = ap (settled site w) k ∙ after-step site e w

  pub nowhere-step : place_step (closing_at site) p w ≡ nowhere → step (at_place site p) w ≡ dead
  unfolding step
  nowhere-step k = ap (settled site w) k

  pub on-if-step : (t : Bool) (next : Placing) → place_step (closing_at site) p w ≡ on_if t next → step (at_place site p) w ≡ goes_if t (at_place site next)
  unfolding step
  on-if-step t next k = ap (settled site w) k ∙ settled_on site w t next

  pub there-if-step : (t : Bool) (e : Extent) → place_step (closing_at site) p w ≡ there_if t e → step (at_place site p) w ≡ goes_if t (after site e)
  unfolding step
  there-if-step t e k = ap (settled site w) k ∙ settled-there site w t e

-- a required word inside a location: on to another place of it, or out of it
module _ (site : Site) (p : Placing) {judged : Part} (n : place_number site p ≡ part_number judged) {w : List ℕ} where
  module _ {A : Type 0} {read : List ℕ → A} {good : A → Bool} (o : OnlyWords (λ (x : List ℕ). good (read x))) where
    pub accepts-on : (next : A → Placing) → place_step (closing_at site) p w ≡ on_if (good (read w)) (next (read w))
        → Accepts (at_place site p) judged read good (λ v. at_place site (next v)) w
    accepts-on next k = record { does = on-if-step site p w (good (read w)) (next (read w)) k; number = n; only = o }

    pub accepts-there : (e : A → Extent) → place_step (closing_at site) p w ≡ there_if (good (read w)) (e (read w))
        → Accepts (at_place site p) judged read good (λ v. after site (e v)) w
    accepts-there e k = record { does = there-if-step site p w (good (read w)) (e (read w)) k; number = n; only = o }

  module _ {k : List ℕ} {code : ℕ} (f : FixedWord k code) where
    pub fixed-on : (next : Placing) → place_step (closing_at site) p w ≡ on_if (same w k) next → AcceptsFixed (at_place site p) judged code (at_place site next) w
    fixed-on next i = record { word = k; fixed = f; does = on-if-step site p w (same w k) next i; number = n }

    pub fixed-there : (e : Extent) → place_step (closing_at site) p w ≡ there_if (same w k) e → AcceptsFixed (at_place site p) judged code (after site e) w
    fixed-there e i = record { word = k; fixed = f; does = there-if-step site p w (same w k) e i; number = n }

-- The two letters of an axis, by their codes.
pub record Letters (a : Axis) (plus minus : ℕ) : Type 0 where
  pub plus-word : FixedWord (a.plus ∷ []) plus
  pub minus-word : FixedWord (a.minus ∷ []) minus
  pub plus-letter : plus % 256 ≡ a.plus
  pub minus-letter : minus % 256 ≡ a.minus

module _ {a : Axis} {plus minus : ℕ} (l : Letters a plus minus) (from : Step) where
  pub no-side : SideSays (code_of (word_on from)) plus minus None → side_word a (next_word from) ≡ false
  no-side s = either-false (code-no l.plus-word from s.is.0) (code-no l.minus-word from s.is.1)

  module _ {letter : ℕ} (s : SideSays (code_of (word_on from)) plus minus (Some letter)) where
    is-letter : (code : ℕ) (k : ℕ) → FixedWord (k ∷ []) code → code % 256 ≡ k → code_of (word_on from) ≡ code → (same (next_word from) (k ∷ []) ≡ true) × (letter ≡ get_or (next_word from) 0 0)
    is-letter code k f r e =
        let yes : same (next_word from) (k ∷ []) ≡ true = code-yes f from e in
        (yes, s.is.1 ∙ (ap (λ (x : ℕ). x % 256) e ∙ (r ∙ ap (λ (u : List ℕ). get_or u 0 0) (sym (same-is (next_word from) (k ∷ []) yes)))))

    pub side-on : {to : Step} → Next from to → (site : Site) (q : Placing) (next : ℕ → Placing)
        → (side_word a (next_word from) ≡ true → place_step (closing_at site) q (next_word from) ≡ on (next (get_or (next_word from) 0 0)))
        → Reaches (at_place site q) from (at_place site (next letter)) to
    side-on {to} n site q next j = go s.is.0
      where
        moved : (side_word a (next_word from) ≡ true) → letter ≡ get_or (next_word from) 0 0 → step (at_place site q) (next_word from) ≡ goes (at_place site (next letter))
        moved y i = on_step site q (next_word from) (j y ∙ ap (λ (x : ℕ). on (next x)) (sym i))

        go : (code_of (word_on from) ≡ plus) ⊎ (code_of (word_on from) ≡ minus) → Reaches (at_place site q) from (at_place site (next letter)) to
        go (inl e) = let h = is-letter plus a.plus l.plus-word l.plus-letter e in with-word l.plus-word from e n (λ y. moved (either_left _ y) h.1)
        go (inr e) = let h = is-letter minus a.minus l.minus-word l.minus-letter e in with-word l.minus-word from e n (λ y. moved (either-right _ y) h.1)

-- … as a required word
module _ {a : Axis} {plus minus : ℕ} (l : Letters a plus minus) (from : Step) {code : ℕ} {value : Option ℕ} (e : code ≡ code_of (word_on from)) (s : SideSays code plus minus value) where
  required-says : {r : Option ℕ} → value ≡ r → SideSays (code_of (word_on from)) plus minus r
  required-says is = rw (← e, ← is) s

  pub required-side : {judged : Part} {letter : ℕ} {to : Step} → Required judged from value (Ok (letter, to)) → (site : Site) (q : Placing) (next : ℕ → Placing)
      → (side_word a (next_word from) ≡ true → place_step (closing_at site) q (next_word from) ≡ on (next (get_or (next_word from) 0 0)))
      → Reaches (at_place site q) from (at_place site (next letter)) to
  required-side r site q next j = side-on l from (required-says r.is.0) r.is.1 site q next j

  pub no-required-side : {judged : Part} {x : Refused} → Required judged from value (Err x) → (site : Site) (q : Placing) → place_number site q ≡ part_number judged
      → (side_word a (next_word from) ≡ false → place_step (closing_at site) q (next_word from) ≡ nowhere) → Ends (at_place site q) from x
  no-required-side r site q n j = ends r.is.1 n (nowhere-step site q (next_word from) (j (no-side l from (required-says r.is.0))))

pub north-letters : Letters north_south 334 339
unfolding code_of behind_one all_of worth_after same
north-letters = record {
  plus-word = record { is-short = refl; has = refl; some = refl; no_sign = refl; spelled = refl };
  minus-word = record { is-short = refl; has = refl; some = refl; no_sign = refl; spelled = refl };
  plus-letter = refl;
  minus-letter = refl;
}

pub east-letters : Letters east_west 325 343
unfolding code_of behind_one all_of worth_after same
east-letters = record {
  plus-word = record { is-short = refl; has = refl; some = refl; no_sign = refl; spelled = refl };
  minus-word = record { is-short = refl; has = refl; some = refl; no_sign = refl; spelled = refl };
  plus-letter = refl;
  minus-letter = refl;
}

-- the word after `ENTIRE`
pub entire-cta : (closing : ℕ) → closing ≡ cta → FixedWord (entire_word closing) code-cta
entire-cta closing e = rw (eq-eqb closing cta e) fixed-cta

pub entire-fir : (closing : ℕ) → (closing ≡ cta → ⊥) → FixedWord (entire_word closing) code-fir
entire-fir closing n = rw (ne_eqb closing cta n) fixed-fir

-- The first words of a storm, which the code tells by the place of a word's code among theirs.
use mathlib.Core.Bool.{Bool, true, false}
use mathlib.Core.List.{List, [], ◌∷◌, map}
use mathlib.Core.Path.{◌≡◌, refl, ap, sym, ◌∙◌}
use Prim.Native.Nat.{ℕ, ◌+◌, ◌-◌, ◌≤◌, ◌<◌}
use native.Mathlib.Omega.{arith}
use lib.Dec.{eqb, ltb}
use lib.ListN.{length}
use borrow.Author.Tests.{lt-ltb, le-ltb, le-leb, ltb-true, ltb-false}
use Rattle.std.specs.Prelude.{None, Some, position}
use Rattle.lists.specs.Base.{worth_after}
use Rattle.lists.specs.Lists.{all_of, index_of, same}
use Rattle.lists.proofs.Choice.{both_true}
use Rattle.lists.proofs.Found.{some-good, some-is, none-bad}
use Rattle.lists.proofs.Library.{position-found}
use Rattle.figures.specs.Codes.{short, code_of}
use Rattle.figures.specs.Tables.{word_in}
use Rattle.figures.proofs.TableLaws.{find-word}
use Rattle.vocabulary.specs.Codes.{code-obsc, code-embd, code-frq, code-sql}
use Rattle.grammar.specs.States.State.{at_form, at_storm}
use Rattle.grammar.specs.States.{ToArea}
use Rattle.grammar.specs.Steps.{storm_words, storm_of, good_storm, step_weather, step}
use Rattle.reader_sections.specs.declared.step.Step.{Step}
use Rattle.reader_sections.specs.Steps.{next_word, word_on, Next, Reaches}
use Rattle.reader_sections.proofs.OneWord.{standing, reaches}
use Rattle.reader_sections.proofs.RunsAt.{OnlyWords, part-test, part-passes, in-text}

storms-short : all_of short storm_words ≡ true
unfolding storm_words all_of
storms-short = refl

storms-count : length storm_words ≡ 4
unfolding storm_words
storms-count = refl

storm-only : OnlyWords (λ (w : List ℕ). good_storm (storm_of w))
unfolding storm_words index_of same
storm-only = record { empty = refl; sign = refl }

abbrev pub storms : List ℕ
storms = code-obsc ∷ code-embd ∷ code-frq ∷ code-sql ∷ []

the-storms : storms ≡ map code_of storm_words
unfolding code_of worth_after all_of storm_words
the-storms = refl

-- what `position` answers, by our own search
place-found : {n : ℕ} (f : ℕ → Bool) (xs : List ℕ) → Some n ≡ position f xs → (n ≡ index_of f xs) × (n < length xs)
place-found f xs i =
    let e = i ∙ position-found f xs in
    let is = some-is (λ (k : ℕ). ltb k (length xs)) e in
    (is, omega (arith, is, ltb-true _ _ (some-good (λ (k : ℕ). ltb k (length xs)) e)))

place-missing : (f : ℕ → Bool) (xs : List ℕ) → None ≡ position f xs → length xs ≤ index_of f xs
place-missing f xs i = ltb-false _ _ (none-bad (λ (k : ℕ). ltb k (length xs)) (i ∙ position-found f xs))

module _ (from : Step) where
  place-is : index_of (eqb (code_of (word_on from))) storms ≡ word_in storm_words (word_on from)
  place-is = rw the-storms (find-word storm_words (word_on from) storms-short)

  module _ {n : ℕ} (i : Some n ≡ position (eqb (code_of (word_on from))) storms) where
    found-at : (n ≡ word_in storm_words (word_on from)) × (n < 4)
    found-at = let p = place-found (eqb (code_of (word_on from))) storms i in (p.0 ∙ place-is, p.1)

    storm-number : storm_of (word_on from) ≡ n + 1
    storm-number =
        let f = found-at in
        rw (lt-ltb (word_in storm_words (word_on from)) (length storm_words) (omega (arith, f.0, f.1, storms-count))) (omega (arith, f.0))

    storm-good : good_storm (storm_of (word_on from)) ≡ true
    storm-good = let f = found-at in rw storm-number (both_true (le-leb 1 (n + 1) (omega arith)) (le-leb (n + 1) (1 + length storm_words - 1) (omega (arith, f.1, storms-count))))

    -- the word is a storm's
    pub goes-storm : {to : Step} → Next from to → (o : ToArea) → step (at_form o) (next_word from) ≡ step_weather o (next_word from) → Reaches (at_form o) from (at_storm o (n + 1)) to
    goes-storm past o j =
        let word : word_on from ≡ next_word from = part-passes (standing from) from.stands storm-only storm-good in
        let good : good_storm (storm_of (next_word from)) ≡ true = rw word at storm-good in
        reaches past (in-text (standing from) from.stands storm-only good) (j ∙ rw (good, ap storm_of (sym word) ∙ storm-number))

  -- the word is none of theirs
  pub no-storm : None ≡ position (eqb (code_of (word_on from))) storms → good_storm (storm_of (next_word from)) ≡ false
  no-storm i =
      let past : 4 ≤ index_of (eqb (code_of (word_on from))) storms = place-missing (eqb (code_of (word_on from))) storms i in
      sym (part-test (standing from) from.stands storm-only)
      ∙ rw (le-ltb (word_in storm_words (word_on from)) (length storm_words) (omega (arith, place-is, past, storms-count)))

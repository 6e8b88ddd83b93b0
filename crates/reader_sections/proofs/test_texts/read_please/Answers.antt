-- `read_please` meets its contract: both longer texts end with these two words.
use mathlib.Core.List.{List}
use mathlib.Core.Path.{refl}
use Prim.Native.Nat.{ℕ}
use native.Mathlib.Omega.{arith}
use borrow.Author.Rules.{rules}
use Rattle.lists.specs.Text.{bytes}
use Rattle.vocabulary.specs.Codes.{code-please}
use Rattle.vocabulary.proofs.FixedWords.{fixed-please}
use Rattle.message.specs.Words.{test_texts}
use Rattle.grammar.specs.Records.{test_of}
use Rattle.grammar.specs.States.State.{at_test_text, at_end}
use Rattle.grammar.specs.States.{ToArea}
use Rattle.grammar.specs.Steps.{step}
use Rattle.reader_sections.specs.declared.parts.Part.TheVariants.{Form}
use Rattle.reader_sections.proofs.Leads.{then-moves, moves-err}
use Rattle.reader_sections.proofs.OneWord.{AcceptsFixed, AcceptsLong, took-fixed, missed-fixed, long-moves}
use Rattle.reader_sections.proofs.test_texts.read_please.Goals as goal

please-two : (o : ToArea) (w : List ℕ) → AcceptsFixed (at_test_text o 2 2) Form code-please (at_test_text o 2 3) w
unfolding step test_texts
please-two o w = record { word = _; fixed = fixed-please; does = refl; number = refl }

please-three : (o : ToArea) (w : List ℕ) → AcceptsFixed (at_test_text o 3 6) Form code-please (at_test_text o 3 7) w
unfolding step test_texts
please-three o w = record { word = _; fixed = fixed-please; does = refl; number = refl }

disregard-two : (o : ToArea) (w : List ℕ) → AcceptsLong (at_test_text o 2 3) Form (bytes "DISREGARD") (at_end (test_of o 2)) w
unfolding step test_texts
disregard-two o w = record { does = refl; number = refl; some = omega arith }

disregard-three : (o : ToArea) (w : List ℕ) → AcceptsLong (at_test_text o 3 7) Form (bytes "DISREGARD") (at_end (test_of o 3)) w
unfolding step test_texts
disregard-three o w = record { does = refl; number = refl; some = omega arith }

pub returns-in_err-step : goal.returns-in_err-step
returns-in_err-step c = record {
  second = λ o. moves-err (missed-fixed (please-two o _) c.in_err-step.ensures) (search rules);
  third = λ o. moves-err (missed-fixed (please-three o _) c.in_err-step.ensures) (search rules);
}

pub returns : goal.returns
returns c = record {
  second = λ o. then-moves (took-fixed (please-two o _) c.in_ok-step.ensures) (long-moves _ (disregard-two o _) c.long.ensures);
  third = λ o. then-moves (took-fixed (please-three o _) c.in_ok-step.ensures) (long-moves _ (disregard-three o _) c.long.ensures);
}

-- `flight_word` meets its contract: a level that is FLnnn has a number, and no other word has.
use mathlib.Core.List.{List}
use mathlib.Core.Logic.{⊎_elim}
use mathlib.Core.Path.{◌≡◌, refl, ap, sym, ◌∙◌}
use Prim.Native.Nat.{ℕ}
use borrow.Author.Rules.{rules}
use Rattle.std.specs.Prelude.{None, Some}
use Rattle.lists.specs.Choice.{found}
use Rattle.lists.proofs.Choice.{clash}
use Rattle.lists.proofs.Found.{found-some, found-none, some-is, some-good, none-bad}
use Rattle.levels.specs.declared.Level.{Level}
use Rattle.levels.specs.declared.Level.TheVariants.{NoLevel, Flight}
use Rattle.levels.specs.Levels.{level_of, good_level_word, flight}
use Rattle.levels.proofs.LevelLaws.{level-reads}
use Rattle.grammar.specs.Steps.{flight_of}
use Rattle.reader_sections.specs.Reports.{flight_in}
use Rattle.reader_sections.proofs.level.flight_word.Goals as goal

-- a word that is no level has no number
no-flight : (w : List ℕ) → None ≡ found good_level_word (level_of w) → None ≡ found flight (flight_in w)
no-flight w e =
    let bad = none-bad good_level_word e in
    ⊎_elim (λ (n : level_of w ≡ NoLevel). found-none flight (sym (ap flight_of n)) refl) (λ g. clash (good_level_word (level_of w)) g.0 bad) (level-reads.back w)

a-flight : (w : List ℕ) (n : ℕ) {l : Level} → Some l ≡ found good_level_word (level_of w) → l ≡ Flight n → Some n ≡ found flight (flight_in w)
unfolding good_level_word
a-flight w n e is =
    let level : level_of w ≡ Flight n = sym (some-is good_level_word e) ∙ is in
    found-some flight (sym (ap flight_of level)) (ap good_level_word (sym level) ∙ some-good {v = level_of w} good_level_word e)

pub returns-in_err-n : goal.returns-in_err-n
returns-in_err-n c = let none : c.from_residual.result ≡ None = search rules in rw none (no-flight _ c.in_err-n.ensures)

pub returns-in-Flight : goal.returns-in-Flight
returns-in-Flight c = a-flight _ _ c.in_ok-n.ensures c.in-Flight.is

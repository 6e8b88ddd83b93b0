-- The machine over a list of words, without and with their places.
-- Tied: `read-replied`, `replied-only` (crates/grammar/proofs/Theorems.antt).
use Rattle.std.specs.Prelude.{List, [], ◌∷◌, ℕ}
use Rattle.words.specs.Words.{Word, words_at}
use Rattle.message.specs.declared.Record.{Record}
use Rattle.grammar.specs.Numbers.{number_of}
use Rattle.grammar.specs.States.{State, Move}
use Rattle.grammar.specs.States.Move.{goes, done, dead}
use Rattle.grammar.specs.Steps.{step}

-- one more word: nothing follows the `=`
abbrev pub advance : Move → List ℕ → Move
advance (goes s) w = step s w
advance (done r) w = dead
advance dead w = dead

-- the words one by one
unfoldable pub walk : Move → List (List ℕ) → Move
walk m [] = m
walk m (w ∷ ws) = walk (advance m w) ws

-- what comes of a run: an accepted record, or a refusal by number and place, or words that end before the `=`
pub data Ran : Type 0 where
  accepted : Record → Ran
  refused : ℕ → ℕ → Ran
  unfinished : Ran

-- "that `=` is the last word": a `=` at place p that has words behind it gets the number that any other word there would get
abbrev pub finished : Record → ℕ → ℕ → List Word → Ran
finished r number p [] = accepted r
finished r number p (w ∷ ws) = refused number p

-- the move that the word at place p made, with the number of that word should it be refused, the words after it, and how the run goes on
abbrev pub follow : Move → ℕ → ℕ → List Word → (State → Ran) → Ran
follow (goes s) number p ws on = on s
follow (done r) number p ws on = finished r number p ws
follow dead number p ws on = refused number p

-- "For 4 to 12 the word is the first that, with those before it, begins no accepted message": the place is the word's
unfoldable pub run : State → List Word → Ran
run s [] = unfinished
run s (w ∷ ws) = follow (step s w.bytes) (number_of s) w.place ws (λ (next : State). run next ws)

-- the run over the words of a text from a place on
unfoldable pub run_at : State → List ℕ → ℕ → Ran
run_at s t p = run s (words_at t p)

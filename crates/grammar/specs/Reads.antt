-- 01, the reader on every list of bytes: numbers 1 to 3, then the machine.
-- Tied: `read-replied`, `replied-only` (crates/grammar/proofs/Theorems.antt).
use Rattle.std.specs.Prelude.{List, ℕ, eqb}
use Rattle.lists.specs.Choice.{pick}
use Rattle.words.specs.Check.{check_of}
use Rattle.words.specs.Words.{length_at}
use Rattle.grammar.specs.Bulletins.{acceptance, refusal, text_within}
use Rattle.grammar.specs.Runs.{Ran, run_at}
use Rattle.grammar.specs.Runs.Ran.{accepted, refused, unfinished}
use Rattle.grammar.specs.States.State.{at_designator}
use Rattle.grammar.specs.declared.Reply.{Reply}

-- what came of the run over a text; the words of a text end with its `=`, so that none is unfinished: it would lack its `=`
abbrev pub reply_of : List ℕ → Ran → Reply
reply_of t (accepted r) = acceptance r
reply_of t (refused number place) = refusal number place (length_at t place)
reply_of t unfinished = refusal 3 0 0

-- "Reader, in this order": 1 to 3, then the words
unfoldable pub read_of : List ℕ → Reply
read_of b =
    pick (eqb (check_of b).number 0) (reply_of (text_within b) (run_at at_designator (text_within b) 0))
    (refusal (check_of b).number (check_of b).place (check_of b).length)

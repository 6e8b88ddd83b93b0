-- The two kinds of reply to a bulletin, and the text in it that has words. Nothing here knows the machine.
-- Believed.
use Rattle.std.specs.Prelude.{List, ℕ, take}
use Rattle.words.specs.Check.{check_of}
use Rattle.message.specs.Empty.{no_record}
use Rattle.message.specs.declared.Record.{Record}
use Rattle.grammar.specs.declared.Reply.{Reply}

-- "the refusal number (0 if none), …, the place (0 if none)"; 02, CR 4: "a third number, 0 on success"
abbrev pub acceptance : Record → Reply
acceptance r = record { number = 0; place = 0; length = 0; message = r }

-- 02, CR 4: "Every reader refusal shall also give a length"; 01: "A refusal returns an empty record, all zero."
abbrev pub refusal : ℕ → ℕ → ℕ → Reply
refusal number place long = record { number = number; place = place; length = long; message = no_record }

-- what stands before the first `=`, where numbers 1 to 3 have nothing against the bulletin
abbrev pub text_within : List ℕ → List ℕ
text_within b = take (check_of b).place b

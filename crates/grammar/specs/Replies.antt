-- The reader's reply on every list of bytes, said without the machine: 01, "Refusal numbers", "Reader, in this order".
-- Believed.
use Rattle.std.specs.Prelude.{true, List, ◌≡◌, ℕ, ◌<◌, ◌≤◌}
use Rattle.words.specs.Check.{check_of}
use Rattle.words.specs.Words.{words_in, words_at}
use Rattle.message.specs.Records.{good}
use Rattle.message.specs.declared.Record.{Record}
use Rattle.grammar.specs.Judged.{message_words, RefusedAt}
use Rattle.grammar.specs.Bulletins.{acceptance, refusal, text_within}
use Rattle.grammar.specs.declared.Reply.{Reply}

pub data Replied (b : List ℕ) : Reply → Type 0 where
  -- 1 to 3: no words can be read
  unreadable : 0 < (check_of b).number → Replied b (refusal (check_of b).number (check_of b).place (check_of b).length)
  -- the words before the first `=`, with it, are those of a good record
  read_as : {r : Record} → (check_of b).number ≡ 0 → good r ≡ true → words_in (text_within b) ≡ message_words r → Replied b (acceptance r)
  -- 4 to 12: "the word is the first that, with those before it, begins no accepted message"
  refused_with : {number place long : ℕ} → (check_of b).number ≡ 0 → 4 ≤ number → number ≤ 12 → RefusedAt (words_at (text_within b) 0) number place long
      → Replied b (refusal number place long)

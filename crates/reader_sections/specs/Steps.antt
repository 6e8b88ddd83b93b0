-- One word at a step, and what a section of the reader leads to: equations of the replies to the text, from a step on.
-- Internal contract.
use Rattle.std.specs.Prelude.{true, false, Option, None, Some, Result, Ok, Err, List, ◌≡◌, ℕ}
use Rattle.lists.specs.Lists.{part, same}
use Rattle.words.specs.Words.{span_of, word_from, length_at}
use Rattle.figures.specs.Codes.{code_of}
use Rattle.message.specs.declared.Record.{Record}
use Rattle.grammar.specs.Bulletins.{acceptance, refusal}
use Rattle.grammar.specs.declared.Reply.{Reply}
use Rattle.grammar.specs.Reads.{reply_of}
use Rattle.grammar.specs.Runs.{run_at}
use Rattle.grammar.specs.States.{State}
use Rattle.reader_sections.specs.declared.step.Step.{Step}
use Rattle.reader_sections.specs.declared.step.Refused.{Refused}
use Rattle.reader_sections.specs.declared.parts.Part.{Part}
use Rattle.reader_sections.specs.declared.parts.Part.TheVariants.{End}
use Rattle.reader_sections.specs.Parts.{part_number}

-- the next word, and what the text has of it: nothing where it is the `=`
abbrev pub next_word : Step → List ℕ
next_word p = word_from p.text.now p.place

abbrev pub word_on : Step → List ℕ
word_on p = part p.place p.end p.text.now

-- the step before the next word from a place on
pub record Before (t : List ℕ) (at : ℕ) (to : Step) : Type 0 where
  pub text : to.text.now ≡ t
  pub placed : to.place ≡ (span_of t at).start

-- the step past a word
pub record Next (from to : Step) : Type 0 where
  pub is : Before from.text.now from.end to

-- the word is refused as that part
pub record Refuses (judged : Part) (from : Step) (e : Refused) : Type 0 where
  pub kept : e.part ≡ judged
  pub at : e.place ≡ from.place
  pub long : e.length ≡ length_at from.text.now from.place

-- a required word that has a value, and any other
abbrev pub required : {A : Type 0} → Part → Step → Option A → Result (A × Step) Refused → Type 0
required judged from value (Ok v) = (value ≡ Some v.0) × Next from v.1
required judged from value (Err e) = (value ≡ None) × Refuses judged from e

pub record Required {A : Type 0} (judged : Part) (from : Step) (value : Option A) (r : Result (A × Step) Refused) : Type 0 where
  pub is : required judged from value r

-- a required fixed word, by its code
abbrev pub fixed : Part → ℕ → Step → Result Step Refused → Type 0
fixed judged code from (Ok p) = (code_of (word_on from) ≡ code) × Next from p
fixed judged code from (Err e) = (code_of (word_on from) ≡ code → ⊥) × Refuses judged from e

pub record Fixed (judged : Part) (code : ℕ) (from : Step) (r : Result Step Refused) : Type 0 where
  pub is : fixed judged code from r

-- … of more than seven bytes
abbrev pub long : Part → List ℕ → Step → Result Step Refused → Type 0
long judged wanted from (Ok p) = (same (word_on from) wanted ≡ true) × Next from p
long judged wanted from (Err e) = (same (word_on from) wanted ≡ false) × Refuses judged from e

pub record Long (judged : Part) (wanted : List ℕ) (from : Step) (r : Result Step Refused) : Type 0 where
  pub is : long judged wanted from r

-- perhaps a fixed word
abbrev pub perhaps : ℕ → Step → Option Step → Type 0
perhaps code from (Some p) = (code_of (word_on from) ≡ code) × Next from p
perhaps code from None = code_of (word_on from) ≡ code → ⊥

pub record Perhaps (code : ℕ) (from : Step) (r : Option Step) : Type 0 where
  pub is : perhaps code from r

-- the `=`, or a word in its place
abbrev pub ended : Step → Result Unit Refused → Type 0
ended from (Ok _) = from.place ≡ from.end
ended from (Err e) = (from.place ≡ from.end → ⊥) × Refuses End from e

pub record Ended (from : Step) (r : Result Unit Refused) : Type 0 where
  pub is : ended from r

-- the reply to the text from a step on, where the machine is in a state
abbrev pub reply_on : State → Step → Reply
reply_on s p = reply_of p.text.now (run_at s p.text.now p.place)

-- the reply is that from a later step on, in another state
pub record Reaches (s : State) (from : Step) (next : State) (to : Step) : Type 0 where
  pub says : reply_on s from ≡ reply_on next to

-- the reply is that refusal
pub record Ends (s : State) (from : Step) (e : Refused) : Type 0 where
  pub says : reply_on s from ≡ refusal (part_number e.part) e.place e.length

-- a section leads to a value, which gives the next state, and a step; or to a refusal
abbrev pub leads : {A : Type 0} → State → Step → Result (A × Step) Refused → (A → State) → Type 0
leads s from (Ok v) next = Reaches s from (next v.0) v.1
leads s from (Err e) next = Ends s from e

pub record Leads {A : Type 0} (s : State) (from : Step) (r : Result (A × Step) Refused) (next : A → State) : Type 0 where
  pub says : leads s from r next

-- … to a step alone
abbrev pub moves : State → Step → Result Step Refused → State → Type 0
moves s from (Ok p) next = Reaches s from next p
moves s from (Err e) next = Ends s from e

pub record Moves (s : State) (from : Step) (r : Result Step Refused) (next : State) : Type 0 where
  pub says : moves s from r next

-- … to what gives the record of the whole text
abbrev pub concludes : {A : Type 0} → State → Step → Result A Refused → (A → Record) → Type 0
concludes s from (Ok v) whole = reply_on s from ≡ acceptance (whole v)
concludes s from (Err e) whole = Ends s from e

pub record Concludes {A : Type 0} (s : State) (from : Step) (r : Result A Refused) (whole : A → Record) : Type 0 where
  pub says : concludes s from r whole

-- … to the reply
pub record Replies (s : State) (from : Step) (r : Reply) : Type 0 where
  pub says : reply_on s from ≡ r

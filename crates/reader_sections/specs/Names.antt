-- The reading of a name, an area's or a mountain's: in any states that take the words of a name.
-- Internal contract.
use Rattle.std.specs.Prelude.{Bool, false, Result, Ok, Err, List, ◌≡◌, ℕ, ◌+◌, leb, length, take}
use Rattle.lists.specs.Choice.{pick, both}
use Rattle.names.specs.Names.{in_name}
use Rattle.message.specs.declared.Name.{Name}
use Rattle.grammar.specs.Numbers.{number_of}
use Rattle.grammar.specs.Records.{name_of}
use Rattle.grammar.specs.States.Move.{goes}
use Rattle.grammar.specs.States.{State, Move}
use Rattle.grammar.specs.Steps.{goes_if, grown, begun, gone_on, step}
use Rattle.reader_sections.specs.declared.parts.Part.{Part}
use Rattle.reader_sections.specs.declared.step.Refused.{Refused}
use Rattle.reader_sections.specs.declared.step.Step.{Step}
use Rattle.reader_sections.specs.Parts.{part_number}
use Rattle.reader_sections.specs.Steps.{next_word, word_on, Leads}

-- whether it is one of a name, with room for it behind so many bytes
pub record BelongsSays (mountain : Bool) (limit used : ℕ) (from : Step) (found : Bool) : Type 0 where
  pub tells : found ≡ both (in_name mountain (word_on from)) (leb (used + length (word_on from)) limit)

-- a name with one more word
pub record GrownSays (before : Name) (w : List ℕ) (name : Name) : Type 0 where
  pub says : (x : List ℕ) → before ≡ name_of x → name ≡ name_of (grown x w)
  pub longer : name.count ≡ before.count + 1 + length w

-- the states of a name: one takes its first word, the others one word more after a text
pub record TakesName (mountain : Bool) (limit refusal : ℕ) (first : State) (more : List ℕ → State) (closed : List ℕ → List ℕ → Move) : Type 0 where
  pub begins : (w : List ℕ) → step first w ≡ goes_if (begun mountain limit w) (more w)
  pub goes_on : (x w : List ℕ) → step (more x) w ≡ pick (gone_on mountain limit x w) (goes (more (grown x w))) (closed x w)
  pub first-number : number_of first ≡ refusal

abbrev pub text_of : Name → List ℕ
text_of n = take n.count n.bytes

-- a whole name before a step: the next word is none of it
pub record Named (mountain : Bool) (limit : ℕ) (name : Name) (to : Step) : Type 0 where
  pub is : name ≡ name_of (text_of name)
  pub stops : gone_on mountain limit (text_of name) (next_word to) ≡ false

abbrev pub named : Bool → ℕ → Result (Name × Step) Refused → Type 0
named mountain limit (Ok v) = Named mountain limit v.0 v.1
named mountain limit (Err e) = Unit

pub record NameSays (mountain : Bool) (limit : ℕ) (judged : Part) (from : Step) (r : Result (Name × Step) Refused) : Type 0 where
  pub says : (first : State) (more : List ℕ → State) (closed : List ℕ → List ℕ → Move) → TakesName mountain limit (part_number judged) first more closed
      → Leads first from r (λ n. more (text_of n))
  pub whole : named mountain limit r

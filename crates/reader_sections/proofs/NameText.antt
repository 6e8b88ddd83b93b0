-- Names: the states that take a name word by word, the word after it, and the reading of its words one after another.
use mathlib.Core.Bool.{Bool, true, false}
use mathlib.Core.List.{List, ◌∷◌}
use mathlib.Core.Path.{◌≡◌, refl, ap, sym, ◌∙◌}
use Prim.Native.Nat.{ℕ, ◌+◌, ◌-◌, ◌≤◌, ◌<◌}
use native.Mathlib.Nat.{zero-add}
use native.Mathlib.Omega.{arith}
use lib.Dec.{leb}
use lib.ListN.{length, length-append}
use lib.Seq.{take-append_seam}
use borrow.Author.Tests.{leb-true}
use Rattle.std.specs.Prelude.{Ok, Err}
use Rattle.lists.specs.Choice.{pick, both}
use Rattle.lists.specs.Lists.{all_of}
use Rattle.lists.proofs.Choice.{by, both_left, both_right, pick-false}
use Rattle.names.specs.Names.{closing_of, good_closing, name_word, in_name}
use Rattle.message.specs.declared.FirstLine.{FirstLine}
use Rattle.message.specs.declared.Heading.{Heading}
use Rattle.message.specs.declared.Name.{Name}
use Rattle.message.specs.Limits.{name_bytes, mountain_limit}
use Rattle.grammar.specs.Placing.{is}
use Rattle.grammar.specs.Records.{name_of}
use Rattle.grammar.specs.States.State.{at_name, at_more_name, at_form, at_mountain, at_more_mountain, at_position}
use Rattle.grammar.specs.States.{ToArea, State, Move}
use Rattle.grammar.specs.Steps.{goes_if, grown, begun, gone_on, step}
use Rattle.grammar.proofs.NameText.{open-area, open-mountain}
use Rattle.reader_sections.specs.declared.parts.Part.{Part}
use Rattle.reader_sections.specs.declared.step.Refused.{Refused}
use Rattle.reader_sections.specs.declared.step.Step.{Step}
use Rattle.reader_sections.specs.Names.{BelongsSays, GrownSays, TakesName, text_of, Named, NameSays}
use Rattle.reader_sections.specs.Steps.{next_word, word_on, Next, Refuses, Reaches}
use Rattle.reader_sections.proofs.Leads.{here, then}
use Rattle.reader_sections.proofs.OneWord.{standing, reaches, ends}
use Rattle.reader_sections.proofs.RunsAt.{OnlyWords, part-test, part-passes, in-text}

-- The states of a name.

-- two tests of which the second rules out the first may be made in either order
either_order : {A : Type 0} (a b : Bool) (p q d : A) → (b ≡ true → a ≡ false) → pick a p (pick b q d) ≡ pick b q (pick a p d)
either_order a b p q d apart = by b (λ e. rw (e, apart e)) (λ e. rw e)

gone-in : (m : Bool) (limit : ℕ) (x w : List ℕ) → gone_on m limit x w ≡ true → in_name m w ≡ true
gone-in m limit x w e = both_left (in_name m w) (leb (length (grown x w)) limit) e

-- the word after the name of an area, and of a mountain
abbrev pub area_closed : Heading → FirstLine → ℕ → Name → List ℕ → Move
area_closed h l i n w =
    goes_if (good_closing (closing_of w)) (at_form (record { heading = h; line = l; area = record { indicator = i; name = n; closing = closing_of w } }))

abbrev pub mountain_closed : ToArea → Name → List ℕ → Move
mountain_closed o n w = goes_if (is "PSN" w) (at_position o n)

pub area-takes : (h : Heading) (l : FirstLine) (i : ℕ) → TakesName false name_bytes 6 (at_name h l i) (at_more_name h l i) (λ x w. area_closed h l i (name_of x) w)
unfolding step
area-takes h l i = record {
  begins = λ w. refl;
  goes_on = λ x w. either_order _ _ _ _ _ (λ e. open-area w (gone-in false name_bytes x w e));
  first-number = refl;
}

pub mountain-takes : (o : ToArea) → TakesName true mountain_limit 7 (at_mountain o) (at_more_mountain o) (λ x w. mountain_closed o (name_of x) w)
unfolding step
mountain-takes o = record {
  begins = λ w. refl;
  goes_on = λ x w. either_order _ _ _ _ _ (λ e. open-mountain w (gone-in true mountain_limit x w e));
  first-number = refl;
}

-- after a whole name the next word closes it, or is refused
pub name-closed : {m : Bool} {limit refusal : ℕ} {name : Name} {to : Step} {first : State} {more : List ℕ → State} (closed : Name → List ℕ → Move)
    → Named m limit name to → TakesName m limit refusal first more (λ x w. closed (name_of x) w) → step (more (text_of name)) (next_word to) ≡ closed name (next_word to)
name-closed {to = to} closed n k = k.goes_on _ _ ∙ (pick-false _ _ n.stops ∙ ap (λ (x : Name). closed x (next_word to)) (sym n.is))

-- neither the empty word nor the `=` is a word of a name
begun-only : (m : Bool) (limit : ℕ) → OnlyWords (begun m limit)
unfolding name_word all_of
begun-only m limit = record { empty = refl; sign = refl }

gone-only : (m : Bool) (limit : ℕ) (x : List ℕ) → OnlyWords (gone_on m limit x)
unfolding name_word all_of
gone-only m limit x = record { empty = refl; sign = refl }

text-is : {name : Name} {w : List ℕ} → name ≡ name_of w → text_of name ≡ w
text-is {w = w} e = ap text_of e ∙ take-append_seam w _

is-text : {name : Name} (w : List ℕ) → name ≡ name_of w → name ≡ name_of (text_of name)
is-text w e = e ∙ ap name_of {x = w} (sym (text-is e))

-- there is room for a word that belongs
pub with-room : {m found : Bool} {limit used : ℕ} {from : Step} → BelongsSays m limit used from found → found ≡ true → used + length (word_on from) ≤ limit
with-room {m} {from = from} b y = leb-true _ _ (both_right (in_name m (word_on from)) _ (sym b.tells ∙ y))

-- The first word.
module _ {m begins : Bool} {limit : ℕ} {from : Step} (b : BelongsSays m limit 0 from begins) where
  -- the code's test is the grammar's
  begun-is : begins ≡ begun m limit (next_word from)
  begun-is =
      b.tells
      ∙ (ap (λ (k : ℕ). both (in_name m (word_on from)) (leb k limit)) (zero-add (length (word_on from))) ∙ part-test (standing from) from.stands (begun-only m limit))

  pub unnamed : {judged : Part} {e : Refused} → begins ≡ false → Refuses judged from e → NameSays m limit judged from (Err e)
  unnamed n r = record { says = λ first more closed k. record { says = ends r k.first-number (k.begins _ ∙ rw (sym begun-is ∙ n)) }; whole = tt }

  module _ {mid : Step} {before : Name} {w : List ℕ} (y : begins ≡ true) (e : w ≡ word_on from) (f : before ≡ name_of w) (n : Next from mid) where
    begun-reaches : {refusal : ℕ} {first : State} {more : List ℕ → State} {closed : List ℕ → List ℕ → Move} → TakesName m limit refusal first more closed
        → Reaches first from (more (text_of before)) mid
    begun-reaches {more = more} k =
        let yes : begun m limit (next_word from) ≡ true = sym begun-is ∙ y in
        let word : word_on from ≡ next_word from =
        part-passes (standing from) from.stands (begun-only m limit) (part-test (standing from) from.stands (begun-only m limit) ∙ yes) in
        reaches n (in-text (standing from) from.stands (begun-only m limit) yes) (k.begins _ ∙ rw (yes, text-is f, e, word))

-- its words behind the first, from the step after that on
pub record NamedOn (m : Bool) (limit : ℕ) (from : Step) (before : Name) (to : Step) (name : Name) : Type 0 where
  pub says : {refusal : ℕ} {first : State} {more : List ℕ → State} {closed : List ℕ → List ℕ → Move} → TakesName m limit refusal first more closed
      → Reaches (more (text_of before)) from (more (text_of name)) to
  pub is : name ≡ name_of (text_of name)
  pub long : name.count ≤ limit

pub name-begun : {m begins : Bool} {limit : ℕ} {from mid : Step} {before : Name} {w : List ℕ} → BelongsSays m limit 0 from begins → begins ≡ true → w ≡ word_on from
    → before ≡ name_of w → NamedOn m limit mid before mid before
name-begun {w = w} b y e f = record {
  says = λ k. here;
  is = is-text w f;
  long = let room = with-room b y in rw (f, e) (omega arith);
}

module _ {m found : Bool} {limit : ℕ} {from : Step} {before : Name} {to : Step} {name : Name} (n : NamedOn m limit from before to name)
    (b : BelongsSays m limit (name.count + 1) to found) where
  -- the code's test is the grammar's
  gone-on : found ≡ gone_on m limit (text_of name) (next_word to)
  gone-on =
      let many : name.count ≡ length (text_of name) = ap (λ (k : Name). k.count) n.is in
      let grows : name.count + 1 + length (word_on to) ≡ length (grown (text_of name) (word_on to)) = omega (arith, length-append (text_of name) (32 ∷ word_on to)) in
      b.tells ∙ (ap (λ (k : ℕ). both (in_name m (word_on to)) (leb k limit)) grows ∙ part-test (standing to) to.stands (gone-only m limit (text_of name)))

  -- one word more
  module _ {name' : Name} {v : List ℕ} (y : found ≡ true) (e : v ≡ word_on to) (g : GrownSays name v name') where
    pub less-room : limit - name'.count < limit - name.count
    less-room = let room = with-room b y in omega (arith, room, g.longer, ap length e)

    pub name-grown : {to' : Step} → Next to to' → NamedOn m limit from before to' name'
    name-grown p =
        let x : List ℕ = text_of name in
        let w : List ℕ = next_word to in
        let yes : gone_on m limit x w ≡ true = sym gone-on ∙ y in
        let word : word_on to ≡ w = part-passes (standing to) to.stands (gone-only m limit x) (part-test (standing to) to.stands (gone-only m limit x) ∙ yes) in
        let is : name' ≡ name_of (grown x w) = g.says x n.is ∙ ap (λ (u : List ℕ). name_of (grown x u)) (e ∙ word) in
        let text : text_of name' ≡ grown x w = text-is is in
        record {
          says = λ k. then (n.says k) (reaches p (in-text (standing to) to.stands (gone-only m limit x) yes) (k.goes_on x w ∙ rw (yes, text)));
          is = is-text (grown x w) is;
          long = let room = with-room b y in omega (arith, room, g.longer, ap length e);
        }

-- the whole name
pub name-read : {m begins found : Bool} {limit : ℕ} {judged : Part} {from mid to : Step} {before name : Name} {w : List ℕ} → BelongsSays m limit 0 from begins → begins ≡ true
    → w ≡ word_on from → before ≡ name_of w → Next from mid → NamedOn m limit mid before to name → BelongsSays m limit (name.count + 1) to found → found ≡ false
    → NameSays m limit judged from (Ok (name, to))
name-read b y e f p n more stop = record {
  says = λ first next closed k. record { says = then (begun-reaches b y e f p k) (n.says k) };
  whole = record { is = n.is; stops = sym (gone-on n more) ∙ stop };
}

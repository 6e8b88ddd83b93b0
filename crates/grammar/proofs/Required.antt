-- "it is judged as the next required part": whatever words lead from a state to the end of a message, one of them belongs to the part of
-- the state's number.
use mathlib.Core.Bool.{Bool, true, false}
use mathlib.Core.List.{List, [], ◌∷◌, ◌++◌, Memᴰ}
use mathlib.Core.Logic.{⊎_elim}
use mathlib.Core.Path.{◌≡◌, refl, ap, sym, subst, ◌∙◌}
use Prim.Native.Nat.{ℕ}
use lib.Dec.{lit<}
use Rattle.words.specs.Words.{equals_sign}
use Rattle.coordinates.specs.Coordinates.{east_west, coordinate_of, good_coordinate}
use Rattle.groups.specs.Groups.{time_of, good_time}
use Rattle.message.specs.Records.{good}
use Rattle.message.specs.Words.{test_texts}
use Rattle.message.specs.declared.Extent.{Extent}
use Rattle.message.specs.declared.Record.{Record}
use Rattle.message.specs.declared.Side.{Side}
use Rattle.grammar.specs.Judged.{message_words, JudgedAs}
use Rattle.grammar.specs.Numbers.{number_of}
use Rattle.grammar.specs.Parts.{Marked, marked, message_parts}
use Rattle.grammar.specs.Placing.{is, on_if, there_if, side_word, place_step}
use Rattle.grammar.specs.Runs.{walk}
use Rattle.grammar.specs.States.{ToPhenomenon, ToObservation, Site, Placing, State, Move}
use Rattle.grammar.specs.States.Site.{in_report, in_forecast}
use Rattle.grammar.specs.States.Placing.{at_and, at_second_bound}
use Rattle.grammar.specs.States.State.{at_test, at_test_text, at_observation, at_observed, at_observed_time, at_place, at_level}
use Rattle.grammar.specs.States.Move.{goes, done, dead}
use Rattle.grammar.specs.Steps.{goes_if, settled, step}
use Rattle.grammar.proofs.FirstDead.{Rest, rest_of, reached, comes-going, numbers-one}
use Rattle.grammar.proofs.Invariant.{Ok, mark}
use Rattle.grammar.proofs.Marks.{unmarked, marks_of, start}
use Rattle.grammar.proofs.Moves.{Fine, Next}
use Rattle.grammar.proofs.Moves.Fine.{leads, ends, dies}
use Rattle.grammar.proofs.NumberLaws.{Optional, part-taken}
use Rattle.grammar.proofs.NumberLaws.Optional.{longer-test, freezing-rain, timed, second-bound}
use Rattle.grammar.proofs.RunLaws.{walk-dead, dead-done, done-not-goes}

-- a word of that part is among these
abbrev pub Has : ℕ → List Marked → Type 0
Has part ms = (word : List ℕ) × Memᴰ (marked part word) ms

has-later : {part : ℕ} (m : Marked) {ms : List Marked} → Has part ms → Has part (m ∷ ms)
has-later m h = (h.0, Memᴰ.tail h.1)

-- every way from this state to the end of a message has a word of that part, …
record Requires (s : State) (part : ℕ) : Type 0 where
  has : (ws : List (List ℕ)) (r : Record) → walk (goes s) ws ≡ done r → Has part (marks_of (goes s) ws)

-- … where each word is of that part itself, or leads to a state that requires it, or is refused
data Meets (s : State) (part : ℕ) (w : List ℕ) : Move → Type 0 where
  now : {m : Move} → mark s w ≡ part → Meets s part w m
  later : {next : State} → Requires next part → Meets s part w (goes next)
  never : Meets s part w dead

met : (s : State) (part : ℕ) (w : List ℕ) (ws : List (List ℕ)) (r : Record) (m : Move) → Meets s part w m → walk m ws ≡ done r → Has part (marked (mark s w) w ∷ marks_of m ws)
met s part w ws r m (now k) e = (w, Memᴰ.head (ap (λ (n : ℕ). marked n w) (sym k)))
met s part w ws r (goes next) (later o) e = has-later (marked (mark s w) w) (o.has ws r e)
met s part w ws r dead never e = absurd (dead-done r (sym e ∙ walk-dead ws))

requires : (s : State) (part : ℕ) → ((w : List ℕ) → Meets s part w (step s w)) → Requires s part
unfolding walk marks_of
requires s part meets = record { has = has }
  where
    has : (ws : List (List ℕ)) (r : Record) → walk (goes s) ws ≡ done r → Has part (marks_of (goes s) ws)
    has [] r e = absurd (done-not-goes e)
    has (w ∷ ws) r e = met s part w ws r (step s w) (meets w) e

requires-now : (s : State) (part : ℕ) → ((w : List ℕ) → mark s w ≡ part) → Requires s part
requires-now s part k = requires s part (λ w. now (k w))

module _ {s : State} {part : ℕ} {w : List ℕ} where
  meets-if : {next : State} (t : Bool) → Requires next part → Meets s part w (goes_if t next)
  meets-if true o = later o
  meets-if false o = never

  meets_on : (site : Site) {p : Placing} (t : Bool) → Requires (at_place site p) part → Meets s part w (settled site w (on_if t p))
  meets_on site true o = later o
  meets_on site false o = never

  meets-level : (o : ToObservation) {e : Extent} (t : Bool) → Requires (at_level (record { before = o; extent = e })) part → Meets s part w (settled (in_report o) w (there_if t e))
  meets-level o true q = later q
  meets-level o false q = never

-- Behind what is optional the required part still comes: the observation after `(FZRA)`, the location after `AT` and a time, the level after
-- `AND` and a longitude bound, …

time-requires : (p : ToPhenomenon) (n : ℕ) → Requires (at_observed_time p n) 9
unfolding step
time-requires p n = requires (at_observed_time p n) 9 (λ w. meets-if (good_time (time_of w)) (requires-now _ 9 (λ v. refl)))

bound-requires : (o : ToObservation) (latitude : Side) → Requires (at_place (in_report o) (at_second_bound latitude)) 10
unfolding step place_step
bound-requires o latitude =
    requires (at_place (in_report o) (at_second_bound latitude)) 10
    (λ side. meets_on (in_report o) (side_word east_west side)
    (requires _ 10
    (λ of. meets_on (in_report o) (is "OF" of)
    (requires _ 10 (λ longitude. meets-level o (good_coordinate east_west (coordinate_of east_west longitude)) (requires-now _ 10 (λ w. refl)))))))

module _ (sound : (s : State) (w : List ℕ) → Ok s → Fine s w (step s w)) where
  -- … and the `=` after everything
  end-met : (s : State) (w : List ℕ) (ws : List (List ℕ)) (r : Record) (m : Move) → Fine s w m → walk m ws ≡ done r
      → ((next : State) → Ok next → walk (goes next) ws ≡ done r → Has 12 (marks_of (goes next) ws)) → Has 12 (marked (mark s w) w ∷ marks_of m ws)
  end-met s w ws r (goes next) (leads f) e rest = has-later (marked (mark s w) w) (rest next f.ok e)
  end-met s w ws r (done q) (ends f) e rest = (equals_sign, Memᴰ.head (sym f.last))
  end-met s w ws r dead dies e rest = absurd (dead-done r (sym e ∙ walk-dead ws))

  end-has : (s : State) → Ok s → (ws : List (List ℕ)) (r : Record) → walk (goes s) ws ≡ done r → Has 12 (marks_of (goes s) ws)
  unfolding walk marks_of
  end-has s ok [] r e = absurd (done-not-goes e)
  end-has s ok (w ∷ ws) r e = end-met s w ws r (step s w) (sound s w ok) e (λ next k. end-has next k ws r)

  end-requires : (s : State) → Ok s → Requires s 12
  end-requires s ok = record { has = end-has s ok }

  optional-meets : {s : State} {w : List ℕ} → Ok s → Optional s w → Meets s (number_of s) w (step s w)
  unfolding step place_step test_texts
  optional-meets {s = at_test o} ok (longer-test e) = rw e (later (end-requires (at_test_text o 2 2) (ok, refl, lit< tt)))
  optional-meets ok (freezing-rain e) = rw e (later (requires-now (at_observation _) 8 (λ v. refl)))
  optional-meets {s = at_observed p n} ok (timed e) = rw e (later (time-requires p n))
  optional-meets {s = at_place (in_report o) (at_and latitude)} ok (second-bound e) = rw e (later (bound-requires o latitude))
  optional-meets {s = at_place (in_forecast l i) (at_and latitude)} ok (second-bound e) =
      rw e (later (end-requires (at_place (in_forecast l i) (at_second_bound latitude)) ok))

  -- every state requires the part of its number
  number-required : (s : State) → Ok s → Requires s (number_of s)
  number-required s ok = requires s (number_of s) (λ w. ⊎_elim (λ (k : mark s w ≡ number_of s). now k) (optional-meets ok) (part-taken s w))

  module _
      (next : (s : State) → Ok s → Next s)
      (forth : (r : Record) → good r ≡ true → walk start (message_words r) ≡ done r)
    where
      -- every accepted message that begins with these words still has a word of the part that the next word is judged as
      pub judged-required : (ws : List (List ℕ)) (part : ℕ) → JudgedAs ws part
          → (r : Record) → good r ≡ true → (seen left : List Marked) → seen ++ left ≡ message_parts r → unmarked seen ≡ ws → Has part left
      judged-required ws part j r g seen left parts words = from (walk start ws) refl (rest_of sound next forth ws r g seen left parts words)
        where
          from : (m : Move) → walk start ws ≡ m → Rest m r left → Has part left
          from (goes s) e rest =
              let number : part ≡ number_of s = numbers-one sound next forth ws part s e j in
              let has : Has part (marks_of (goes s) (unmarked left)) = rw number ((number-required s (reached sound next forth ws s e)).has (unmarked left) r rest.walked) in
              subst (Has part) (sym rest.marks) has
          from (done q) e rest = absurd (comes-going sound next forth ws part j.comes q e)
          from dead e rest = absurd (dead-done r (sym rest.walked ∙ walk-dead (unmarked left)))

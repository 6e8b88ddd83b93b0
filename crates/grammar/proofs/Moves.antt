-- What each word owes in each state, and the laws by which a section's states are shown to pay it.
use mathlib.Core.Bool.{Bool, true, false}
use mathlib.Core.List.{List, [], ◌∷◌, ◌++◌}
use mathlib.Core.Path.{◌≡◌, refl, ap, sym, ◌∙◌}
use Prim.Native.Nat.{ℕ}
use Rattle.lists.specs.Choice.{pick}
use Rattle.lists.specs.Lists.{same}
use Rattle.lists.proofs.Lists.{same-is}
use Rattle.words.specs.Words.{equals_sign}
use Rattle.message.specs.Records.{good}
use Rattle.message.specs.declared.Record.{Record}
use Rattle.grammar.specs.Numbers.{number_of}
use Rattle.grammar.specs.Parts.{Marked, marked}
use Rattle.grammar.specs.Placing.{is}
use Rattle.grammar.specs.Runs.{advance, walk}
use Rattle.grammar.specs.States.{State, Move}
use Rattle.grammar.specs.States.Move.{goes, done, dead}
use Rattle.grammar.specs.States.State.{at_end}
use Rattle.grammar.specs.Steps.{goes_if, step_end, step}
use Rattle.grammar.proofs.Invariant.{Ok, mark}
use Rattle.grammar.proofs.Told.{told, told_record}

-- Sound: where a word leads on, what is read is good, and the word was told with its part; where it is the `=`, the record is good and
-- all its words were told.

pub record Sound (s : State) (w : List ℕ) (next : State) : Type 0 where
  pub ok : Ok next
  pub tells : told next ≡ marked (mark s w) w ∷ told s

pub record Ended (s : State) (w : List ℕ) (r : Record) : Type 0 where
  pub is_good : good r ≡ true
  pub tells : told_record r ≡ told s
  pub last : marked (mark s w) w ≡ marked 12 equals_sign

pub data Fine (s : State) (w : List ℕ) : Move → Type 0 where
  leads : {next : State} → Sound s w next → Fine s w (goes next)
  ends : {r : Record} → Ended s w r → Fine s w (done r)
  dies : Fine s w dead

pub fine-leads : {s next : State} {w : List ℕ} → Fine s w (goes next) → Sound s w next
fine-leads (leads f) = f

pub fine-ends : {s : State} {w : List ℕ} {r : Record} → Fine s w (done r) → Ended s w r
fine-ends (ends f) = f

pub chosen : {s : State} {w : List ℕ} {a b : Move} (t : Bool) → (t ≡ true → Fine s w a) → (t ≡ false → Fine s w b) → Fine s w (pick t a b)
chosen true yes' no' = yes' refl
chosen false yes' no' = no' refl

pub goes-if : {s next : State} {w : List ℕ} (t : Bool) → (t ≡ true → Sound s w next) → Fine s w (goes_if t next)
goes-if t f = chosen t (λ e. leads (f e)) (λ e. dies)

-- a word judged as in another state that was told the same
pub fine-as : (s s' : State) {w : List ℕ} {m : Move} → told s' ≡ told s → mark s' w ≡ mark s w → Fine s' w m → Fine s w m
fine-as s s' {w} t k (leads {next} f) =
    leads {next = next} (record { ok = f.ok; tells = f.tells ∙ (ap (λ (n : ℕ). marked n w ∷ told s') k ∙ ap (λ (ms : List Marked). marked (mark s w) w ∷ ms) t) })
fine-as s s' {w} t k (ends f) =
    ends (record { is_good = f.is_good; tells = f.tells ∙ t; last = ap (λ (n : ℕ). marked n w) (sym k) ∙ f.last })
fine-as s s' t k dies = dies

-- the end of a good record that was told
pub fine_end : (r : Record) (w : List ℕ) → good r ≡ true → Fine (at_end r) w (step_end r w)
unfolding told
fine_end r w g = chosen (is "=" w) (λ e. ends (record { is_good = g; tells = refl; last = ap (marked 12) (same-is w equals_sign e) })) (λ e. dies)

-- Live: some words lead on to the end of a message, and the first of them belongs to the part that the state requires next.

pub record Next (s : State) : Type 0 where
  pub word : List ℕ
  pub rest : List (List ℕ)
  pub message : Record
  pub ends : walk (step s word) rest ≡ done message
  pub part : mark s word ≡ number_of s

-- a word that leads to a state from which some words lead on
pub next-by : (s : State) (w : List ℕ) (s' : State) → step s w ≡ goes s' → mark s w ≡ number_of s → Next s' → Next s
unfolding walk
next-by s w s' e k n = record { word = w; rest = n.word ∷ n.rest; message = n.message; ends = rw e n.ends; part = k }

pub next-end : (r : Record) → Next (at_end r)
unfolding walk step same
next-end r = record { word = equals_sign; rest = []; message = r; ends = refl; part = refl }

-- Words one by one.

pub walk-append : (m : Move) (vs ws : List (List ℕ)) → walk m (vs ++ ws) ≡ walk (walk m vs) ws
unfolding walk
walk-append m [] ws = refl
walk-append m (v ∷ vs) ws = walk-append (advance m v) vs ws

pub walk_step : (s s' : State) (w : List ℕ) (ws : List (List ℕ)) → step s w ≡ goes s' → walk (goes s) (w ∷ ws) ≡ walk (goes s') ws
unfolding walk
walk_step s s' w ws e = rw e

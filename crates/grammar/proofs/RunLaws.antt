-- Runs, with places and numbers, and walks, over the words alone: a run accepts a record where the walk ends with it, and over the words of a
-- text it is refused where the walk dies.
use mathlib.Core.Bool.{Bool, true, false}
use mathlib.Core.List.{List, [], ◌∷◌, ◌++◌}
use mathlib.Core.Path.{◌≡◌, refl, ap, sym, ◌∙◌}
use Prim.Native.Nat.{ℕ}
use native.Mathlib.Omega.{arith}
use Rattle.lists.specs.Lists.{all_of}
use Rattle.lists.proofs.Choice.{clash, both_left, both_right}
use Rattle.words.specs.Bytes.{allowed}
use Rattle.words.specs.Words.{Word, equals_sign, plain_word, bytes_of}
use Rattle.message.specs.declared.Record.{Record}
use Rattle.grammar.specs.Numbers.{number_of}
use Rattle.grammar.specs.Parts.{Marked}
use Rattle.grammar.specs.Runs.{walk, Ran, finished, run}
use Rattle.grammar.specs.Runs.Ran.{accepted, refused, unfinished}
use Rattle.grammar.specs.States.{State, Move}
use Rattle.grammar.specs.States.Move.{goes, done, dead}
use Rattle.grammar.specs.Steps.{step}
use Rattle.grammar.proofs.Invariant.{Ok}
use Rattle.grammar.proofs.Moves.{Fine, fine-leads, fine-ends, walk_step}
use Rattle.grammar.proofs.NumberLaws.{Stops, end-stops}

pub data Alive : Move → Type 0 where
  going : {s : State} → Alive (goes s)
  over : {r : Record} → Alive (done r)

pub dead_goes : (s : State) → goes s ≡ dead → ⊥
dead_goes s e = let z : ◌≡◌ {A = ℕ} 0 1 = cc in omega arith

pub dead-done : (r : Record) → done r ≡ dead → ⊥
dead-done r e = let z : ◌≡◌ {A = ℕ} 0 1 = cc in omega arith

pub dead_not : (m : Move) → m ≡ dead → Alive m → ⊥
dead_not (goes s) e a = dead_goes s e
dead_not (done r) e a = dead-done r e
dead_not dead e a = elim a [ ]

pub done-same : {q r : Record} → done q ≡ done r → q ≡ r
done-same e = cc

pub done-not-goes : {s : State} {r : Record} → goes s ≡ done r → ⊥
done-not-goes e = let z : ◌≡◌ {A = ℕ} 0 1 = cc in omega arith

-- where a run breaks off: the walk over the words before is in a state, and the next word kills it
pub record Breaks (s : State) (ws : List Word) (number place : ℕ) : Type 0 where
  pub before : List Word
  pub word : Word
  pub rest : List Word
  pub split : ws ≡ before ++ (word ∷ rest)
  pub there : word.place ≡ place
  pub state : State
  pub walked : walk (goes s) (bytes_of before) ≡ goes state
  pub dies : step state word.bytes ≡ dead
  pub numbered : number ≡ number_of state

pub walk-dead : (ws : List (List ℕ)) → walk dead ws ≡ dead
unfolding walk
walk-dead [] = refl
walk-dead (w ∷ ws) = walk-dead ws

pub refused-number : {n m p q : ℕ} → refused n p ≡ refused m q → n ≡ m
refused-number e = cc

pub accepted-not : {r : Record} {n p : ℕ} → accepted r ≡ refused n p → ⊥
accepted-not e = let z : ◌≡◌ {A = ℕ} 0 1 = cc in omega arith

pub unfinished-not : {n p : ℕ} → unfinished ≡ refused n p → ⊥
unfinished-not e = let z : ◌≡◌ {A = ℕ} 0 1 = cc in omega arith

run_step : (s next : State) (v : Word) (vs : List Word) → step s v.bytes ≡ goes next → run s (v ∷ vs) ≡ run next vs
unfolding run
run_step s next v vs k = rw k

run-over : (s : State) (r : Record) (v : Word) (vs : List Word) → step s v.bytes ≡ done r → run s (v ∷ vs) ≡ finished r (number_of s) v.place vs
unfolding run
run-over s r v vs k = rw k

run-dead : (s : State) (v : Word) (vs : List Word) → step s v.bytes ≡ dead → run s (v ∷ vs) ≡ refused (number_of s) v.place
unfolding run
run-dead s v vs k = rw k

walk-move : (s : State) (m : Move) (w : List ℕ) (ws : List (List ℕ)) → step s w ≡ m → walk (goes s) (w ∷ ws) ≡ walk m ws
unfolding walk
walk-move s m w ws e = rw e

-- What comes of a run over plain words and the `=`: it accepts, or breaks off.

pub data Settled (s : State) (ws : List Word) : Ran → Type 0 where
  accepts : {r : Record} → Settled s ws (accepted r)
  breaks : {n p : ℕ} → Breaks s ws n p → Settled s ws (refused n p)

breaks-here : (s : State) (w : Word) (ws : List Word) → step s w.bytes ≡ dead → Settled s (w ∷ ws) (run s (w ∷ ws))
unfolding walk
breaks-here s w ws k =
    rw (run-dead s w ws k)
    (breaks (record { before = []; word = w; rest = ws; split = refl; there = refl; state = s; walked = refl; dies = k; numbered = refl }))

breaks-later : (s next : State) (w : Word) (ws : List Word) {x : Ran} → step s w.bytes ≡ goes next → Settled next ws x → Settled s (w ∷ ws) x
breaks-later s next w ws k accepts = accepts
breaks-later s next w ws k (breaks b) = breaks (record {
  before = w ∷ b.before;
  word = b.word;
  rest = b.rest;
  split = ap (λ (r : List Word). w ∷ r) b.split;
  there = b.there;
  state = b.state;
  walked = walk_step s next w.bytes (bytes_of b.before) k ∙ b.walked;
  dies = b.dies;
  numbered = b.numbered;
})

-- no plain word is the `=`
plain_other : (w : List ℕ) → w ≡ equals_sign → plain_word w ≡ true → ⊥
unfolding all_of allowed
plain_other w e s = clash false (rw e at s) refl

abbrev all_plain : List Word → Bool
all_plain ws = all_of (λ (w : Word). plain_word w.bytes) ws

abbrev with_end : List Word → ℕ → List Word
with_end front q = front ++ (record { place = q; bytes = equals_sign } ∷ [])

module _ (sound : (s : State) (w : List ℕ) → Ok s → Fine s w (step s w)) where
  end-settles : (s : State) (q : ℕ) (m : Move) → step s equals_sign ≡ m → Stops m → Settled s (with_end [] q) (run s (with_end [] q))
  end-settles s q (goes next) e x = absurd x
  end-settles s q (done r) e x = rw (run-over s r (record { place = q; bytes = equals_sign }) [] e) accepts
  end-settles s q dead e x = breaks-here s (record { place = q; bytes = equals_sign }) [] e

  word-settles : (s : State) (w : Word) (ws : List Word) (m : Move) → step s w.bytes ≡ m → plain_word w.bytes ≡ true → Fine s w.bytes m
      → ((next : State) → Ok next → Settled next ws (run next ws)) → Settled s (w ∷ ws) (run s (w ∷ ws))
  word-settles s w ws (goes next) e b f later = rw (run_step s next w ws e) (breaks-later s next w ws e (later next (fine-leads f).ok))
  word-settles s w ws (done r) e b f later = absurd (plain_other w.bytes (ap (λ (m : Marked). m.word) (fine-ends f).last) b)
  word-settles s w ws dead e b f later = breaks-here s w ws e

  pub words-settle : (front : List Word) (q : ℕ) → all_plain front ≡ true → (s : State) → Ok s → Settled s (with_end front q) (run s (with_end front q))
  unfolding all_of
  words-settle [] q b s o = end-settles s q (step s equals_sign) refl (end-stops s o)
  words-settle (w ∷ ws) q b s o =
      word-settles s w (with_end ws q) (step s w.bytes) refl (both_left (plain_word w.bytes) (all_plain ws) b) (sound s w.bytes o)
      (λ next k. words-settle ws q (both_right (plain_word w.bytes) (all_plain ws) b) next k)

-- The converse: where the walk is in a state that the next word kills, the run is refused there.

goes_same : {s t : State} → goes s ≡ goes t → s ≡ t
goes_same e = cc

over-stays : (r : Record) (ws : List (List ℕ)) (s : State) → walk (done r) ws ≡ goes s → ⊥
unfolding walk
over-stays r [] s e = done-not-goes (sym e)
over-stays r (w ∷ ws) s e = dead_goes s (sym e ∙ walk-dead ws)

pub breaks-run : (s last : State) (before : List Word) (w : Word) (rest : List Word) → walk (goes s) (bytes_of before) ≡ goes last → step last w.bytes ≡ dead
    → run s (before ++ (w ∷ rest)) ≡ refused (number_of last) w.place
unfolding walk
breaks-run s last [] w rest e d = let here : s ≡ last = goes_same e in rw here (run-dead last w rest d)
breaks-run s last (v ∷ vs) w rest e d = go (step s v.bytes) refl (λ next k. breaks-run next last vs w rest k d)
  where
    go : (m : Move) → step s v.bytes ≡ m
        → ((next : State) → walk (goes next) (bytes_of vs) ≡ goes last → run next (vs ++ (w ∷ rest)) ≡ refused (number_of last) w.place)
        → run s (v ∷ (vs ++ (w ∷ rest))) ≡ refused (number_of last) w.place
    go (goes next) k later = run_step s next v (vs ++ (w ∷ rest)) k ∙ later next (sym (walk-move s (goes next) v.bytes (bytes_of vs) k) ∙ e)
    go (done r) k later = absurd (over-stays r (bytes_of vs) last (sym (walk-move s (done r) v.bytes (bytes_of vs) k) ∙ e))
    go dead k later = absurd (dead_goes last (sym e ∙ (walk-move s dead v.bytes (bytes_of vs) k ∙ walk-dead (bytes_of vs))))

-- a run accepts a record exactly where the walk over its words ends with that record
accepted-same : {q r : Record} → accepted q ≡ accepted r → q ≡ r
accepted-same e = cc

finished-whole : (q r : Record) (n p : ℕ) (ws : List Word) → finished q n p ws ≡ accepted r → walk (done q) (bytes_of ws) ≡ done r
unfolding walk
finished-whole q r n p [] e = ap done (accepted-same e)
finished-whole q r n p (w ∷ ws) e = absurd (accepted-not (sym e))

run-moves : (s : State) (w : Word) (ws : List Word) (r : Record) (m : Move) → step s w.bytes ≡ m
    → ((next : State) → run next ws ≡ accepted r → walk (goes next) (bytes_of ws) ≡ done r)
    → run s (w ∷ ws) ≡ accepted r → walk (goes s) (bytes_of (w ∷ ws)) ≡ done r
run-moves s w ws r (goes next) k later e =
    walk-move s (goes next) w.bytes (bytes_of ws) k ∙ later next (sym (run_step s next w ws k) ∙ e)
run-moves s w ws r (done q) k later e =
    walk-move s (done q) w.bytes (bytes_of ws) k ∙ finished-whole q r (number_of s) w.place ws (sym (run-over s q w ws k) ∙ e)
run-moves s w ws r dead k later e = absurd (accepted-not (sym e ∙ run-dead s w ws k))

pub run-walks : (s : State) (ws : List Word) (r : Record) → run s ws ≡ accepted r → walk (goes s) (bytes_of ws) ≡ done r
unfolding run
run-walks s [] r e = absurd (let z : ◌≡◌ {A = ℕ} 0 1 = cc in omega arith)
run-walks s (w ∷ ws) r e = run-moves s w ws r (step s w.bytes) refl (λ next. run-walks next ws r) e

whole-finished : (q r : Record) (n p : ℕ) (ws : List Word) → walk (done q) (bytes_of ws) ≡ done r → finished q n p ws ≡ accepted r
unfolding walk
whole-finished q r n p [] e = ap accepted (done-same e)
whole-finished q r n p (w ∷ ws) e = absurd (dead-done r (sym e ∙ walk-dead (bytes_of ws)))

walk-moves : (s : State) (w : Word) (ws : List Word) (r : Record) (m : Move) → step s w.bytes ≡ m
    → ((next : State) → walk (goes next) (bytes_of ws) ≡ done r → run next ws ≡ accepted r)
    → walk (goes s) (bytes_of (w ∷ ws)) ≡ done r → run s (w ∷ ws) ≡ accepted r
walk-moves s w ws r (goes next) k later e =
    run_step s next w ws k ∙ later next (sym (walk-move s (goes next) w.bytes (bytes_of ws) k) ∙ e)
walk-moves s w ws r (done q) k later e =
    run-over s q w ws k ∙ whole-finished q r (number_of s) w.place ws (sym (walk-move s (done q) w.bytes (bytes_of ws) k) ∙ e)
walk-moves s w ws r dead k later e =
    absurd (dead-done r (sym e ∙ (walk-move s dead w.bytes (bytes_of ws) k ∙ walk-dead (bytes_of ws))))

pub walk-runs : (s : State) (ws : List Word) (r : Record) → walk (goes s) (bytes_of ws) ≡ done r → run s ws ≡ accepted r
unfolding walk
walk-runs s [] r e = absurd (done-not-goes e)
walk-runs s (w ∷ ws) r e = walk-moves s w ws r (step s w.bytes) refl (λ next. walk-runs next ws r) e

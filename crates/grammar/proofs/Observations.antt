-- An observation: what each word owes there, how the machine goes on from there, and that it reads what is written.
use mathlib.Core.Bool.{Bool, true, false}
use mathlib.Core.List.{List, [], ◌∷◌, ◌++◌}
use mathlib.Core.Path.{◌≡◌, refl, ap, ◌∙◌}
use Prim.Native.Nat.{ℕ, zero, suc}
use native.Mathlib.Omega.{arith}
use lib.Dec.{eqb}
use borrow.Author.Tests.{eqb-true}
use Rattle.lists.specs.Base.{worth_after}
use Rattle.lists.specs.Choice.{pick, both}
use Rattle.lists.specs.Lists.{all_of, same}
use Rattle.lists.specs.Text.{bytes}
use Rattle.lists.proofs.Choice.{by, clash, both_left, both_right, both_true}
use Rattle.lists.proofs.Lists.{same-is}
use Rattle.words.specs.Bytes.{between, allowed}
use Rattle.words.specs.Words.{plain_word}
use Rattle.words.proofs.Ranges.{between-high}
use Rattle.figures.specs.Figures.{figures_of}
use Rattle.figures.proofs.ReadsLaws.{reads-spelled}
use Rattle.groups.specs.Groups.{good_time, time_of, spell_time}
use Rattle.groups.specs.declared.Time.{Time}
use Rattle.groups.proofs.GroupLaws.{time-made, time-reads, time-plain}
use Rattle.message.specs.Reports.{good_observation, observation_words}
use Rattle.message.specs.declared.Observation.{Observation}
use Rattle.grammar.specs.Parts.{marked}
use Rattle.grammar.specs.Placing.{is}
use Rattle.grammar.specs.Records.{untimed, timed_at}
use Rattle.grammar.specs.Runs.{walk}
use Rattle.grammar.specs.States.{ToPhenomenon, ToObservation, State}
use Rattle.grammar.specs.States.Move.{goes}
use Rattle.grammar.specs.States.Placing.{at_location}
use Rattle.grammar.specs.States.Site.{in_report}
use Rattle.grammar.specs.States.State.{at_observation, at_observed, at_observed_time, at_place}
use Rattle.grammar.specs.Steps.{step_place, step}
use Rattle.grammar.proofs.Invariant.{PhenomenonOk, ObservationOk, Ok}
use Rattle.grammar.proofs.Moves.{Fine, chosen, goes-if, fine-as, Next, next-by, walk_step}
use Rattle.grammar.proofs.Moves.Fine.{leads}
use Rattle.grammar.proofs.Told.{told, told_phenomenon, observed}

-- a phenomenon and its observation
abbrev plainly : ToPhenomenon → ℕ → ToObservation
plainly p n = record { before = p; observation = untimed n }

abbrev timely : ToPhenomenon → ℕ → Time → ToObservation
timely p n t = record { before = p; observation = timed_at n t }

plainly-ok : (p : ToPhenomenon) (n : ℕ) → PhenomenonOk p → between 1 2 n ≡ true → ObservationOk (plainly p n)
unfolding good_observation
plainly-ok p n ok b = record { before = ok; observation = both_true b refl }

timely-ok : (p : ToPhenomenon) (n : ℕ) (t : Time) → PhenomenonOk p → between 1 2 n ≡ true → good_time t ≡ true → ObservationOk (timely p n t)
unfolding good_observation
timely-ok p n t ok b g = record { before = ok; observation = both_true b g }

-- Sound.

pub observation-sound : (p : ToPhenomenon) (w : List ℕ) → Ok (at_observation p) → Fine (at_observation p) w (step (at_observation p) w)
unfolding step told
observation-sound p w ok =
    chosen (is "OBS" w) (λ e. leads (record { ok = (ok, refl); tells = rw (same-is w (bytes "OBS") e) }))
    (λ f. goes-if (is "FCST" w) (λ e. record { ok = (ok, refl); tells = rw (same-is w (bytes "FCST") e) }))

pub observed-time-sound : (p : ToPhenomenon) (n : ℕ) (w : List ℕ) → Ok (at_observed_time p n) → Fine (at_observed_time p n) w (step (at_observed_time p n) w)
unfolding step told observation_words
observed-time-sound p n w ok =
    goes-if (good_time (time_of w))
    (λ g. record {
      ok = (timely-ok p n (time_of w) ok.0 ok.1 g, tt);
      tells = ap (λ (v : List ℕ). marked 8 v ∷ marked 8 (bytes "AT") ∷ marked 8 (observed n) ∷ told_phenomenon p) (reads-spelled time-reads w g);
    })

module _ (located : (o : ToObservation) (w : List ℕ) → ObservationOk o → Fine (at_place (in_report o) at_location) w (step_place (in_report o) at_location w)) where
  pub observed-sound : (p : ToPhenomenon) (n : ℕ) (w : List ℕ) → Ok (at_observed p n) → Fine (at_observed p n) w (step (at_observed p n) w)
  unfolding step told observation_words same
  observed-sound p n w ok =
      chosen (is "AT" w) (λ e. leads (record { ok = ok; tells = rw (same-is w (bytes "AT") e) }))
      (λ f. fine-as (at_observed p n) (at_place (in_report (plainly p n)) at_location) refl (rw f) (located (plainly p n) w (plainly-ok p n ok.0 ok.1)))

-- Live.

module _ (located : (o : ToObservation) → ObservationOk o → (w : List ℕ) × (next : State) × (step (at_place (in_report o) at_location) w ≡ goes next) × (is "AT" w ≡ false) × Next next) where
  pub observed-next : (p : ToPhenomenon) (n : ℕ) → Ok (at_observed p n) → Next (at_observed p n)
  unfolding step
  observed-next p n ok = go (located (plainly p n) (plainly-ok p n ok.0 ok.1))
    where
      go : (w : List ℕ) × (next : State) × (step (at_place (in_report (plainly p n)) at_location) w ≡ goes next) × (is "AT" w ≡ false) × Next next → Next (at_observed p n)
      go (w, next, e, f, more) = next-by (at_observed p n) w next (rw f e) (rw f) more

  -- at midnight
  pub observed-time-next : (p : ToPhenomenon) (n : ℕ) → Ok (at_observed_time p n) → Next (at_observed_time p n)
  unfolding step time_of good_time figures_of all_of worth_after
  observed-time-next p n ok =
      let t : Time = record { hour = 0; minute = 0 } in
      next-by (at_observed_time p n) (bytes "0000Z") (at_place (in_report (timely p n t)) at_location) refl refl (go (located (timely p n t) (timely-ok p n t ok.0 ok.1 refl)))
    where
      go : {o : ToObservation} → (w : List ℕ) × (next : State) × (step (at_place (in_report o) at_location) w ≡ goes next) × (is "AT" w ≡ false) × Next next → Next (at_place (in_report o) at_location)
      go {o} (w, next, e, f, more) = next-by (at_place (in_report o) at_location) w next e refl more

  pub observation-next : (p : ToPhenomenon) → Ok (at_observation p) → Next (at_observation p)
  unfolding step same
  observation-next p ok = next-by (at_observation p) (bytes "OBS") (at_observed p 1) refl refl (observed-next p 1 (ok, refl))

-- Forth: what is written is read.

-- the first word
forth-first : (p : ToPhenomenon) (n : ℕ) → between 1 2 n ≡ true → step (at_observation p) (observed n) ≡ goes (at_observed p n)
unfolding step same
forth-first p zero b = clash false b refl
forth-first p (suc zero) b = refl
forth-first p (suc (suc zero)) b = refl
forth-first p (suc (suc (suc n))) b = absurd (omega (arith, between-high 1 2 (suc (suc (suc n))) b))

-- after it, by whether there is a time
forth-time : (p : ToPhenomenon) (n : ℕ) (timed : Bool) (t : Time) (w : List ℕ) (ws : List (List ℕ))
    → pick timed (good_time t) (both (eqb t.hour 0) (eqb t.minute 0)) ≡ true
    → is "AT" w ≡ false
    → walk (goes (at_observed p n)) (pick timed (bytes "AT" ∷ spell_time t ∷ []) [] ++ (w ∷ ws))
    ≡ walk (goes (at_place (in_report (record { before = p; observation = record { word = n; timed = timed; time = t } })) at_location)) (w ∷ ws)
unfolding walk step same
forth-time p n true t w ws g f =
    walk_step (at_observed_time p n) (at_place (in_report (timely p n t)) at_location) (spell_time t) (w ∷ ws) (rw (time-reads.forth t g, g))
forth-time p n false t w ws g f =
    let none : t ≡ record { hour = 0; minute = 0 } = time-made (eqb-true t.hour 0 (both_left (eqb t.hour 0) _ g)) (eqb-true t.minute 0 (both_right (eqb t.hour 0) _ g)) in
    rw (f, none)

pub forth-observation : (p : ToPhenomenon) (o : Observation) (w : List ℕ) (ws : List (List ℕ)) → good_observation o ≡ true → is "AT" w ≡ false
    → walk (goes (at_observation p)) (observation_words o ++ (w ∷ ws)) ≡ walk (goes (at_place (in_report (record { before = p; observation = o })) at_location)) (w ∷ ws)
unfolding good_observation observation_words
forth-observation p o w ws g f =
    walk_step (at_observation p) (at_observed p o.word) (observed o.word) (pick o.timed (bytes "AT" ∷ spell_time o.time ∷ []) [] ++ (w ∷ ws)) (forth-first p o.word (both_left (between 1 2 o.word) _ g))
    ∙ forth-time p o.word o.timed o.time w ws (both_right (between 1 2 o.word) _ g) f

pub observation-first : (o : Observation) → good_observation o ≡ true → (w : List ℕ) × (rest : List (List ℕ)) × (observation_words o ≡ w ∷ rest) × (is "(FZRA)" w ≡ false)
unfolding observation_words same
observation-first o g =
    (observed o.word, pick o.timed (bytes "AT" ∷ spell_time o.time ∷ []) [], refl, by (eqb o.word 1) (λ e. rw e) (λ e. rw e))

-- Plain: what is written is made of the bytes that a word may have.

pub plain-observation : (o : Observation) → good_observation o ≡ true → all_of plain_word (observation_words o) ≡ true
unfolding observation_words all_of allowed
plain-observation o g =
    let first : plain_word (observed o.word) ≡ true = by (eqb o.word 1) (λ e. rw e) (λ e. rw e) in
    by o.timed (λ e. rw e (both_true first (both_true (time-plain o.time) refl))) (λ e. rw e (both_true first refl))

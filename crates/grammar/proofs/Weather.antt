-- The phenomena of a WS: what each word owes there, how the machine goes on from there, and that it reads what is written.
use mathlib.Core.Bool.{true, false}
use mathlib.Core.List.{List, [], ◌∷◌, ◌++◌, append-nil}
use mathlib.Core.Path.{◌≡◌, refl}
use Prim.Native.Nat.{ℕ, zero, suc, ◌-◌, ◌*◌, ◌≤◌}
use native.Mathlib.Omega.{arith}
use lib.Dec.{lit<}
use lib.ListN.{get_or}
use borrow.Author.Tests.{eq-eqb, ne_eqb}
use Rattle.lists.specs.Lists.{index_of, all_of, same}
use Rattle.lists.specs.Text.{bytes}
use Rattle.lists.proofs.Choice.{clash, both_true, either_left}
use Rattle.lists.proofs.Lists.{all-at, same-is}
use Rattle.words.specs.Bytes.{between, allowed}
use Rattle.words.specs.Words.{plain_word}
use Rattle.words.proofs.Ranges.{between-high}
use Rattle.figures.specs.Tables.{distinct, numbered}
use Rattle.figures.specs.Reads.{Reads}
use Rattle.figures.proofs.TableLaws.{numbers-reads}
use Rattle.message.specs.Limits.{ws, ash_cloud, eruption}
use Rattle.message.specs.Reports.{phenomena, empty_volcano, no_volcano, good_phenomenon, phenomenon_words}
use Rattle.message.specs.declared.Volcano.{Volcano}
use Rattle.message.proofs.Empties.{empty-volcano-is, no-volcano-empty}
use Rattle.grammar.specs.Placing.{is}
use Rattle.grammar.specs.Runs.{walk}
use Rattle.grammar.specs.States.{ToArea, ToPhenomenon}
use Rattle.grammar.specs.States.Move.{goes}
use Rattle.grammar.specs.States.State.{at_form, at_storm, at_severe, at_ice, at_heavy, at_radioactive, at_observation, at_observed}
use Rattle.grammar.specs.Steps.{storm_words, storm_of, good_storm, weather, kind_of, step_form, step}
use Rattle.grammar.proofs.Invariant.{WeatherOk, PhenomenonOk, Ok}
use Rattle.grammar.proofs.Moves.{Fine, chosen, goes-if, fine-as, Next, next-by}
use Rattle.grammar.proofs.Moves.Fine.{leads}
use Rattle.grammar.proofs.Observations.{observation-sound}
use Rattle.grammar.proofs.Told.{told}

pub storm-reads : Reads storm_of (numbered 1 storm_words) good_storm 0
unfolding storm_words distinct all_of same
storm-reads = numbers-reads 1 storm_words (lit< tt) (lit< tt) refl

-- Sound.

good-weather : (o : ToArea) (n : ℕ) → WeatherOk o → between 1 15 n ≡ true → PhenomenonOk (weather o n)
unfolding good_phenomenon
good-weather o n ok b = record { before = ok.opening; phenomenon = either_left _ (both_true (eq-eqb (kind_of o) ws ok.kind) (both_true b no-volcano-empty)) }

-- a storm with `TS` and with `TSGR`
record Storm (n : ℕ) : Type 0 where
  dry : phenomenon_words (2 * n - 1) no_volcano ≡ numbered 1 storm_words n ∷ bytes "TS" ∷ []
  dry-good : between 1 15 (2 * n - 1) ≡ true
  hail : phenomenon_words (2 * n) no_volcano ≡ numbered 1 storm_words n ∷ bytes "TSGR" ∷ []
  hail-good : between 1 15 (2 * n) ≡ true

storm : (n : ℕ) → good_storm n ≡ true → Storm n
unfolding phenomenon_words phenomena storm_words
storm zero g = clash false g refl
storm (suc zero) g = record { dry = refl; dry-good = refl; hail = refl; hail-good = refl }
storm (suc (suc zero)) g = record { dry = refl; dry-good = refl; hail = refl; hail-good = refl }
storm (suc (suc (suc zero))) g = record { dry = refl; dry-good = refl; hail = refl; hail-good = refl }
storm (suc (suc (suc (suc zero)))) g = record { dry = refl; dry-good = refl; hail = refl; hail-good = refl }
storm (suc (suc (suc (suc (suc n))))) g = absurd (omega (arith, between-high 1 4 (suc (suc (suc (suc (suc n))))) g))

pub storm-sound : (o : ToArea) (n : ℕ) (w : List ℕ) → Ok (at_storm o n) → Fine (at_storm o n) w (step (at_storm o n) w)
unfolding step told
storm-sound o n w ok =
    let s : Storm n = storm n ok.1 in
    chosen (is "TS" w) (λ e. leads (record { ok = good-weather o (2 * n - 1) ok.0 s.dry-good; tells = rw (s.dry, same-is w (bytes "TS") e) }))
    (λ f. goes-if (is "TSGR" w) (λ e. record { ok = good-weather o (2 * n) ok.0 s.hail-good; tells = rw (s.hail, same-is w (bytes "TSGR") e) }))

pub severe-sound : (o : ToArea) (w : List ℕ) → Ok (at_severe o) → Fine (at_severe o) w (step (at_severe o) w)
unfolding step told phenomenon_words phenomena
severe-sound o w ok =
    chosen (is "TURB" w) (λ e. leads (record { ok = good-weather o 9 ok refl; tells = rw (same-is w (bytes "TURB") e) }))
    (λ f. chosen (is "ICE" w) (λ e. leads (record { ok = ok; tells = rw (same-is w (bytes "ICE") e) }))
    (λ f. goes-if (is "MTW" w) (λ e. record { ok = good-weather o 12 ok refl; tells = rw (same-is w (bytes "MTW") e) })))

-- a word that is not `(FZRA)` is judged as the observation
pub ice-sound : (o : ToArea) (w : List ℕ) → Ok (at_ice o) → Fine (at_ice o) w (step (at_ice o) w)
unfolding step told phenomenon_words phenomena same
ice-sound o w ok =
    chosen (is "(FZRA)" w) (λ e. leads (record { ok = good-weather o 11 ok refl; tells = rw (same-is w (bytes "(FZRA)") e) }))
    (λ f. fine-as (at_ice o) (at_observation (weather o 10)) refl (rw f) (observation-sound (weather o 10) w (good-weather o 10 ok refl)))

pub heavy-sound : (o : ToArea) (w : List ℕ) → Ok (at_heavy o) → Fine (at_heavy o) w (step (at_heavy o) w)
unfolding step told phenomenon_words phenomena
heavy-sound o w ok =
    chosen (is "DS" w) (λ e. leads (record { ok = good-weather o 13 ok refl; tells = rw (same-is w (bytes "DS") e) }))
    (λ f. goes-if (is "SS" w) (λ e. record { ok = good-weather o 14 ok refl; tells = rw (same-is w (bytes "SS") e) }))

pub radioactive-sound : (o : ToArea) (w : List ℕ) → Ok (at_radioactive o) → Fine (at_radioactive o) w (step (at_radioactive o) w)
unfolding step told phenomenon_words phenomena
radioactive-sound o w ok = goes-if (is "CLD" w) (λ e. record { ok = good-weather o 15 ok refl; tells = rw (same-is w (bytes "CLD") e) })

-- Live.

module _ (observation : (p : ToPhenomenon) → PhenomenonOk p → Next (at_observation p)) where
  pub storm-next : (o : ToArea) (n : ℕ) → Ok (at_storm o n) → Next (at_storm o n)
  unfolding step same
  storm-next o n ok =
      next-by (at_storm o n) (bytes "TS") (at_observation (weather o (2 * n - 1))) refl refl (observation (weather o (2 * n - 1)) (good-weather o (2 * n - 1) ok.0 (storm n ok.1).dry-good))

  pub severe-next : (o : ToArea) → Ok (at_severe o) → Next (at_severe o)
  unfolding step same
  severe-next o ok = next-by (at_severe o) (bytes "TURB") (at_observation (weather o 9)) refl refl (observation (weather o 9) (good-weather o 9 ok refl))

  pub heavy-next : (o : ToArea) → Ok (at_heavy o) → Next (at_heavy o)
  unfolding step same
  heavy-next o ok = next-by (at_heavy o) (bytes "DS") (at_observation (weather o 13)) refl refl (observation (weather o 13) (good-weather o 13 ok refl))

  pub radioactive-next : (o : ToArea) → Ok (at_radioactive o) → Next (at_radioactive o)
  unfolding step same
  radioactive-next o ok = next-by (at_radioactive o) (bytes "CLD") (at_observation (weather o 15)) refl refl (observation (weather o 15) (good-weather o 15 ok refl))

module _ (observed : (p : ToPhenomenon) (n : ℕ) → Ok (at_observed p n) → Next (at_observed p n)) where
  pub ice-next : (o : ToArea) → Ok (at_ice o) → Next (at_ice o)
  unfolding step same
  ice-next o ok = next-by (at_ice o) (bytes "OBS") (at_observed (weather o 10) 1) refl refl (observed (weather o 10) 1 (good-weather o 10 ok refl, refl))

-- Forth: what is written is read.

forth-none : (o : ToArea) (n : ℕ) (w : List ℕ) (ws : List (List ℕ)) → kind_of o ≡ 2 → between 1 15 n ≡ true → is "(FZRA)" w ≡ false
    → walk (goes (at_form o)) (phenomenon_words n no_volcano ++ (w ∷ ws)) ≡ walk (goes (at_observation (weather o n))) (w ∷ ws)
unfolding walk step step_form same index_of storm_words phenomena phenomenon_words
forth-none o zero w ws k b f = clash false b refl
forth-none o (suc zero) w ws k b f = rw k
forth-none o (suc (suc zero)) w ws k b f = rw k
forth-none o (suc (suc (suc zero))) w ws k b f = rw k
forth-none o (suc (suc (suc (suc zero)))) w ws k b f = rw k
forth-none o (suc (suc (suc (suc (suc zero))))) w ws k b f = rw k
forth-none o (suc (suc (suc (suc (suc (suc zero)))))) w ws k b f = rw k
forth-none o (suc (suc (suc (suc (suc (suc (suc zero))))))) w ws k b f = rw k
forth-none o (suc (suc (suc (suc (suc (suc (suc (suc zero)))))))) w ws k b f = rw k
forth-none o (suc (suc (suc (suc (suc (suc (suc (suc (suc zero))))))))) w ws k b f = rw k
forth-none o (suc (suc (suc (suc (suc (suc (suc (suc (suc (suc zero)))))))))) w ws k b f = rw (k, f)
forth-none o (suc (suc (suc (suc (suc (suc (suc (suc (suc (suc (suc zero))))))))))) w ws k b f = rw k
forth-none o (suc (suc (suc (suc (suc (suc (suc (suc (suc (suc (suc (suc zero)))))))))))) w ws k b f = rw k
forth-none o (suc (suc (suc (suc (suc (suc (suc (suc (suc (suc (suc (suc (suc zero))))))))))))) w ws k b f = rw k
forth-none o (suc (suc (suc (suc (suc (suc (suc (suc (suc (suc (suc (suc (suc (suc zero)))))))))))))) w ws k b f = rw k
forth-none o (suc (suc (suc (suc (suc (suc (suc (suc (suc (suc (suc (suc (suc (suc (suc zero))))))))))))))) w ws k b f = rw k
forth-none o (suc (suc (suc (suc (suc (suc (suc (suc (suc (suc (suc (suc (suc (suc (suc (suc n)))))))))))))))) w ws k b f =
    absurd (omega (arith, between-high 1 15 (suc (suc (suc (suc (suc (suc (suc (suc (suc (suc (suc (suc (suc (suc (suc (suc n)))))))))))))))) b))

pub forth-weather : (o : ToArea) (n : ℕ) (v : Volcano) (w : List ℕ) (ws : List (List ℕ)) → kind_of o ≡ 2 → between 1 15 n ≡ true → empty_volcano v ≡ true → is "(FZRA)" w ≡ false
    → walk (goes (at_form o)) (phenomenon_words n v ++ (w ∷ ws)) ≡ walk (goes (at_observation (record { before = o; phenomenon = n; volcano = v }))) (w ∷ ws)
forth-weather o n v w ws k b e f = rw (empty-volcano-is v e) (forth-none o n w ws k b f)

-- Plain: what is written is made of the bytes that a word may have.

plain-phenomena : all_of (all_of plain_word) phenomena ≡ true
unfolding phenomena all_of allowed
plain-phenomena = refl

pub plain-phenomenon : (n : ℕ) (v : Volcano) → 1 ≤ n → n ≤ ash_cloud → all_of plain_word (phenomenon_words n v) ≡ true
unfolding phenomenon_words phenomena
plain-phenomenon n v low high =
    rw (ne_eqb n eruption (λ e. omega arith), append-nil (get_or phenomena (n - 1) [])) (all-at (all_of plain_word) phenomena [] plain-phenomena (n - 1) (omega arith))

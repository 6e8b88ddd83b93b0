-- A test, a cancellation, and the word that tells them from a report: what each word owes there, how the machine goes on from there, and
-- that it reads what is written.
use mathlib.Core.Bool.{true, false, not}
use mathlib.Core.List.{List, [], ◌∷◌, ◌++◌}
use mathlib.Core.Path.{◌≡◌, refl, ap, sym, ◌∙◌}
use Prim.Native.Nat.{ℕ, zero, suc, ◌+◌, ◌-◌, ◌≤◌, ◌<◌}
use native.Mathlib.Omega.{arith}
use lib.Dec.{eqb, lit<}
use lib.ListN.{length, take, get_or}
use lib.Seq.{take-suc, take-length}
use borrow.Author.Tests.{eqb-true, eqb-false, eq-eqb, ne_eqb}
use Rattle.lists.specs.Base.{worth_after}
use Rattle.lists.specs.Choice.{pick}
use Rattle.lists.specs.Lists.{all_of, same}
use Rattle.lists.specs.Text.{bytes}
use Rattle.lists.proofs.Choice.{by, clash, both_left, both_true, both-false-right, both-three}
use Rattle.lists.proofs.Lists.{all-at, same-is, same_refl}
use Rattle.words.specs.Bytes.{between, allowed}
use Rattle.words.specs.Words.{equals_sign, plain_word}
use Rattle.words.proofs.Ranges.{between-low, between-high}
use Rattle.figures.specs.Figures.{figures_of}
use Rattle.figures.proofs.ReadsLaws.{reads-spelled}
use Rattle.groups.specs.Groups.{good_group, same_group, good_period, period_of, spell_period}
use Rattle.groups.specs.declared.Group.{Group}
use Rattle.groups.specs.declared.Period.{Period}
use Rattle.groups.proofs.GroupLaws.{group-made, period-reads, period-plain}
use Rattle.headings.specs.Headings.{type_words, good_type, good_designator}
use Rattle.headings.specs.Sequences.{good_sequence, sequence_of, spell_sequence}
use Rattle.headings.specs.declared.Sequence.{Sequence}
use Rattle.headings.proofs.SequenceLaws.{sequence-reads, sequence-plain}
use Rattle.message.specs.Limits.{ws, wv}
use Rattle.message.specs.Reports.{no_report}
use Rattle.message.specs.Records.{good_line, same_sequence, names_itself, good_cancellation, good_form, good}
use Rattle.message.specs.Words.{test_texts}
use Rattle.message.specs.declared.FirstLine.{FirstLine}
use Rattle.message.specs.declared.Form.TheVariants.{Test, Cancellation}
use Rattle.message.proofs.Empties.{no-report-empty}
use Rattle.message.proofs.Goodness.{heading-parts, line-parts, period-parts, cancellation-parts}
use Rattle.grammar.specs.Parts.{marked}
use Rattle.grammar.specs.Placing.{is}
use Rattle.grammar.specs.Records.{test_of, cancellation_of}
use Rattle.grammar.specs.Runs.{walk}
use Rattle.grammar.specs.States.{ToArea}
use Rattle.grammar.specs.States.Move.{goes, done}
use Rattle.grammar.specs.States.State.{at_form, at_test, at_test_text, at_cancel_sigmet, at_cancel_sequence, at_cancel_period, at_end}
use Rattle.grammar.specs.Steps.{is_sequence, cancels, kind_of, test_text, after_test, storm_of, good_storm, step_form, step_weather, step}
use Rattle.grammar.proofs.Invariant.{OpeningOk, WeatherOk, Ok}
use Rattle.grammar.proofs.Moves.{Fine, Sound, chosen, goes-if, fine-as, fine_end, Next, next-by, next-end, walk_step}
use Rattle.grammar.proofs.Moves.Fine.{leads}
use Rattle.grammar.proofs.Opening.{good-formed, reads_on}
use Rattle.grammar.proofs.Told.{told, told_area, onward, onward-last, told-test, told-cancellation}
use Rattle.grammar.proofs.Weather.{storm-reads}

-- Sound.

-- a bulletin is a WS or a WV
other-kind : (n : ℕ) → good_type n ≡ true → eqb n ws ≡ false → n ≡ wv
unfolding type_words
other-kind n g e =
    let low : 2 ≤ n = between-low 2 3 n g in
    let high : n ≤ 3 = between-high 2 3 n g in
    omega (arith, eqb-false n 2 e)

kind-good : (o : ToArea) → OpeningOk o → good_type (kind_of o) ≡ true
unfolding good_designator
kind-good o ok = both_left (good_type (kind_of o)) _ (heading-parts o.heading ok.heading).designator

-- the first word of a WS phenomenon
weather-sound : (o : ToArea) (w : List ℕ) → WeatherOk o → Fine (at_form o) w (step_weather o w)
unfolding told
weather-sound o w ok =
    chosen (good_storm (storm_of w)) (λ e. leads (record { ok = (ok, e); tells = ap (λ (k : List ℕ). marked 7 k ∷ told_area o) (reads-spelled storm-reads w e) }))
    (λ f. chosen (is "SEV" w) (λ e. leads (record { ok = ok; tells = rw (same-is w (bytes "SEV") e) }))
    (λ f. chosen (is "HVY" w) (λ e. leads (record { ok = ok; tells = rw (same-is w (bytes "HVY") e) }))
    (λ f. goes-if (is "RDOACT" w) (λ e. record { ok = ok; tells = rw (same-is w (bytes "RDOACT") e) }))))

pub form-sound : (o : ToArea) (w : List ℕ) → Ok (at_form o) → Fine (at_form o) w (step (at_form o) w)
unfolding step step_form told test_texts
form-sound o w ok =
    chosen (is "TEST" w) (λ e. leads (record { ok = ok; tells = rw (same-is w (bytes "TEST") e) }))
    (λ f. chosen (is "TEST." w) (λ e. leads (record { ok = (ok, refl, lit< tt); tells = rw (same-is w (bytes "TEST.") e) }))
    (λ f. chosen (is "CNL" w) (λ e. leads (record { ok = ok; tells = rw (same-is w (bytes "CNL") e) }))
    (λ f. chosen (eqb (kind_of o) ws) (λ e. weather-sound o w (record { opening = ok; kind = eqb-true (kind_of o) ws e }))
    (λ n. goes-if (is "VA" w) (λ e. record { ok = record { opening = ok; kind = other-kind (kind_of o) (kind-good o ok) n }; tells = rw (same-is w (bytes "VA") e) })))))

pub good-test : (o : ToArea) (n : ℕ) → OpeningOk o → between 1 3 n ≡ true → good (test_of o n) ≡ true
unfolding good_form
good-test o n ok b = good-formed o (Test n) no_report ok (both_true b no-report-empty)

-- A test.

pub test-sound : (o : ToArea) (w : List ℕ) → Ok (at_test o) → Fine (at_test o) w (step (at_test o) w)
unfolding step told test_texts same
test-sound o w ok =
    chosen (is "SIGMET" w) (λ e. leads (record { ok = (ok, refl, lit< tt); tells = rw (same-is w (bytes "SIGMET") e) }))
    (λ f. fine-as (at_test o) (at_end (test_of o 1)) (told-test o 1) (rw f) (fine_end (test_of o 1) w (good-test o 1 ok refl)))

-- one more word of a text is told
more-text : (o : ToArea) (n read : ℕ) (w : List ℕ) → read < length (test_text n) → same w (get_or (test_text n) read []) ≡ true
    → onward 7 (take (suc read) (test_text n)) (told_area o) ≡ marked 7 w ∷ onward 7 (take read (test_text n)) (told_area o)
more-text o n read w h e =
    ap (λ (vs : List (List ℕ)). onward 7 vs (told_area o)) (take-suc (test_text n) read [] h)
    ∙ (onward-last 7 (take read (test_text n)) (get_or (test_text n) read []) (told_area o)
    ∙ ap (λ (v : List ℕ). marked 7 v ∷ onward 7 (take read (test_text n)) (told_area o)) (sym (same-is w (get_or (test_text n) read []) e)))

whole-text : (o : ToArea) (n k : ℕ) → k ≡ length (test_text n) → onward 7 (test_text n) (told_area o) ≡ onward 7 (take k (test_text n)) (told_area o)
whole-text o n k e = ap (λ (vs : List (List ℕ)). onward 7 vs (told_area o)) (sym (take-length (test_text n)) ∙ ap (λ (j : ℕ). take j (test_text n)) (sym e))

pub test-text-sound : (o : ToArea) (n read : ℕ) (w : List ℕ) → Ok (at_test_text o n read) → Fine (at_test_text o n read) w (step (at_test_text o n read) w)
unfolding step told
test-text-sound o n read w ok = goes-if (same w (get_or (test_text n) read [])) next
  where
    next : same w (get_or (test_text n) read []) ≡ true → Sound (at_test_text o n read) w (after_test o n (suc read))
    next e =
        by (eqb (suc read) (length (test_text n)))
        (λ f. rw f (record { ok = good-test o n ok.0 ok.1; tells = told-test o n ∙ (whole-text o n (suc read) (eqb-true (suc read) (length (test_text n)) f) ∙ more-text o n read w ok.2 e) }))
        (λ f. rw f (record { ok = (ok.0, ok.1, omega (arith, eqb-false (suc read) (length (test_text n)) f, ok.2)); tells = more-text o n read w ok.2 e }))

-- A cancellation.

pub cancel-sigmet-sound : (o : ToArea) (w : List ℕ) → Ok (at_cancel_sigmet o) → Fine (at_cancel_sigmet o) w (step (at_cancel_sigmet o) w)
unfolding step told
cancel-sigmet-sound o w ok = goes-if (is "SIGMET" w) (λ e. record { ok = ok; tells = rw (same-is w (bytes "SIGMET") e) })

pub cancel-sequence-sound : (o : ToArea) (w : List ℕ) → Ok (at_cancel_sequence o) → Fine (at_cancel_sequence o) w (step (at_cancel_sequence o) w)
unfolding step told
cancel-sequence-sound o w ok = goes-if (is_sequence w) (λ g. record { ok = (ok, g); tells = rw (reads-spelled sequence-reads w g) })

-- the same group is that group
same-group-is : (g h : Group) → same_group g h ≡ true → g ≡ h
same-group-is g h e =
    let t = both-three (eqb g.day h.day) (eqb g.hour h.hour) _ e in
    group-made (eqb-true g.day h.day t.0) (eqb-true g.hour h.hour t.1) (eqb-true g.minute h.minute t.2)

same-group-refl : (g : Group) → same_group g g ≡ true
same-group-refl g = both_true (eq-eqb g.day g.day refl) (both_true (eq-eqb g.hour g.hour refl) (eq-eqb g.minute g.minute refl))

-- what the test of a cancellation tells
record Cancels (l : FirstLine) (s : Sequence) (p : Period) : Type 0 where
  period : good_period p ≡ true
  to : p.to ≡ l.valid.to
  other : not (names_itself l s p.from) ≡ true

cancels-told : (l : FirstLine) (s : Sequence) (p : Period) → cancels l s p ≡ true → Cancels l s p
unfolding cancels
cancels-told l s p e =
    let t = both-three _ _ _ e in
    record { period = t.0; to = same-group-is _ _ t.1; other = t.2 }

pub good-cancel : (o : ToArea) (s : Sequence) (p : Period) → OpeningOk o → good_sequence s ≡ true → cancels o.line s p ≡ true → good (cancellation_of o s p.from) ≡ true
unfolding good_form
good-cancel o s p ok g e =
    let told : Cancels o.line s p = cancels-told o.line s p e in
    good-formed o (Cancellation s p.from) no_report ok (both_true (both_true g (both_true (period-parts p told.period).from told.other)) no-report-empty)

pub cancel-period-sound : (o : ToArea) (s : Sequence) (w : List ℕ) → Ok (at_cancel_period o s) → Fine (at_cancel_period o s) w (step (at_cancel_period o s) w)
unfolding step told
cancel-period-sound o s w ok = goes-if (cancels o.line s (period_of w)) next
  where
    next : cancels o.line s (period_of w) ≡ true → Sound (at_cancel_period o s) w (at_end (cancellation_of o s (period_of w).from))
    next e =
        let c : Cancels o.line s (period_of w) = cancels-told o.line s (period_of w) e in
        let spelled : spell_period (record { from = (period_of w).from; to = o.line.valid.to }) ≡ w = ap (λ (t : Group). spell_period (record { from = (period_of w).from; to = t })) (sym c.to) ∙ reads-spelled period-reads w c.period in
        record {
          ok = good-cancel o s (period_of w) ok.0 ok.1 e;
          tells =
              told-cancellation o s (period_of w).from
              ∙ ap (λ (v : List ℕ). marked 7 v ∷ onward 7 (bytes "CNL" ∷ bytes "SIGMET" ∷ spell_sequence s ∷ []) (told_area o)) spelled;
        }

-- Live.

pub test-next : (o : ToArea) → Ok (at_test o) → Next (at_test o)
unfolding step walk same
test-next o ok = record { word = equals_sign; rest = []; message = test_of o 1; ends = refl; part = refl }

pub test-text-next : (o : ToArea) (n read : ℕ) → Ok (at_test_text o n read) → Next (at_test_text o n read)
unfolding step
test-text-next o n read ok = go (length (test_text n) - suc read) read (omega (arith, ok.2))
  where
    -- by how many words are left after this one
    go : (left at : ℕ) → left + suc at ≡ length (test_text n) → Next (at_test_text o n at)
    go zero at e =
        next-by (at_test_text o n at) (get_or (test_text n) at []) (at_end (test_of o n))
        (rw (same_refl (get_or (test_text n) at []), eq-eqb (suc at) (length (test_text n)) (omega arith)))
        refl
        (next-end (test_of o n))
    go (suc left) at e =
        next-by (at_test_text o n at) (get_or (test_text n) at []) (at_test_text o n (suc at))
        (rw (same_refl (get_or (test_text n) at []), ne_eqb (suc at) (length (test_text n)) (λ q. omega arith)))
        refl
        (go left (suc at) (omega arith))

-- the word that a cancellation ends with
cancel-step : (o : ToArea) (s : Sequence) (from : Group) → good_line o.line ≡ true → good_group from ≡ true → not (names_itself o.line s from) ≡ true
    → step (at_cancel_period o s) (spell_period (record { from = from; to = o.line.valid.to })) ≡ goes (at_end (cancellation_of o s from))
unfolding step cancels good_period
cancel-step o s from l g other =
    let to = (period-parts o.line.valid (line-parts o.line l).valid).to in
    rw (period-reads.forth (record { from = from; to = o.line.valid.to }) (both_true g to), g, to, same-group-refl o.line.valid.to, other)

-- a group other than that one
abbrev another : Group → Group
another g = record { day = 1; hour = 0; minute = pick (eqb g.minute 0) 1 0 }

another-good : (g : Group) → good_group (another g) ≡ true
unfolding good_group
another-good g = by (eqb g.minute 0) (λ e. rw e) (λ e. rw e)

another-other : (l : FirstLine) (s : Sequence) → not (names_itself l s (another l.valid.from)) ≡ true
unfolding names_itself
another-other l s =
    let g : Group = l.valid.from in
    let minute : eqb (another g).minute g.minute ≡ false = by (eqb g.minute 0) (λ e. rw (e, eqb-true g.minute 0 e)) (λ e. rw e (ne_eqb 0 g.minute (λ q. eqb-false g.minute 0 e (sym q)))) in
    ap not (both-false-right (same_sequence s l.sequence) (both-false-right (eqb 1 g.day) (both-false-right (eqb 0 g.hour) minute)))

pub cancel-period-next : (o : ToArea) (s : Sequence) → Ok (at_cancel_period o s) → Next (at_cancel_period o s)
cancel-period-next o s ok =
    let from : Group = another o.line.valid.from in
    next-by (at_cancel_period o s) (spell_period (record { from = from; to = o.line.valid.to })) (at_end (cancellation_of o s from))
    (cancel-step o s from ok.0.line (another-good o.line.valid.from) (another-other o.line s))
    refl
    (next-end (cancellation_of o s from))

pub cancel-sequence-next : (o : ToArea) → Ok (at_cancel_sequence o) → Next (at_cancel_sequence o)
unfolding step sequence_of good_sequence figures_of all_of worth_after
cancel-sequence-next o ok =
    let s : Sequence = record { letter = 0; digits = 1; number = 1 } in
    next-by (at_cancel_sequence o) (bytes "1") (at_cancel_period o s) refl refl (cancel-period-next o s (ok, refl))

pub cancel-sigmet-next : (o : ToArea) → Ok (at_cancel_sigmet o) → Next (at_cancel_sigmet o)
unfolding step same
cancel-sigmet-next o ok = next-by (at_cancel_sigmet o) (bytes "SIGMET") (at_cancel_sequence o) refl refl (cancel-sequence-next o ok)

pub form-next : (o : ToArea) → Ok (at_form o) → Next (at_form o)
unfolding step step_form same
form-next o ok = next-by (at_form o) (bytes "CNL") (at_cancel_sigmet o) refl refl (cancel-sigmet-next o ok)

-- Forth: what is written is read.

pub forth-test : (o : ToArea) (n : ℕ) → between 1 3 n ≡ true → walk (goes (at_form o)) (test_text n ++ (equals_sign ∷ [])) ≡ done (test_of o n)
unfolding walk step step_form same test_texts
forth-test o zero b = clash false b refl
forth-test o (suc zero) b = refl
forth-test o (suc (suc zero)) b = refl
forth-test o (suc (suc (suc zero))) b = refl
forth-test o (suc (suc (suc (suc n)))) b = absurd (omega (arith, between-high 1 3 (suc (suc (suc (suc n)))) b))

pub forth-cancellation : (o : ToArea) (s : Sequence) (from : Group) → good_line o.line ≡ true → good_cancellation o.line s from ≡ true
    → walk (goes (at_form o)) ((bytes "CNL" ∷ bytes "SIGMET" ∷ spell_sequence s ∷ spell_period (record { from = from; to = o.line.valid.to }) ∷ []) ++ (equals_sign ∷ []))
    ≡ done (cancellation_of o s from)
unfolding walk step step_form same
forth-cancellation o s from l g =
    let parts = cancellation-parts o.line s from g in
    let last : List ℕ = spell_period (record { from = from; to = o.line.valid.to }) in
    walk_step (at_cancel_sequence o) (at_cancel_period o s) (spell_sequence s) (last ∷ equals_sign ∷ []) (reads_on sequence-reads (at_cancel_period o) s parts.sequence)
    ∙ walk_step (at_cancel_period o s) (at_end (cancellation_of o s from)) last (equals_sign ∷ []) (cancel-step o s from l parts.from parts.other)

-- Plain: what is written is made of the bytes that a word may have.

pub plain-test : (n : ℕ) → between 1 3 n ≡ true → all_of plain_word (test_text n) ≡ true
unfolding test_texts all_of allowed
plain-test n b =
    let low : 1 ≤ n = between-low 1 3 n b in
    let high : n ≤ 3 = between-high 1 3 n b in
    all-at (all_of plain_word) test_texts [] refl (n - 1) (omega arith)

pub plain-cancellation : (s : Sequence) (p : Period) → good_sequence s ≡ true → all_of plain_word (bytes "CNL" ∷ bytes "SIGMET" ∷ spell_sequence s ∷ spell_period p ∷ []) ≡ true
unfolding all_of allowed
plain-cancellation s p g = both_true (sequence-plain s g) (both_true (period-plain p) refl)

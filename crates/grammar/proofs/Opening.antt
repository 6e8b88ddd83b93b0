-- The heading and the first line, state by state: what is told is what was read, some words lead on, and the words of a good heading and
-- first line lead through.
use mathlib.Core.Bool.{Bool, true, false}
use mathlib.Core.List.{List, [], ◌∷◌, ◌++◌}
use mathlib.Core.Path.{◌≡◌, refl, ◌∙◌}
use Prim.Native.Nat.{ℕ}
use lib.Dec.{eqb, lit<}
use borrow.Author.Tests.{eqb-true}
use Rattle.lists.specs.Base.{worth_after, places}
use Rattle.lists.specs.Lists.{index_of, all_of, same}
use Rattle.lists.specs.Text.{bytes}
use Rattle.lists.proofs.Choice.{by, clash, both_true, either-right}
use Rattle.lists.proofs.Lists.{same-is}
use Rattle.words.specs.Bytes.{allowed}
use Rattle.words.specs.Words.{plain_word}
use Rattle.figures.specs.Figures.{figures_of}
use Rattle.figures.specs.Letters.{letters_of, in_letters, good_letters}
use Rattle.figures.specs.Reads.{Reads}
use Rattle.figures.proofs.ReadsLaws.{reads-spelled}
use Rattle.figures.proofs.LetterLaws.{letters-reads, length-in_letters}
use Rattle.figures.proofs.PlainLaws.{in_letters-plain, run-plain}
use Rattle.groups.specs.Groups.{group_of, good_group, spell_group, period_of, good_period, spell_period}
use Rattle.groups.specs.declared.Group.{Group}
use Rattle.groups.specs.declared.Period.{Period}
use Rattle.groups.proofs.GroupLaws.{group_reads, group-plain, period-reads, period-plain}
use Rattle.headings.specs.Headings.{type_words, designator_of, good_designator, spell_designator, correction_of, good_correction, spell_correction, office_of, spell_office}
use Rattle.headings.specs.Sequences.{sequence_of, good_sequence, spell_sequence}
use Rattle.headings.specs.declared.Designator.{Designator}
use Rattle.headings.specs.declared.Sequence.{Sequence}
use Rattle.headings.proofs.HeadingLaws.{designator-reads, designator-plain, correction-reads, correction-plain, office-reads, office-plain}
use Rattle.headings.proofs.SequenceLaws.{sequence-reads, sequence-plain}
use Rattle.message.specs.Records.{good_heading, good_line, good_form, good}
use Rattle.message.specs.Words.{correction_words, heading_words, line_words}
use Rattle.message.specs.declared.FirstLine.{FirstLine}
use Rattle.message.specs.declared.Form.{Form}
use Rattle.message.specs.declared.Heading.{Heading}
use Rattle.message.specs.declared.Report.{Report}
use Rattle.message.proofs.Goodness.{heading-parts, heading-good, line-parts, line-good}
use Rattle.grammar.specs.Placing.{is}
use Rattle.grammar.specs.Records.{formed}
use Rattle.grammar.specs.Runs.{walk}
use Rattle.grammar.specs.States.{ToArea, State}
use Rattle.grammar.specs.States.Move.{goes}
use Rattle.grammar.specs.States.State.{at_designator, at_centre, at_sent, at_correction, at_unit, at_sigmet, at_sequence, at_valid, at_period, at_office, at_indicator}
use Rattle.grammar.specs.Steps.{is_sequence, goes_if, kind_of, step}
use Rattle.grammar.proofs.Invariant.{OpeningOk, Ok}
use Rattle.grammar.proofs.Moves.{Fine, chosen, goes-if, fine-as, Next, next-by, walk_step}
use Rattle.grammar.proofs.Moves.Fine.{leads}
use Rattle.grammar.proofs.Told.{told}

pub four-reads : Reads (letters_of 4) (in_letters 4) (good_letters 4) 0
four-reads = letters-reads 4 (lit< tt) (lit< tt)

-- a correction is no 0, which stands for none
pub some-correction : (c : ℕ) → good_correction c ≡ true → eqb c 0 ≡ false
unfolding good_correction
some-correction c g = by (eqb c 0) (λ e. clash false (rw (eqb-true c 0 e) at g) refl) (λ e. e)

-- a message is good where what was read up to its area and its form are
pub good-formed : (o : ToArea) (f : Form) (report : Report) → OpeningOk o → good_form (kind_of o) o.line report f ≡ true → good (formed o f report) ≡ true
unfolding good
good-formed o f report ok g = both_true ok.heading (both_true ok.line (both_true ok.area g))

-- Sound.

pub designator-sound : (w : List ℕ) → Ok at_designator → Fine at_designator w (step at_designator w)
unfolding step told
designator-sound w ok = goes-if (good_designator (designator_of w)) (λ g. record { ok = g; tells = rw (reads-spelled designator-reads w g) })

pub centre-sound : (d : Designator) (w : List ℕ) → Ok (at_centre d) → Fine (at_centre d) w (step (at_centre d) w)
unfolding step told
centre-sound d w ok = goes-if (good_letters 4 (letters_of 4 w)) (λ g. record { ok = (ok, g); tells = rw (reads-spelled four-reads w g) })

pub sent-sound : (d : Designator) (c : ℕ) (w : List ℕ) → Ok (at_sent d c) → Fine (at_sent d c) w (step (at_sent d c) w)
unfolding step told
sent-sound d c w ok =
    goes-if (good_group (group_of w))
    (λ g. record { ok = heading-good _ (record { designator = ok.0; centre = ok.1; sent = g; correction = refl }); tells = rw (reads-spelled group_reads w g) })

pub unit-sound : (h : Heading) (w : List ℕ) → Ok (at_unit h) → Fine (at_unit h) w (step (at_unit h) w)
unfolding step told
unit-sound h w ok = goes-if (good_letters 4 (letters_of 4 w)) (λ g. record { ok = (ok, g); tells = rw (reads-spelled four-reads w g) })

pub correction-sound : (d : Designator) (c : ℕ) (g : Group) (w : List ℕ) → Ok (at_correction d c g) → Fine (at_correction d c g) w (step (at_correction d c g) w)
unfolding step told
correction-sound d c g w ok =
    let parts = heading-parts (record { designator = d; centre = c; sent = g; correction = 0 }) ok in
    chosen (good_correction (correction_of w))
    (λ e. leads (record {
      ok = heading-good _ (record { designator = parts.designator; centre = parts.centre; sent = parts.sent; correction = either-right (eqb (correction_of w) 0) e });
      tells = rw (some-correction (correction_of w) e, reads-spelled correction-reads w e);
    }))
    (λ e. fine-as (at_correction d c g) (at_unit (record { designator = d; centre = c; sent = g; correction = 0 })) refl refl (unit-sound (record { designator = d; centre = c; sent = g; correction = 0 }) w ok))

pub sigmet-sound : (h : Heading) (u : ℕ) (w : List ℕ) → Ok (at_sigmet h u) → Fine (at_sigmet h u) w (step (at_sigmet h u) w)
unfolding step told
sigmet-sound h u w ok = goes-if (is "SIGMET" w) (λ g. record { ok = ok; tells = rw (same-is w (bytes "SIGMET") g) })

pub sequence-sound : (h : Heading) (u : ℕ) (w : List ℕ) → Ok (at_sequence h u) → Fine (at_sequence h u) w (step (at_sequence h u) w)
unfolding step told
sequence-sound h u w ok =
    goes-if (is_sequence w) (λ g. record { ok = (ok.0, ok.1, g); tells = rw (reads-spelled sequence-reads w g) })

pub valid-sound : (h : Heading) (u : ℕ) (s : Sequence) (w : List ℕ) → Ok (at_valid h u s) → Fine (at_valid h u s) w (step (at_valid h u s) w)
unfolding step told
valid-sound h u s w ok = goes-if (is "VALID" w) (λ g. record { ok = ok; tells = rw (same-is w (bytes "VALID") g) })

pub period-sound : (h : Heading) (u : ℕ) (s : Sequence) (w : List ℕ) → Ok (at_period h u s) → Fine (at_period h u s) w (step (at_period h u s) w)
unfolding step told
period-sound h u s w ok =
    goes-if (good_period (period_of w)) (λ g. record { ok = (ok.0, ok.1, ok.2, g); tells = rw (reads-spelled period-reads w g) })

pub office-sound : (h : Heading) (u : ℕ) (s : Sequence) (p : Period) (w : List ℕ) → Ok (at_office h u s p) → Fine (at_office h u s p) w (step (at_office h u s p) w)
unfolding step told line_words
office-sound h u s p w ok =
    goes-if (good_letters 4 (office_of w))
    (λ g. record { ok = (ok.0, line-good _ (record { unit = ok.1; sequence = ok.2; valid = ok.3; office = g })); tells = rw (reads-spelled office-reads w g) })

-- Live.

module _ (indicator : (h : Heading) (l : FirstLine) → Ok (at_indicator h l) → Next (at_indicator h l)) where
  pub office-next : (h : Heading) (u : ℕ) (s : Sequence) (p : Period) → Ok (at_office h u s p) → Next (at_office h u s p)
  unfolding step office_of letters_of good_letters worth_after places all_of
  office-next h u s p ok =
      let l : FirstLine = record { unit = u; sequence = s; valid = p; office = office_of (bytes "QAAA-") } in
      next-by (at_office h u s p) (bytes "QAAA-") (at_indicator h l) refl refl (indicator h l (ok.0, line-good l (record { unit = ok.1; sequence = ok.2; valid = ok.3; office = refl })))

  pub period-next : (h : Heading) (u : ℕ) (s : Sequence) → Ok (at_period h u s) → Next (at_period h u s)
  unfolding step period_of good_period group_of good_group figures_of worth_after all_of
  period-next h u s ok =
      let w : List ℕ = bytes "180830/181230" in
      next-by (at_period h u s) w (at_office h u s (period_of w)) refl refl (office-next h u s (period_of w) (ok.0, ok.1, ok.2, refl))

  pub valid-next : (h : Heading) (u : ℕ) (s : Sequence) → Ok (at_valid h u s) → Next (at_valid h u s)
  unfolding step same
  valid-next h u s ok = next-by (at_valid h u s) (bytes "VALID") (at_period h u s) refl refl (period-next h u s ok)

  pub sequence-next : (h : Heading) (u : ℕ) → Ok (at_sequence h u) → Next (at_sequence h u)
  unfolding step sequence_of good_sequence figures_of worth_after all_of
  sequence-next h u ok =
      let w : List ℕ = bytes "1" in
      next-by (at_sequence h u) w (at_valid h u (sequence_of w)) refl refl (valid-next h u (sequence_of w) (ok.0, ok.1, refl))

  pub sigmet-next : (h : Heading) (u : ℕ) → Ok (at_sigmet h u) → Next (at_sigmet h u)
  unfolding step same
  sigmet-next h u ok = next-by (at_sigmet h u) (bytes "SIGMET") (at_sequence h u) refl refl (sequence-next h u ok)

  pub unit-next : (h : Heading) → Ok (at_unit h) → Next (at_unit h)
  unfolding step letters_of good_letters worth_after places all_of
  unit-next h ok =
      let w : List ℕ = bytes "QAAA" in
      next-by (at_unit h) w (at_sigmet h (letters_of 4 w)) refl refl (sigmet-next h (letters_of 4 w) (ok, refl))

  pub correction-next : (d : Designator) (c : ℕ) (g : Group) → Ok (at_correction d c g) → Next (at_correction d c g)
  unfolding step letters_of good_letters correction_of good_correction worth_after places all_of
  correction-next d c g ok =
      let h : Heading = record { designator = d; centre = c; sent = g; correction = 0 } in
      let w : List ℕ = bytes "QAAA" in
      next-by (at_correction d c g) w (at_sigmet h (letters_of 4 w)) refl refl (sigmet-next h (letters_of 4 w) (ok, refl))

  pub sent-next : (d : Designator) (c : ℕ) → Ok (at_sent d c) → Next (at_sent d c)
  unfolding step group_of good_group figures_of worth_after all_of
  sent-next d c ok =
      let w : List ℕ = bytes "180830" in
      next-by (at_sent d c) w (at_correction d c (group_of w)) refl refl (correction-next d c (group_of w) (heading-good _ (record { designator = ok.0; centre = ok.1; sent = refl; correction = refl })))

  pub centre-next : (d : Designator) → Ok (at_centre d) → Next (at_centre d)
  unfolding step letters_of good_letters worth_after places all_of
  centre-next d ok =
      let w : List ℕ = bytes "QAAA" in
      next-by (at_centre d) w (at_sent d (letters_of 4 w)) refl refl (sent-next d (letters_of 4 w) (ok, refl))

  pub designator-next : Ok at_designator → Next at_designator
  unfolding step designator_of good_designator type_words index_of same letters_of good_letters figures_of worth_after places all_of
  designator-next ok =
      let w : List ℕ = bytes "WSZZ31" in
      next-by at_designator w (at_centre (designator_of w)) refl refl (centre-next (designator_of w) refl)

-- Forth: the words of a good heading and first line lead through.

-- a word that is read as that good value
pub reads_on : {A : Type 0} {read : List ℕ → A} {spell : A → List ℕ} {good : A → Bool} {none : A} → Reads read spell good none
    → (next : A → State) (v : A) → good v ≡ true → goes_if (good (read (spell v))) (next (read (spell v))) ≡ goes (next v)
reads_on laws next v g = rw (laws.forth v g, g)

-- four letters are no correction, which has three bytes
pub no-correction : (u : ℕ) → good_correction (correction_of (in_letters 4 u)) ≡ false
unfolding correction_of
no-correction u = rw (length-in_letters 4 u) correction-reads.refuses

forth-three : (h : Heading) (ws : List (List ℕ)) → good_heading h ≡ true
    → walk (goes at_designator) (heading_words h ++ ws) ≡ walk (goes (at_correction h.designator h.centre h.sent)) (correction_words h.correction ++ ws)
unfolding heading_words step
forth-three h ws g =
    let parts = heading-parts h g in
    let d : Designator = h.designator in
    let c : ℕ = h.centre in
    let rest : List (List ℕ) = correction_words h.correction ++ ws in
    walk_step at_designator (at_centre d) (spell_designator d) (in_letters 4 c ∷ spell_group h.sent ∷ rest) (reads_on designator-reads at_centre d parts.designator)
    ∙ (walk_step (at_centre d) (at_sent d c) (in_letters 4 c) (spell_group h.sent ∷ rest) (reads_on four-reads (at_sent d) c parts.centre)
    ∙ walk_step (at_sent d c) (at_correction d c h.sent) (spell_group h.sent) rest (reads_on group_reads (at_correction d c) h.sent parts.sent))

-- the words of the first line after the unit
unitless : FirstLine → List (List ℕ)
unitless l = bytes "SIGMET" ∷ spell_sequence l.sequence ∷ bytes "VALID" ∷ spell_period l.valid ∷ spell_office l.office ∷ []

forth-unitless : (h : Heading) (l : FirstLine) (ws : List (List ℕ)) → good_line l ≡ true
    → walk (goes (at_sigmet h l.unit)) (unitless l ++ ws) ≡ walk (goes (at_indicator h l)) ws
unfolding unitless step same
forth-unitless h l ws g =
    let parts = line-parts l g in
    let u : ℕ = l.unit in
    let s : Sequence = l.sequence in
    let p : Period = l.valid in
    let rest : List (List ℕ) = spell_office l.office ∷ ws in
    walk_step (at_sigmet h u) (at_sequence h u) (bytes "SIGMET") (spell_sequence s ∷ bytes "VALID" ∷ spell_period p ∷ rest) refl
    ∙ (walk_step (at_sequence h u) (at_valid h u s) (spell_sequence s) (bytes "VALID" ∷ spell_period p ∷ rest) (reads_on sequence-reads (at_valid h u) s parts.sequence)
    ∙ (walk_step (at_valid h u s) (at_period h u s) (bytes "VALID") (spell_period p ∷ rest) refl
    ∙ (walk_step (at_period h u s) (at_office h u s p) (spell_period p) rest (reads_on period-reads (at_office h u s) p parts.valid)
    ∙ walk_step (at_office h u s p) (at_indicator h l) (spell_office l.office) ws (reads_on office-reads (λ (o : ℕ). at_indicator h (record { unit = u; sequence = s; valid = p; office = o })) l.office parts.office))))

forth-unit : (h : Heading) (l : FirstLine) (ws : List (List ℕ)) → good_line l ≡ true
    → walk (goes (at_unit h)) (line_words l ++ ws) ≡ walk (goes (at_indicator h l)) ws
unfolding line_words unitless step
forth-unit h l ws g =
    walk_step (at_unit h) (at_sigmet h l.unit) (in_letters 4 l.unit) (unitless l ++ ws) (reads_on four-reads (at_sigmet h) l.unit (line-parts l g).unit)
    ∙ forth-unitless h l ws g

-- a heading without a correction
plainly : (d : Designator) (c : ℕ) (g : Group) (l : FirstLine) (ws : List (List ℕ)) → good_line l ≡ true
    → walk (goes (at_correction d c g)) (line_words l ++ ws) ≡ walk (goes (at_indicator (record { designator = d; centre = c; sent = g; correction = 0 }) l)) ws
unfolding line_words unitless step
plainly d c s l ws g =
    let h : Heading = record { designator = d; centre = c; sent = s; correction = 0 } in
    walk_step (at_correction d c s) (at_sigmet h l.unit) (in_letters 4 l.unit) (unitless l ++ ws)
    (rw (no-correction l.unit) (reads_on four-reads (at_sigmet h) l.unit (line-parts l g).unit))
    ∙ forth-unitless h l ws g

forth-correction : (h : Heading) (l : FirstLine) (ws : List (List ℕ)) → good_heading h ≡ true → good_line l ≡ true
    → walk (goes (at_correction h.designator h.centre h.sent)) (correction_words h.correction ++ (line_words l ++ ws)) ≡ walk (goes (at_indicator h l)) ws
unfolding step
forth-correction h l ws g k =
    by (eqb h.correction 0)
    (λ e. rw (eqb-true h.correction 0 e) (plainly h.designator h.centre h.sent l ws k))
    (λ e. let c : good_correction h.correction ≡ true = rw e at (heading-parts h g).correction in
    rw e (walk_step (at_correction h.designator h.centre h.sent) (at_unit h) (spell_correction h.correction) (line_words l ++ ws) (rw (correction-reads.forth h.correction c, c)) ∙ forth-unit h l ws k))

pub forth-line : (h : Heading) (l : FirstLine) (ws : List (List ℕ)) → good_heading h ≡ true → good_line l ≡ true
    → walk (goes at_designator) (heading_words h ++ (line_words l ++ ws)) ≡ walk (goes (at_indicator h l)) ws
forth-line h l ws g k = forth-three h (line_words l ++ ws) g ∙ forth-correction h l ws g k

-- Plain: these words have only plain bytes.

pub four-plain : (n : ℕ) → good_letters 4 n ≡ true → plain_word (in_letters 4 n) ≡ true
four-plain n g = run-plain (in_letters 4 n) (rw (length-in_letters 4 n) (lit< tt)) (in_letters-plain 4 n g)

pub plain-heading : (h : Heading) → good_heading h ≡ true → all_of plain_word (heading_words h) ≡ true
unfolding heading_words all_of
plain-heading h g =
    let parts = heading-parts h g in
    both_true (designator-plain h.designator parts.designator) (both_true (four-plain h.centre parts.centre) (both_true (group-plain h.sent)
    (by (eqb h.correction 0) (λ e. rw e refl)
    (λ e. rw e (both_true (correction-plain h.correction (rw e at parts.correction)) refl)))))

pub plain-line : (l : FirstLine) → good_line l ≡ true → all_of plain_word (line_words l) ≡ true
unfolding line_words all_of allowed
plain-line l g =
    let parts = line-parts l g in
    both_true (four-plain l.unit parts.unit) (both_true (sequence-plain l.sequence parts.sequence)
    (both_true (period-plain l.valid) (both_true (office-plain l.office parts.office) refl)))

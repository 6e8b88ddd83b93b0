-- Every word of a good record is a plain word: allowed bytes, no blank and no `=`.
use mathlib.Core.Bool.{true, false}
use mathlib.Core.List.{List, ◌++◌}
use mathlib.Core.Path.{◌≡◌, refl, ◌∙◌}
use Prim.Native.Nat.{ℕ}
use native.Mathlib.Omega.{arith}
use Rattle.lists.specs.Lists.{all_of}
use Rattle.lists.proofs.Choice.{clash, both_left, both_true}
use Rattle.lists.proofs.Lists.{all_append}
use Rattle.words.specs.Words.{plain_word}
use Rattle.words.proofs.Ranges.{between-low, between-high}
use Rattle.levels.specs.Levels.{level_words}
use Rattle.groups.specs.declared.Time.{Time}
use Rattle.message.specs.Locations.{extent_words}
use Rattle.message.specs.Records.{good_form, good}
use Rattle.message.specs.Reports.{good_phenomenon, phenomenon_words, observation_words, ending_words, good_report, report_words}
use Rattle.message.specs.Words.{area_words, form_words, body_words}
use Rattle.message.specs.declared.Form.{Form}
use Rattle.message.specs.declared.Form.TheVariants.{NoForm, Test, Cancellation, Reported}
use Rattle.message.specs.declared.Record.{Record}
use Rattle.message.specs.declared.Report.{Report}
use Rattle.message.specs.declared.Volcano.{Volcano}
use Rattle.message.proofs.Goodness.{good-parts, cancellation-parts, report-parts, phenomenon-cases}
use Rattle.grammar.proofs.Areas.{plain-area}
use Rattle.grammar.proofs.Ashes.{plain-volcano}
use Rattle.grammar.proofs.Endings.{plain-level, plain-ending}
use Rattle.grammar.proofs.Forms.{plain-test, plain-cancellation}
use Rattle.grammar.proofs.Observations.{plain-observation}
use Rattle.grammar.proofs.Extents.{plain-extent}
use Rattle.grammar.proofs.Weather.{plain-phenomenon}

plain-both : (vs us : List (List ℕ)) → all_of plain_word vs ≡ true → all_of plain_word us ≡ true → all_of plain_word (vs ++ us) ≡ true
plain-both vs us a b = all_append plain_word vs us ∙ both_true a b

plain-any : (kind n : ℕ) (v : Volcano) → good_phenomenon kind n v ≡ true → all_of plain_word (phenomenon_words n v) ≡ true
plain-any kind n v g =
    phenomenon-cases kind n v g
    (λ k b e. plain-phenomenon n v (between-low 1 15 n b) (omega (arith, between-high 1 15 n b)))
    (λ k c e. plain-phenomenon n v (omega arith) (omega arith))
    (λ k c e. rw c (plain-volcano v e))

plain-report : (kind : ℕ) (end : Time) (closing : ℕ) (r : Report) → good_report kind r ≡ true → all_of plain_word (report_words end closing r) ≡ true
unfolding report_words
plain-report kind end closing r g =
    let parts = report-parts kind r g in
    let endings : List (List ℕ) = ending_words end closing r.ending r.forecast in
    let levels : List (List ℕ) = level_words r.level in
    let extents : List (List ℕ) = extent_words closing r.extent in
    let observations : List (List ℕ) = observation_words r.observation in
    plain-both (phenomenon_words r.phenomenon r.volcano) (observations ++ (extents ++ (levels ++ endings))) (plain-any kind r.phenomenon r.volcano parts.phenomenon)
    (plain-both observations (extents ++ (levels ++ endings)) (plain-observation r.observation parts.observation)
    (plain-both extents (levels ++ endings) (plain-extent closing r.extent parts.extent)
    (plain-both levels endings (plain-level r.level parts.level) (plain-ending plain-extent kind end closing r.ending r.forecast parts.ending))))

plain_form : (r : Record) (f : Form) → good_form r.heading.designator.kind r.line r.report f ≡ true → all_of plain_word (form_words r f) ≡ true
unfolding good_form form_words
plain_form r NoForm g = clash false g refl
plain_form r (Test n) g = plain-test n (both_left _ _ g)
plain_form r (Cancellation s from) g = plain-cancellation s _ (cancellation-parts r.line s from (both_left _ _ g)).sequence
plain_form r Reported g = plain-report r.heading.designator.kind _ r.area.closing r.report g

pub plain_body : (r : Record) → good r ≡ true → all_of plain_word (body_words r) ≡ true
unfolding body_words
plain_body r g =
    let parts = good-parts r g in
    plain-both (area_words r.area) (form_words r r.form) (plain-area r.area parts.area) (plain_form r r.form parts.form)

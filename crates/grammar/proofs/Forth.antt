-- The words of every good record are accepted as that record: the sections' laws put together.
use mathlib.Core.Bool.{true, false}
use mathlib.Core.List.{List, [], ◌∷◌, ◌++◌, append_assoc}
use mathlib.Core.Path.{◌≡◌, refl, ap, ◌∙◌}
use Prim.Native.Nat.{ℕ}
use Rattle.lists.proofs.Choice.{clash, both_left, both_right}
use Rattle.words.specs.Bytes.{between}
use Rattle.words.specs.Words.{equals_sign}
use Rattle.levels.specs.Levels.{level_words}
use Rattle.message.specs.Locations.{extent_words}
use Rattle.message.specs.Records.{good_cancellation, good_form, good}
use Rattle.message.specs.Reports.{good_phenomenon, phenomenon_words, observation_words, good_ending, ending_words, report_words}
use Rattle.message.specs.Words.{heading_words, line_words, area_words, form_words, body_words, words_of}
use Rattle.message.specs.declared.Ending.{Ending}
use Rattle.message.specs.declared.Extent.{Extent}
use Rattle.message.specs.declared.Form.{Form}
use Rattle.message.specs.declared.Form.TheVariants.{NoForm, Test, Cancellation, Reported}
use Rattle.message.specs.declared.Record.{Record}
use Rattle.message.specs.declared.Report.{Report}
use Rattle.message.specs.declared.Volcano.{Volcano}
use Rattle.message.proofs.Empties.{empty-volcano-is, empty-report-is}
use Rattle.message.proofs.Goodness.{good-parts, report-parts, phenomenon-cases}
use Rattle.grammar.specs.Judged.{message_words}
use Rattle.grammar.specs.Placing.{is}
use Rattle.grammar.specs.Records.{formed, area_of, report_of}
use Rattle.grammar.specs.Runs.{walk}
use Rattle.grammar.specs.States.{ToArea, ToPhenomenon, ToObservation, ToLocation, ToLevel}
use Rattle.grammar.specs.States.Move.{goes, done}
use Rattle.grammar.specs.States.Placing.{at_location}
use Rattle.grammar.specs.States.Site.{in_report}
use Rattle.grammar.specs.States.State.{at_designator, at_form, at_observation, at_place, at_level}
use Rattle.grammar.specs.Steps.{kind_of, end_time}
use Rattle.grammar.proofs.Areas.{forth-area}
use Rattle.grammar.proofs.Ashes.{forth-cloud, forth-eruption}
use Rattle.grammar.proofs.Endings.{level-first, forth-level, forth-ending}
use Rattle.grammar.proofs.Forms.{forth-test, forth-cancellation}
use Rattle.grammar.proofs.Invariant.{OpeningOk, LevelOk}
use Rattle.grammar.proofs.Observations.{observation-first, forth-observation}
use Rattle.grammar.proofs.Opening.{forth-line}
use Rattle.grammar.proofs.Extents.{extent-first, forth-extent}
use Rattle.grammar.proofs.Weather.{forth-weather}

-- The words of a report, from the phenomenon on.

-- what stands in front of some words: a first word, and the others
ahead : (vs : List (List ℕ)) (w : List ℕ) (rest more : List (List ℕ)) → vs ≡ w ∷ rest → vs ++ more ≡ w ∷ (rest ++ more)
ahead vs w rest more e = ap (λ (us : List (List ℕ)). us ++ more) e

-- the phenomenon of either kind
forth-phenomenon : (o : ToArea) (n : ℕ) (v : Volcano) (w : List ℕ) (vs : List (List ℕ)) → good_phenomenon (kind_of o) n v ≡ true → is "(FZRA)" w ≡ false
    → walk (goes (at_form o)) (phenomenon_words n v ++ (w ∷ vs)) ≡ walk (goes (at_observation (record { before = o; phenomenon = n; volcano = v }))) (w ∷ vs)
forth-phenomenon o n v w vs g f =
    phenomenon-cases (kind_of o) n v g
    (λ k b e. forth-weather o n v w vs k b e f)
    (λ k c e. rw (c, empty-volcano-is v e) (forth-cloud o (w ∷ vs) k))
    (λ k c e. rw c (forth-eruption v e o (w ∷ vs) k))

-- a whole report
forth-report : (l : ToLevel) (e : Ending) (f : Extent) → LevelOk l → good_ending (kind_of (area_of l)) e f ≡ true
    → walk (goes (at_form (area_of l))) (report_words (end_time l) (area_of l).area.closing (report_of l e f).report ++ (equals_sign ∷ [])) ≡ done (report_of l e f)
unfolding report_words
forth-report l e f k g =
    let q : ToLocation = l.before in
    let ob : ToObservation = q.before in
    let p : ToPhenomenon = ob.before in
    let closing : ℕ = (area_of l).area.closing in
    let phen : List (List ℕ) = phenomenon_words p.phenomenon p.volcano in
    let obs : List (List ℕ) = observation_words ob.observation in
    let ext : List (List ℕ) = extent_words closing q.extent in
    let lev : List (List ℕ) = level_words l.level in
    let end : List (List ℕ) = ending_words (end_time l) closing e f ++ (equals_sign ∷ []) in
    let of = observation-first ob.observation k.before.before.observation in
    let xf = extent-first closing q.extent k.before.extent in
    let lf = level-first l.level k.level in
    let regroup : (phen ++ (obs ++ (ext ++ (lev ++ ending_words (end_time l) closing e f)))) ++ (equals_sign ∷ []) ≡ phen ++ (obs ++ (ext ++ (lev ++ end))) = simp append_assoc in
    let one : walk (goes (at_form (area_of l))) (phen ++ (obs ++ (ext ++ (lev ++ end)))) ≡ walk (goes (at_observation p)) (obs ++ (ext ++ (lev ++ end))) =
    rw (ahead obs of.0 of.1 (ext ++ (lev ++ end)) of.2) (forth-phenomenon p.before p.phenomenon p.volcano of.0 (of.1 ++ (ext ++ (lev ++ end))) k.before.before.before.phenomenon of.3)
    in
    let two : walk (goes (at_observation p)) (obs ++ (ext ++ (lev ++ end))) ≡ walk (goes (at_place (in_report ob) at_location)) (ext ++ (lev ++ end)) =
    rw (ahead ext xf.0 xf.1 (lev ++ end) xf.2) (forth-observation p ob.observation xf.0 (xf.1 ++ (lev ++ end)) k.before.before.observation xf.3)
    in
    let three : walk (goes (at_place (in_report ob) at_location)) (ext ++ (lev ++ end)) ≡ walk (goes (at_level q)) (lev ++ end) =
    rw (ahead lev lf.0 lf.1 end lf.2) (forth-extent (in_report ob) q.extent lf.0 (lf.1 ++ end) k.before.extent lf.3)
    in
    ap (walk (goes (at_form (area_of l)))) regroup
    ∙ (one ∙ (two ∙ (three ∙ (forth-level q l.level end k.level ∙ forth-ending forth-extent l e f k g))))

-- the forms
forth-form : (o : ToArea) (report : Report) (f : Form) → OpeningOk o → good_form (kind_of o) o.line report f ≡ true
    → walk (goes (at_form o)) (form_words (formed o f report) f ++ (equals_sign ∷ [])) ≡ done (formed o f report)
unfolding good_form form_words
forth-form o report NoForm k g = clash false g refl
forth-form o report (Test n) k g = rw (empty-report-is report (both_right (between 1 3 n) _ g)) (forth-test o n (both_left _ _ g))
forth-form o report (Cancellation s from) k g =
    rw (empty-report-is report (both_right (good_cancellation o.line s from) _ g)) (forth-cancellation o s from k.line (both_left _ _ g))
forth-form o report Reported k g =
    let parts = report-parts (kind_of o) report g in
    forth-report
    (record { before = record { before = record { before = record { before = o; phenomenon = report.phenomenon; volcano = report.volcano }; observation = report.observation }; extent = report.extent }; level = report.level })
    report.ending
    report.forecast
    (record {
      before = record {
        before = record { before = record { before = k; phenomenon = parts.phenomenon }; observation = parts.observation };
        extent = parts.extent;
      };
      level = parts.level;
    })
    parts.ending

-- Theorem b: the words of every good record are accepted as that record.
pub good-accepted : (r : Record) → good r ≡ true → walk (goes at_designator) (message_words r) ≡ done r
unfolding words_of body_words
good-accepted r g =
    let parts = good-parts r g in
    let body : List (List ℕ) = form_words r r.form ++ (equals_sign ∷ []) in
    let regroup : (heading_words r.heading ++ (line_words r.line ++ (area_words r.area ++ form_words r r.form))) ++ (equals_sign ∷ []) ≡ heading_words r.heading ++ (line_words r.line ++ (area_words r.area ++ body)) = simp append_assoc in
    ap (walk (goes at_designator)) regroup
    ∙ (forth-line r.heading r.line (area_words r.area ++ body) parts.heading parts.line
    ∙ (forth-area r.heading r.line r.area body parts.area
    ∙ forth-form (record { heading = r.heading; line = r.line; area = r.area }) r.report r.form (record { heading = parts.heading; line = parts.line; area = parts.area }) parts.form))

-- A pen that moves and moves again: what it has put is both, on the same page. Each is a law of a place and a page, told of a pen.
use mathlib.Core.List.{List, [], ◌∷◌, ◌++◌}
use mathlib.Core.Path.{◌≡◌, refl, ◌∙◌}
use Prim.Native.Nat.{ℕ}
use Rattle.figures.specs.Codes.{FixedWord, spell_code}
use Rattle.pens.specs.Pens.{Words}
use Rattle.pens.proofs.PenLaws as on-page
use Rattle.writer_sections.specs.declared.pen.Pen.{Pen}
use Rattle.writer_sections.specs.Moves.{Moved}

pub no_words : {p : Pen} → Moved (Words []) p p
no_words = record { says = on-page.no_words; same_page = refl }

pub and_then : {a b : List (List ℕ)} {p q r : Pen} → Moved (Words a) p q → Moved (Words b) q r → Moved (Words (a ++ b)) p r
and_then f g = record { says = on-page.and_then f.says g.says; same_page = g.same_page ∙ f.same_page }

-- a word by another name
pub renamed : {v w : List ℕ} {p q : Pen} → v ≡ w → Moved (Words (v ∷ [])) p q → Moved (Words (w ∷ [])) p q
renamed e f = rw e at f

-- a fixed word by its code
pub fixed : {k : List ℕ} {code : ℕ} {p q : Pen} → FixedWord k code → Moved (Words (spell_code code ∷ [])) p q → Moved (Words (k ∷ [])) p q
fixed w f = renamed w.spelled f

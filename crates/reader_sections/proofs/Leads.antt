-- One section after another.
use mathlib.Core.List.{List}
use mathlib.Core.Path.{◌≡◌, refl, ap, sym, ◌∙◌}
use Prim.Native.Nat.{ℕ}
use Rattle.std.specs.Prelude.{Result, Ok, Err}
use Rattle.message.specs.declared.Record.{Record}
use Rattle.grammar.specs.Bulletins.{acceptance, refusal}
use Rattle.grammar.specs.declared.Reply.{Reply}
use Rattle.grammar.specs.Reads.{reply_of}
use Rattle.grammar.specs.Runs.{run_at}
use Rattle.grammar.specs.States.{State}
use Rattle.reader_sections.specs.declared.step.Refused.{Refused}
use Rattle.reader_sections.specs.declared.step.Step.{Step}
use Rattle.reader_sections.specs.Parts.{part_number}
use Rattle.reader_sections.specs.Steps.{Before, reply_on, Reaches, Ends, Leads, Moves, Concludes, Replies}
use Rattle.reader_sections.proofs.RunsAt.{skip}

pub here : {s : State} {p : Step} → Reaches s p s p
here = record { says = refl }

module _ {s mid : State} {from at : Step} (g : Reaches s from mid at) where
  pub then : {next : State} {to : Step} → Reaches mid at next to → Reaches s from next to
  then h = record { says = g.says ∙ h.says }

  pub then-ends : {e : Refused} → Ends mid at e → Ends s from e
  then-ends h = record { says = g.says ∙ h.says }

  pub then-concludes : {A : Type 0} {v : A} {whole : A → Record} → reply_on mid at ≡ acceptance (whole v) → Concludes s from (Ok v) whole
  then-concludes h = record { says = g.says ∙ h }

  pub then-replies : {r : Reply} → Replies mid at r → Replies s from r
  then-replies h = record { says = g.says ∙ h.says }

  pub then-leads : {A : Type 0} {r : Result (A × Step) Refused} {next : A → State} → Leads mid at r next → Leads s from r next
  then-leads {A = A} {r} {next} = go r
    where
      go : (r : Result (A × Step) Refused) → Leads mid at r next → Leads s from r next
      go (Ok v) h = record { says = then h.says }
      go (Err e) h = record { says = then-ends h.says }

  pub then-moves : {r : Result Step Refused} {next : State} → Moves mid at r next → Moves s from r next
  then-moves {r = r} {next} = go r
    where
      go : (r : Result Step Refused) → Moves mid at r next → Moves s from r next
      go (Ok v) h = record { says = then h.says }
      go (Err e) h = record { says = then-ends h.says }

-- what `?` hands on
module _ {s : State} {from : Step} {e : Refused} (h : Ends s from e) where
  pub leads-err : {A : Type 0} {r : Result (A × Step) Refused} {next : A → State} → r ≡ Err e → Leads s from r next
  leads-err is = record { says = rw is h }

  pub moves-err : {r : Result Step Refused} {next : State} → r ≡ Err e → Moves s from r next
  moves-err is = record { says = rw is h }

  pub concludes-err : {A : Type 0} {r : Result A Refused} {whole : A → Record} → r ≡ Err e → Concludes s from r whole
  concludes-err is = record { says = rw is h }

  pub replies-err : {r : Reply} → r ≡ refusal (part_number e.part) e.place e.length → Replies s from r
  replies-err is = record { says = h.says ∙ sym is }

pub accepts : {s : State} {from : Step} {m : Record} {r : Reply} → reply_on s from ≡ acceptance m → r ≡ acceptance m → Replies s from r
accepts h is = record { says = h ∙ sym is }

-- what a section that led to a step says
pub led : {A : Type 0} {s : State} {from : Step} {r : Result (A × Step) Refused} {next : A → State} {v : A} {p : Step} → r ≡ Ok (v, p) → Leads s from r next → Reaches s from (next v) p
led is l = (rw is at l).says

-- the reply to a text is that from the step before its first word on
pub from-start : {s : State} {t : List ℕ} {start : Step} {r : Reply} → Before t 0 start → Replies s start r → r ≡ reply_of t (run_at s t 0)
from-start {s} {t} {start} b h =
    let begins : reply_of t (run_at s t 0) ≡ reply_on s start =
    ap (reply_of t) (skip s t 0 ∙ ap (run_at s t) (sym b.placed)) ∙ ap (λ (u : List ℕ). reply_of u (run_at s u start.place)) (sym b.text) in
    sym (begins ∙ h.says)

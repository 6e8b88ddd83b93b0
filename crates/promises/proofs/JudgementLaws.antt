-- The word that the reader refuses is judged as the paper says: what crate grammar has proved of words, said of the reader's replies.
use mathlib.Core.List.{List, ◌∷◌}
use mathlib.Core.Path.{◌≡◌}
use Prim.Native.Nat.{ℕ, ◌≤◌}
use native.Mathlib.Omega.{arith}
use Rattle.words.specs.Check.{check_of}
use Rattle.words.specs.Words.{Word, words_at, bytes_of}
use Rattle.words.proofs.Refusals.{check-small}
use Rattle.grammar.specs.Bulletins.{text_within}
use Rattle.grammar.specs.Judged.{JudgedAs, RefusedAt}
use Rattle.grammar.specs.Parts.{Marked, marked}
use Rattle.grammar.specs.Replies.{Replied}
use Rattle.grammar.specs.Replies.Replied.{unreadable, read_as, refused_with}
use Rattle.grammar.specs.declared.Reply.{Reply}
use Rattle.grammar.proofs.Theorems as grammar
use Rattle.roundtrips.specs.Trips.{MayRead}
use Rattle.promises.specs.Judgements.{GoesOn, NextRequired, Judgement, Judgements}
use Rattle.promises.proofs.Contracts.{demand-1}

next-required : (ws : List (List ℕ)) (part : ℕ) → JudgedAs ws part → NextRequired ws part
next-required ws part j =
    record {
      next = j.comes;
      required = λ left g. grammar.theorem-d-required ws part j g.message g.is_good g.seen left g.parts g.words;
    }

-- what may come next begins what is left of a message, and that message still has the required part
greatest : (ws : List (List ℕ)) (part : ℕ) → NextRequired ws part → JudgedAs ws part
greatest ws part n =
    record {
      comes = n.next;
      greatest =
          λ other c.
          let left : List Marked = marked other c.word ∷ c.rest in
          let on : GoesOn ws left = record { message = c.message; is_good = c.is_good; seen = c.before; parts = c.parts; words = c.words } in
          let has = n.required left on in
          grammar.none-later ws part other c has.0 has.1;
    }

judged : (ws : List Word) (number place long : ℕ) (r : RefusedAt ws number place long) → Judgement (bytes_of r.before) number
judged ws number place long r = record { twelve = grammar.theorem-d-twelve ws number place long r; required = next-required (bytes_of r.before) number r.judged }

pub says : (b : List ℕ) (p : Reply) → MayRead b p → Replied b p
says b p m = (demand-1.fixed b p).0 m

-- what is refused by 4 to 12 is a word
pub refused-word : (b : List ℕ) (p : Reply) → Replied b p → 4 ≤ p.number
    → ((check_of b).number ≡ 0) × RefusedAt (words_at (text_within b) 0) p.number p.place p.length
refused-word b p (unreadable k) h = absurd (let small : (check_of b).number ≤ 3 = (check-small b).number in omega arith)
refused-word b p (read_as c g w) h = absurd (omega arith)
refused-word b p (refused_with c low high r) h = (c, r)

pub judgements : Judgements
judgements =
    record {
      judged = judged;
      judged-reading =
          λ b p m h.
          let r : RefusedAt (words_at (text_within b) 0) p.number p.place p.length = (refused-word b p (says b p m) h).1 in
          (r, judged (words_at (text_within b) 0) p.number p.place p.length r);
      greatest-required = λ ws part. (next-required ws part, greatest ws part);
    }

-- Demand 3: "A post is turned away exactly for the causes numbered in our paper, and room freed by ended messages is used again." What a post
-- finds by the history of calls, and so its answer.
-- Believed.
use mathlib.Core.List.{List, Memᴰ, Nodup}
use Rattle.std.specs.Prelude.{◌≡◌, ℕ, ◌≤◌, ◌<◌, length}
use Rattle.message.specs.declared.Record.{Record}
use Rattle.places.specs.declared.Identity.{Identity}
use Rattle.board.specs.Boards.{place_count}
use Rattle.promises.specs.Calls.{History}
use Rattle.promises.specs.Accepted.{Reported, Cancelled, Known, last_clock}
use Rattle.promises.specs.Refusals.{InRange, Found, Answered}

-- in range, and no earlier than the last accepted post
pub record Timely (h : History) (clock : ℕ) : Type 0 where
  pub ranged : InRange clock
  pub no-earlier : last_clock h ≤ clock

-- 64 accepted identities, reported or cancelled, have not ended; `Memᴰ i is`: i stands in the list
pub record Full (h : History) (clock : ℕ) : Type 0 where
  pub identities : List Identity
  pub count : length identities ≡ place_count
  pub each-once : Nodup identities
  pub known : (i : Identity) → Memᴰ i identities → Known i h
  pub lasting : (i : Identity) → Memᴰ i identities → clock < i.end

-- what a post at the clock finds: marked is what an accepted cancellation names, and held what was reported and accepted, by any of its
-- corrections; no history leads to a bad board
abbrev pub found_after : History → ℕ → Found
found_after h clock =
    record {
      bad = ⊥;
      clock = last_clock h;
      marked = λ i. Cancelled i h;
      held = λ i c. Reported i c h;
      full = Full h clock;
    }

-- the answer to a post of the record at the clock, after the history
abbrev pub PostAnswered : History → ℕ → Record → ℕ → Type 0
PostAnswered h clock r = Answered (found_after h clock) clock r

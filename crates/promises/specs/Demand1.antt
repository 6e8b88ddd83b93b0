-- The customer's first demand: "Every input of bytes, every record and every clock reading gets a definite reply. A bad bulletin is refused by
-- a number and the place our paper fixes for it. A refused call alters neither the board nor the buffer it was lent."
-- Of the calls that a user makes; specs/Functions.antt has every public function.
-- Believed.
use Rattle.std.specs.Prelude.{false, List, ◌↔◌, ◌≡◌, ℕ}
use Rattle.message.specs.declared.Record.{Record}
use Rattle.grammar.specs.Replies.{Replied}
use Rattle.grammar.specs.declared.Reply.{Reply}
use Rattle.pens.specs.declared.Written.{Written}
use Rattle.roundtrips.specs.Trips.{MayRead, MayWrite, Outcome}
use Rattle.board.specs.Boards.{good_board}
use Rattle.board.specs.declared.Board.{Board}
use Rattle.promises.specs.Calls.{MayBegin, MayPost, MayList}

pub record Demand1 : Type 0 where
  -- "Every input of bytes, every record and every clock reading gets a definite reply": one, …
  pub reading : (bulletin : List ℕ) → (p : Reply) × MayRead bulletin p
  pub writing : (r : Record) (buffer : List ℕ) → (w : Written) × (after : List ℕ) × MayWrite r buffer w after
  pub beginning : (b : Board) × MayBegin b
  pub posting : (b : Board) (clock : ℕ) (r : Record) → (answer : ℕ) × (after : Board) × MayPost b clock r answer after
  pub listing : (b : Board) (time : ℕ) (buffer : List ℕ) → (answer : ℕ) × (count : ℕ) × (after : List ℕ) × MayList b time buffer answer count after
  -- … and no other
  pub one-reading : (bulletin : List ℕ) (p q : Reply) → MayRead bulletin p → MayRead bulletin q → p ≡ q
  pub one-writing : (r : Record) (buffer x y : List ℕ) (w v : Written) → MayWrite r buffer w x → MayWrite r buffer v y → (w ≡ v) × (x ≡ y)
  pub one-beginning : (b c : Board) → MayBegin b → MayBegin c → b ≡ c
  pub one-posting : (b x y : Board) (clock : ℕ) (r : Record) (m n : ℕ) → MayPost b clock r m x → MayPost b clock r n y → (m ≡ n) × (x ≡ y)
  pub one-listing : (b : Board) (time : ℕ) (buffer x y : List ℕ) (m n j k : ℕ) → MayList b time buffer m j x → MayList b time buffer n k y
      → (m ≡ n) × (j ≡ k) × (x ≡ y)
  -- "A bad bulletin is refused by a number and the place our paper fixes for it"; 02, CR 4: "Every reader refusal shall also give a length":
  -- `Replied` says them, 4 to 12 without any machine, 1 to 3 as `check_of` finds them
  pub fixed : (bulletin : List ℕ) (p : Reply) → MayRead bulletin p ↔ Replied bulletin p
  -- 13, 14 or the whole text; and 36 exactly for a board that is not good (16, 17 and the rest are demand 3's)
  pub written : (r : Record) (buffer after : List ℕ) (w : Written) → MayWrite r buffer w after → Outcome r buffer w.number w.count after
  pub bad-board-post : (b after : Board) (clock : ℕ) (r : Record) (answer : ℕ) → MayPost b clock r answer after → (answer ≡ 36) ↔ (good_board b ≡ false)
  pub bad-board-list : (b : Board) (time : ℕ) (buffer after : List ℕ) (answer count : ℕ) → MayList b time buffer answer count after
      → (answer ≡ 36) ↔ (good_board b ≡ false)
  -- "A refused call alters neither the board nor the buffer it was lent."
  pub refused-writing : (r : Record) (buffer after : List ℕ) (w : Written) → MayWrite r buffer w after → (w.number ≡ 0 → ⊥)
      → (w.count ≡ 0) × (after ≡ buffer)
  pub refused_post : (b after : Board) (clock : ℕ) (r : Record) (answer : ℕ) → MayPost b clock r answer after → (answer ≡ 0 → ⊥) → after ≡ b
  pub refused-listing : (b : Board) (time : ℕ) (buffer after : List ℕ) (answer count : ℕ) → MayList b time buffer answer count after
      → (answer ≡ 0 → ⊥) → (count ≡ 0) × (after ≡ buffer)

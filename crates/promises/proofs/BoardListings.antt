-- What a listing answers on any board: what is shown is what its places have in force.
use mathlib.Core.Bool.{true, false}
use mathlib.Core.List.{List}
use mathlib.Core.Logic.{◌↔◌}
use mathlib.Core.Path.{◌≡◌, refl, sym, subst}
use Prim.Native.Nat.{ℕ}
use native.Mathlib.Omega.{arith}
use Rattle.lists.specs.Choice.{both}
use Rattle.lists.proofs.Choice.{by, clash, both_left, both_right, either-cases}
use Rattle.lists.proofs.Lists.{all-at}
use Rattle.figures.specs.Letters.{good_letters}
use Rattle.headings.specs.Headings.{good_type}
use Rattle.places.specs.Padded.{held_sequence}
use Rattle.places.specs.Places.{no_place, empty_place, held_identity, held_correction, held_place, good_place}
use Rattle.places.specs.declared.Place.{Place}
use Rattle.places.proofs.HeldLaws.{identity-parts, ends_some}
use Rattle.board.specs.Boards.{good_board}
use Rattle.board.specs.declared.Board.{Board}
use Rattle.board.proofs.Invariant.{board-parts}
use Rattle.pens.specs.Outcomes.{Wrote}
use Rattle.listing.specs.Rows.{in_force, rows_of}
use Rattle.listing.specs.Answers.{list_of}
use Rattle.promises.specs.Calls.{MayList}
use Rattle.promises.specs.AnyBoard.{Shown, IsListingOn, ListAnsweredOn, ListsOnAnyBoard}
use Rattle.promises.proofs.Held.{On}
use Rattle.promises.proofs.OrderLaws.{formed}
use Rattle.promises.proofs.Listing.{in-force-is, AllFormed, one-rows, board-rows, one_end, list-ends}
use Rattle.promises.proofs.Histories.{lists-so, may-list}

held-formed : (clock : ℕ) (p : Place) → good_place clock p ≡ true → empty_place p ≡ false → formed p.identity ≡ true
unfolding good_place held_place
held-formed clock p t some =
    let held : held_place clock p ≡ true = either-cases (empty_place p) (held_place clock p) t (λ e. clash (empty_place p) e some) (λ h. h) in
    let parts = identity-parts clock p.identity (both_left (held_identity clock p.identity) (held_correction p.marked p.correction) held) in
    both_right (good_type p.identity.kind) (both (good_letters 4 p.identity.area) (held_sequence p.identity.sequence)) parts.formed

module _ (b : Board) (time : ℕ) where
  shown-forced : (p : Place) → Shown b time p → in_force time p ≡ true
  shown-forced p s = (in-force-is time p).1 (s.unmarked, s.begun, s.lasting)

  module _ (g : good_board b ≡ true) where
    shown-on : (p : Place) → Shown b time p → On b.places p
    shown-on p s =
        record { at = s.at; within = omega (arith, s.within, (board-parts b g).long); there = s.there; some = ends_some p (omega (arith, s.lasting)) }

    forced-shown : (p : Place) → On b.places p → in_force time p ≡ true → Shown b time p
    forced-shown p o f =
        let k = (in-force-is time p).0 f in
        record { at = o.at; within = omega (arith, o.within, (board-parts b g).long); there = o.there; unmarked = k.0; begun = k.1; lasting = k.2 }

    shown-formed : AllFormed (Shown b time)
    shown-formed p s =
        let o = shown-on p s in
        held-formed b.clock p (rw o.there at (all-at (good_place b.clock) b.places no_place (board-parts b g).places o.at o.within)) o.some

    rows-shown : IsListingOn b time (rows_of time b.places)
    rows-shown = board-rows shown-formed time b g forced-shown shown-on shown-forced

  module _ (buffer : List ℕ) where
    abbrev Ends : Wrote → Type 0
    Ends x = ListAnsweredOn b time buffer x.number x.count x.buffer

    listed : Ends (list_of b time buffer)
    listed = list-ends b (λ f. f) (λ f. f) refl shown-formed (λ g l. rows-shown g)

    only : (x : Wrote) → Ends x → x ≡ list_of b time buffer
    only x a = one_end (λ n. by (good_board b) (λ g. shown-formed g) (λ f. absurd (n f))) x (list_of b time buffer) a listed

    lists : (answer count : ℕ) (after : List ℕ) → MayList b time buffer answer count after ↔ ListAnsweredOn b time buffer answer count after
    lists answer count after = (
      λ m. subst Ends (sym (lists-so m)) listed,
      λ a.
          subst (λ (x : Wrote). MayList b time buffer x.number x.count x.buffer) (sym (only (record { number = answer; count = count; buffer = after }) a))
          (may-list b time buffer),
    )

pub any-listing : ListsOnAnyBoard
any-listing =
    record {
      lists = lists;
      some-rows = λ b time g. (rows_of time b.places, rows-shown b time g);
      one-rows = λ b time g xs ys. one-rows (shown-formed b time g);
    }

-- 01, the refusals of the board by name: "Post: 36 not a good board; 16 clock outside its range; 17 clock before the board's; 13; 15 a test;
-- 18 no start; 19 no end, or no start of a target; 20 end at or before the clock; 22 a report whose identity is marked; 21 a report held with
-- the same or a later correction, or a cancellation whose target is marked; 23 a new place needed and all 64 in use after the dropping".
-- Internal contract.
use Rattle.std.specs.Prelude.{ℕ, Result, Ok, Err}
use Rattle.places.specs.declared.refusals.Refusal.{Refusal}
use Rattle.places.specs.declared.refusals.Refusal.TheVariants.{BadRecord, Test, ClockOutOfRange, ClockGoesBack, NoStart, NoEnd, Ended, Held, Marked, Full, BadBoard}

abbrev pub number_of : Refusal → ℕ
number_of BadRecord = 13
number_of Test = 15
number_of ClockOutOfRange = 16
number_of ClockGoesBack = 17
number_of NoStart = 18
number_of NoEnd = 19
number_of Ended = 20
number_of Held = 21
number_of Marked = 22
number_of Full = 23
number_of BadBoard = 36

-- what is answered where something is found or refused: the refusal's number, or 0
abbrev pub answer_of : {A : Type 0} → Result A Refusal → ℕ
answer_of (Ok x) = 0
answer_of (Err e) = number_of e

-- `month_of` meets its contract: the day parts the table.
use mathlib.Core.Path.{refl}
use Prim.Native.Nat.{◌-◌, ◌≤◌}
use lib.Dec.{leb}
use Rattle.std.proofs.lemmas.List.Sorted.{IsPartitionPoint-from_clause}
use Rattle.calendar.specs.Gregorian.{month_length, Falls}
use Rattle.calendar.specs.declared.table.TheConstants.{FIRST_DAYS}
use Rattle.calendar.proofs.TableLaws.{parted, last-begun}
use borrow.Author.Rules.{rules}
use Rattle.calendar.proofs.months.month_of.Goals as goal

begun : (c : goal.After-partition_point) → (1 ≤ c.partition_point.result) × Falls c.args.day (c.partition_point.result - 1)
unfolding month_length
begun c =
    last-begun FIRST_DAYS refl c.args.day refl c.requires _ c.partition_point.ensures.bound
    (IsPartitionPoint-from_clause (λ n. leb n c.args.day) FIRST_DAYS _ c.partition_point.ensures.partitioned (parted FIRST_DAYS refl c.args.day) (λ a r q k. search rules))

pub overflow_sub-result : goal.overflow_sub-result
overflow_sub-result c = (begun c).0

pub returns : goal.returns
returns c = (begun c).1

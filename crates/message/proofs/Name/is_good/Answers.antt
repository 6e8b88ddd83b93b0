-- `Name::is_good` meets its contract.
use mathlib.Core.Bool.{Bool}
use mathlib.Core.Path.{◌≡◌, ◌∙◌}
use Prim.Native.Nat.{ℕ, ◌≤◌}
use lib.ListN.{length, take, drop}
use borrow.Author.Rules.{rules}
use borrow.Author.Tests.{le-leb, tests}
use Rattle.std.proofs.lemmas.Iterator.{YieldsList-from_slice}
use Rattle.std.proofs.lemmas.Iterator.Search.{all_from_yields_List}
use Rattle.std.specs.List.{list_all}
use Rattle.lists.specs.Choice.{both}
use Rattle.lists.proofs.Library.{all-list}
use Rattle.names.specs.Names.{name_text}
use Rattle.message.specs.Limits.{name_bytes}
use Rattle.message.specs.Names.{zero_byte, good_name}
use Rattle.message.specs.declared.Name.{Name}
use Rattle.message.proofs.Name.is_good.Goals as goal

-- a name of a fitting length is good by what stands behind it, and by its text
fitting : (mountain : Bool) (limit : ℕ) (n : Name) → 1 ≤ n.count → n.count ≤ limit → length n.bytes ≡ name_bytes → (zeros : Bool)
    → zeros ≡ list_all zero_byte (drop n.count n.bytes)
    → good_name mountain limit n ≡ both zeros (name_text mountain (take n.count n.bytes))
unfolding good_name
fitting mountain limit n some fits long zeros told = rw (le-leb 1 n.count some, le-leb n.count limit fits, long, all-list zero_byte (drop n.count n.bytes), told)

pub returns-then-all : goal.returns-then-all
returns-then-all c =
    let n = c.args.self.now in
    let zeros : c.all.result ≡ list_all zero_byte c.split_at.result.1.now = all_from_yields_List zero_byte _ _ c.all.result c.all.ensures.ran (YieldsList-from_slice c.split_at.result.1.now cc) (λ x b q k. search (rules, tests)) in
    let long : length n.bytes ≡ name_bytes = search rules in
    rw (fitting c.args.mountain c.args.limit n c.if-count-lt1.false c.if-limit-count.false long c.all.result (zeros ∙ rw c.split_at.ensures.back), c.if-all.true, c.name_text.ensures, c.split_at.ensures.front)

pub returns-else-all : goal.returns-else-all
returns-else-all c =
    let n = c.args.self.now in
    let zeros : c.all.result ≡ list_all zero_byte c.split_at.result.1.now = all_from_yields_List zero_byte _ _ c.all.result c.all.ensures.ran (YieldsList-from_slice c.split_at.result.1.now cc) (λ x b q k. search (rules, tests)) in
    let long : length n.bytes ≡ name_bytes = search rules in
    rw (fitting c.args.mountain c.args.limit n c.if-count-lt1.false c.if-limit-count.false long c.all.result (zeros ∙ rw c.split_at.ensures.back), c.if-all.false)

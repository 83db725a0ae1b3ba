use Rattle.std.proofs.Common.{◌≡◌, ◌-◌, ◌++◌, []}
use Rattle.std.specs.List.{filter_map}
use Rattle.oct_tree.specs.Tree.{value_at}
use Rattle.oct_query.specs.Listed.{shown}
use Rattle.oct_query.specs.Paths.{IsPathOf}
use Rattle.oct_query.proofs.RowSteps.{planes}
use Rattle.oct_query.proofs.listing.list.Given as goal

abbrev pub invariant-loop-x : goal.invariant-loop-x
invariant-loop-x l =
    IsPathOf l.tree l.path
    × (l.found ≡ [] ++ filter_map (shown (value_at l.tree))
    (planes l.depth l.initial.x (l.x - l.initial.x) l.ys.from (l.ys.to - l.ys.from) l.zs.from
    (l.zs.to - l.zs.from)))

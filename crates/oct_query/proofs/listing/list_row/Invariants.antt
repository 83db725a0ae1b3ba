use Rattle.std.proofs.Common.{◌≡◌, ◌-◌, ◌++◌}
use Rattle.std.specs.List.{filter_map}
use Rattle.oct_tree.specs.Tree.{value_at}
use Rattle.oct_query.specs.Listed.{shown}
use Rattle.oct_query.specs.Paths.{IsPathOf}
use Rattle.oct_query.specs.Rows.{row_blocks}
use Rattle.oct_query.proofs.listing.list_row.Given as goal

abbrev pub invariant-loop-z : goal.invariant-loop-z
invariant-loop-z l =
    IsPathOf l.tree l.path
    × (l.found ≡ l.initial.found ++ filter_map (shown (value_at l.tree))
    (row_blocks l.depth l.x l.y l.fn.zs.from (l.z - l.fn.zs.from)))

use Rattle.std.proofs.Common.{◌≡◌, ◌-◌, ◌++◌}
use Rattle.std.specs.List.{filter_map}
use Rattle.oct_tree.specs.Tree.{value_at}
use Rattle.oct_query.specs.Listed.{shown}
use Rattle.oct_query.specs.Paths.{IsPathOf}
use Rattle.oct_query.specs.Rows.{plane_blocks}
use Rattle.oct_query.proofs.listing.list_plane.Given as goal

abbrev pub invariant-loop-y : goal.invariant-loop-y
invariant-loop-y l =
    IsPathOf l.tree l.path
    × (l.found ≡ l.initial.found ++ filter_map (shown (value_at l.tree))
    (plane_blocks l.depth l.x l.fn.ys.from (l.y - l.fn.ys.from) l.fn.zs.from
    (l.fn.zs.to - l.fn.zs.from)))

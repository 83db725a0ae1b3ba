use Rattle.std.proofs.Common.{◌≡◌, ◌++◌, ◌-◌, ◌+◌}
use Rattle.oct_key.specs.CubeOf.{cube_of}
use Rattle.oct_tree.specs.Tree.{value_at}
use Rattle.oct_query.specs.Leaves.{those_sought}
use Rattle.oct_query.proofs.LeafWalks.{first_leaves}
use Rattle.oct_query.proofs.leaf_list.+push_leaves.Given as goal

abbrev pub decreases-push_leaves : goal.decreases-push_leaves
decreases-push_leaves l = 16 - l.block.depth

abbrev pub invariant-loop-i : goal.invariant-loop-i
invariant-loop-i l = record {
  listed : l.found
      ≡ l.fn.found
      ++ those_sought l.tree.odds l.sought
      (first_leaves (value_at l.tree) (16 - (l.block.depth + 1)) (cube_of l.block) l.i);
}

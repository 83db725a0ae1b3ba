use Rattle.std.proofs.Common.{◌-◌}
use Rattle.oct_key.specs.CubeOf.{cube_of}
use Rattle.oct_tree.specs.Tree.{value_at}
use Rattle.oct_query.proofs.LeafWalks.{IsOneFirst}
use Rattle.oct_query.proofs.leaf_list.+one_value.Given as goal

abbrev pub decreases-one_value : goal.decreases-one_value
decreases-one_value l = 16 - l.block.depth

abbrev pub invariant-loop-i : goal.invariant-loop-i
invariant-loop-i l = record {
  one : IsOneFirst (value_at l.tree) (cube_of l.block) l.i l.first;
}

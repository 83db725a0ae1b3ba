use Rattle.std.proofs.Common.{◌-◌, ◌≤◌}
use Rattle.oct_tree.specs.Tree.{node_in}
use Rattle.oct_edit.proofs.Chains.{IsChain}
use Rattle.oct_edit.proofs.voxel.touch_under.Given as goal

abbrev pub invariant-loop-level : goal.invariant-loop-level
invariant-loop-level l = record {
  low : l.fn.end.depth ≤ l.level;
  high : l.level ≤ 16;
  chain : IsChain l.fn.tree l.tree l.fn.edit.k l.fn.edit.event l.fn.edit.lazy (node_in l.fn.tree
      l.fn.end.p) l.over
      l.fn.end.depth l.q l.level;
}

abbrev pub decreases-loop-level : goal.decreases-loop-level
decreases-loop-level l = 16 - l.level

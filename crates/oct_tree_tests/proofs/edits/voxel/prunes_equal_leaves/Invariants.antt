use Rattle.oct_tree.specs.Shape.{IsWellFormed}
use Rattle.oct_tree_tests.proofs.edits.voxel.prunes_equal_leaves.Given as goal

abbrev pub invariant-loop-want : goal.invariant-loop-want
invariant-loop-want g l = IsWellFormed l.tree

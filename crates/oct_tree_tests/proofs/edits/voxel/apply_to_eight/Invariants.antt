use Rattle.oct_tree.specs.Shape.{IsWellFormed}
use Rattle.oct_tree_tests.proofs.edits.voxel.apply_to_eight.Given as goal

abbrev pub invariant-loop-k : goal.invariant-loop-k
invariant-loop-k g l = IsWellFormed l.tree

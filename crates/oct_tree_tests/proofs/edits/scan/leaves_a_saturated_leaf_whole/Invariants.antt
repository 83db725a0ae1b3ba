use Rattle.oct_tree.specs.Shape.{IsWellFormed}
use Rattle.oct_tree_tests.proofs.edits.scan.leaves_a_saturated_leaf_whole.Given as goal

abbrev pub invariant-loop : goal.invariant-loop
invariant-loop g l = IsWellFormed l.tree

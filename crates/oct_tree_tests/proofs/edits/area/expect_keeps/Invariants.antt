use Rattle.oct_tree.specs.Shape.{IsWellFormed}
use Rattle.oct_tree_tests.proofs.edits.area.expect_keeps.Given as goal

abbrev pub invariant-loop-row : goal.invariant-loop-row
invariant-loop-row g l = IsWellFormed l.tree

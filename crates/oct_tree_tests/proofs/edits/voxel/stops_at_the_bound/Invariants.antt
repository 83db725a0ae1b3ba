use Rattle.oct_tree.specs.Shape.{IsWellFormed}
use Rattle.oct_tree_tests.proofs.edits.voxel.stops_at_the_bound.Given as goal

abbrev pub invariant-loop-event : goal.invariant-loop-event
invariant-loop-event g l = IsWellFormed l.tree

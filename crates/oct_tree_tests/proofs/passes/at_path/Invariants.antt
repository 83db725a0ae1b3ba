use Rattle.oct_tree.specs.Tree.{IsPlace}
use Rattle.oct_tree_tests.proofs.passes.at_path.Given as goal

abbrev pub invariant-loop-i : goal.invariant-loop-i
invariant-loop-i l = IsPlace l.tree l.p

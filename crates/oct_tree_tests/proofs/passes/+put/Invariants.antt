use Rattle.std.proofs.Common.{length}
use Rattle.oct_tree_tests.proofs.passes.+put.Given as goal

abbrev pub decreases-put : goal.decreases-put
decreases-put l = length l.path.now

use Rattle.std.proofs.Common.{refl}
use Rattle.oct_tree.proofs.Paths.{unknown_world}
use Rattle.oct_tree.proofs.tree.OccTree.new.Goals as goal

pub returns-clause-unknown : goal.returns-clause-unknown
returns-clause-unknown c k = unknown_world _ refl k

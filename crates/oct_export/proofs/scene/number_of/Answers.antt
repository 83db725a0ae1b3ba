use Rattle.std.proofs.Common.{arith}
use Rattle.oct_key.specs.Block.{index_in_parent}
use Rattle.oct_export.proofs.scene.number_of.Goals as goal

pub returns-clause-exact : goal.returns-clause-exact
unfolding index_in_parent
returns-clause-exact c = omega arith

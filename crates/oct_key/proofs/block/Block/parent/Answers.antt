use Rattle.oct_key.specs.Block.{parent_of}
use Rattle.oct_key.specs.CubeOf.{cube_of}
use Rattle.oct_key.proofs.Blocks.{child_of_parent}
use Rattle.oct_key.proofs.block.Block.parent.Goals as goal

pub returns-clause-child : goal.returns-clause-child
unfolding parent_of
returns-clause-child c = child_of_parent (cube_of c.args.self.now) c.requires

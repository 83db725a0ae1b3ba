use Rattle.std.proofs.Common.{arith}
use Rattle.oct_key.specs.CubeOf.{cube_of}
use Rattle.oct_key.proofs.Blocks.{block_in_map}
use Rattle.oct_frontier.proofs.Steps.{around_child, around_as}
use Rattle.oct_frontier.proofs.patch.Patch.child.Goals as goal

pub returns-clause-patch : goal.returns-clause-patch
returns-clause-patch c =
    around_as c.args.tree.now _ _ _ _ _ _ _ _ _ _
    (around_child c.args.tree.now (cube_of c.args.self.now.block) c.args.i c.args.self.now.here
    c.args.self.now.x
    c.args.self.now.y c.args.self.now.z (block_in_map c.args.self.now.block) c.requires.depth
    (omega arith) c.requires.patch)
    c.child.ensures.exact c.child_node.ensures c.on_x.ensures c.on_y.ensures c.on_z.ensures

use Rattle.oct_key.specs.CubeOf.{cube_of}
use Rattle.oct_key.proofs.Blocks.{block_in_map}
use Rattle.oct_query.proofs.Over.{IsAnswer, answered}
use Rattle.oct_query.proofs.depths.query.Goals as goal

is_answer : (c : goal.After-stored) → IsAnswer c.args.tree.now (cube_of c.args.b) c.stored.result
is_answer c =
    answered c.args.tree.now (cube_of c.args.b) c.lowest_voxel.result c.node_over.result
    c.stored.result c.node_over.ensures.linked (block_in_map c.args.b) c.lowest_voxel.ensures.exact
    c.node_over.ensures.exact c.stored.ensures.exact

pub returns-clause-node : goal.returns-clause-node
returns-clause-node c = (is_answer c).node

pub returns-clause-fresh : goal.returns-clause-fresh
returns-clause-fresh c = (is_answer c).fresh

pub returns-clause-voxel : goal.returns-clause-voxel
returns-clause-voxel c = (is_answer c).voxel

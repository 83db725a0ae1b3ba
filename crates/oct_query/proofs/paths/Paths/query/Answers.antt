use Rattle.std.proofs.Common.{rules}
use Rattle.oct_key.specs.CubeOf.{cube_of}
use Rattle.oct_key.proofs.Blocks.{block_in_map}
use Rattle.oct_query.proofs.Over.{IsAnswer, answered}
use Rattle.oct_query.proofs.paths.Paths.query.Goals as goal

is_answer : (c : goal.After-stored) → IsAnswer c.args.tree.now (cube_of c.args.b) c.stored.result
is_answer c =
    answered c.args.tree.now (cube_of c.args.b) c.lowest_voxel-k.result c.go.result
    c.stored.result (search rules) (block_in_map c.args.b) c.lowest_voxel-k.ensures.exact
    c.go.ensures.node c.stored.ensures.exact

pub returns-clause-node : goal.returns-clause-node
returns-clause-node c = (is_answer c).node

pub returns-clause-fresh : goal.returns-clause-fresh
returns-clause-fresh c = (is_answer c).fresh

pub returns-clause-voxel : goal.returns-clause-voxel
returns-clause-voxel c = (is_answer c).voxel

use Rattle.oct_key.specs.CubeOf.{cube_of}
use Rattle.oct_map.proofs.Gets.{asked_right}
use Rattle.oct_map.proofs.map.OccMap.get_by.Goals as goal

pub returns-clause-answer : goal.returns-clause-answer
returns-clause-answer c =
    asked_right c.args.self.now c.tree.result.now c.args.p c.args.depth
    (cube_of c.in_ok-block.block) c.query.result c.tree.ensures.exact c.tree.ensures.map
    c.in_ok-block.ensures.ok c.query.ensures.fresh c.query.ensures.voxel

use Rattle.oct_key.specs.CubeOf.{cube_of}
use Rattle.oct_key.proofs.Blocks.{block_in_map}
use Rattle.oct_edit.proofs.Areas.{outside_meets, inside_meets}
use Rattle.oct_edit.proofs.area.Area.meets.Goals as goal

pub returns-then-self : goal.returns-then-self
returns-then-self c =
    outside_meets c.args.self.now (cube_of c.args.block) c.covers.result
    (block_in_map c.args.block) c.if-self.true c.covers.ensures

pub returns-else-self : goal.returns-else-self
returns-else-self c =
    inside_meets c.args.self.now (cube_of c.args.block) c.meets.result c.if-self.false
    c.meets.ensures

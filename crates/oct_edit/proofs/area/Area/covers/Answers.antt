use Rattle.oct_key.specs.CubeOf.{cube_of}
use Rattle.oct_edit.proofs.Areas.{outside_covers, inside_covers}
use Rattle.oct_edit.proofs.area.Area.covers.Goals as goal

pub returns-then-self : goal.returns-then-self
returns-then-self c =
    outside_covers c.args.self.now (cube_of c.args.block) c.meets.result c.if-self.true
    c.meets.ensures

pub returns-else-self : goal.returns-else-self
returns-else-self c =
    inside_covers c.args.self.now (cube_of c.args.block) c.covers.result c.if-self.false
    c.covers.ensures

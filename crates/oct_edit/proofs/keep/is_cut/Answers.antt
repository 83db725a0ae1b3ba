use Rattle.oct_key.specs.CubeOf.{cube_of}
use Rattle.oct_key.proofs.Blocks.{block_in_map}
use Rattle.oct_edit.proofs.Keeps.{cut_where, uncut_where}
use Rattle.oct_edit.proofs.keep.is_cut.Goals as goal

pub returns-then-meets : goal.returns-then-meets
returns-then-meets c =
    cut_where c.args.window.now.lo c.args.window.now.hi (cube_of c.args.block) c.covers.result
    (block_in_map c.args.block) (c.meets.ensures.0 c.if-meets.true) c.covers.ensures

pub returns-else-meets : goal.returns-else-meets
returns-else-meets c =
    uncut_where c.args.window.now.lo c.args.window.now.hi (cube_of c.args.block) c.meets.result
    (block_in_map c.args.block) c.if-meets.false c.meets.ensures

use Rattle.std.proofs.Common.{◌≡◌, ◌+◌, ◌∙◌, ap, arith}
use Rattle.oct_key.specs.Voxel.{Voxel}
use Rattle.oct_key.specs.CubeOf.{cube_of}
use Rattle.oct_key.proofs.Blocks.{block_in_map}
use Rattle.oct_values.specs.Boxes.{box_need}
use Rattle.oct_values.proofs.Boxes.{cut_exactly}
use Rattle.oct_edit.specs.Areas.{cut_in}
use Rattle.oct_edit.proofs.Clips.{clip_need}
use Rattle.oct_edit.proofs.keep.cuts_within.Goals as goal
use Rattle.oct_edit.proofs.keep.cuts_within.Goals.{After-box_need}

pub clipped-part-requires : goal.clipped-part-requires
clipped-part-requires c =
    ((cut_exactly c.args.window.now.lo c.args.window.now.hi (cube_of c.args.block)
    (block_in_map c.args.block)).0 c.requires).0

needed : (c : After-box_need) → c.box_need.result ≡ c.args.block.depth
    + cut_in c.args.window.now.lo c.args.window.now.hi (cube_of c.args.block)
needed c =
    c.box_need.ensures.exact
    ∙ ap (λ (a : Voxel). box_need a c.hi.result) c.lo.ensures
    ∙ ap (box_need c.clipped-part.result.lo) c.hi.ensures
    ∙ clip_need c.args.window.now c.clipped-part.result (cube_of c.args.block)
    (block_in_map c.args.block) c.clipped-part.ensures

pub overflow_sub-result : goal.overflow_sub-result
overflow_sub-result c =
    let all = needed (goal.at.overflow_sub-result c).After-box_need in
    let here = c.from.ensures in
    omega (arith, all, here)

pub returns : goal.returns
returns c =
    let all = needed (goal.at.returns c).After-box_need in
    let here = c.from.ensures in
    omega (arith, all, here)

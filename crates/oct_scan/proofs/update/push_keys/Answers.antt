use Rattle.std.proofs.Common.{◌<◌, ◌^◌, ◌∙◌, ap, sym, subst, arith, rules}
use Rattle.std.specs.Int.{w64, trailing_zeros}
use Rattle.oct_brick.specs.Voxels.{coded_voxel}
use Rattle.oct_scan.proofs.CodeLists.{voxel_is}
use Rattle.oct_scan.proofs.Settling.{key_taken, keys_done, placed_code, placed_below, place_below}
use Rattle.oct_scan.proofs.update.push_keys.Goals as goal

pub loop-left-preserved : goal.loop-left-preserved
loop-left-preserved c =
    let fits : c.loop-left.left < 2 ^ 64 = search rules in
    let some : 0 < c.loop-left.left = omega (arith, c.loop-left-test.true) in
    let same = placed_code c.args.code c.from.result (trailing_zeros w64 c.loop-left.left)
    c.requires c.from.ensures in
    let below = subst (λ n. n < 2 ^ 48) (sym same)
    (placed_below c.args.code (trailing_zeros w64 c.loop-left.left) c.requires
    (place_below c.loop-left.left some fits)) in
    key_taken c.loop-left.keys c.push.new.self c.args.keys.now c.args.code c.loop-left.left
    c.args.mask c.from_morton.result some fits c.in_ok-push.ensures.ok
    (voxel_is c.from_morton.result _ below c.from_morton.ensures.only ∙ ap coded_voxel same)
    c.loop-left.invariant

pub returns : goal.returns
returns c = keys_done c.loop-left.keys c.args.keys.now c.args.code c.loop-left.left c.args.mask
    c.loop-left-test.false c.loop-left.invariant

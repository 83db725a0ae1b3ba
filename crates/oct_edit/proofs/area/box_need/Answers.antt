use Rattle.std.proofs.Common.{◌≡◌, sym, ◌∙◌, ap, arith, rules}
use Rattle.oct_key.specs.Voxel.{IsInMap}
use Rattle.oct_values.specs.Boxes.{cut_at}
use Rattle.oct_values.proofs.Axes.{sum_below, sum_below_none, sum_below_next}
use Rattle.oct_values.proofs.Cuts.{need_by_depths}
use Rattle.oct_edit.proofs.area.box_need.Goals as goal

pub loop-depth-init : goal.loop-depth-init
loop-depth-init c = (sym (sum_below_none (cut_at c.args.lo c.args.hi)), omega arith)

pub loop-depth-preserved : goal.loop-depth-preserved
loop-depth-preserved c =
    let next = sum_below_next (cut_at c.args.lo c.args.hi) c.loop-depth.depth in
    let is = c.loop-depth.invariant in
    let sum = is.0 in
    let few = is.1 in
    let wide = c.from-need.ensures in
    let here = c.cut_at_depth.ensures.exact in
    let here_few = c.cut_at_depth.ensures.few in
    (omega (arith, next, sum, here, wide), omega (arith, few, here_few, wide))

pub returns : goal.returns
returns c =
    let v : IsInMap c.args.hi = search rules in
    let last : c.loop-depth.depth ≡ 16 = omega arith in
    let bound = c.loop-depth.invariant.1 in
    record {
      exact =
          c.loop-depth.invariant.0 ∙ ap (sum_below (cut_at c.args.lo c.args.hi)) last
          ∙ sym (need_by_depths c.args.lo c.args.hi c.requires v);
      few = omega (arith, last, bound);
    }

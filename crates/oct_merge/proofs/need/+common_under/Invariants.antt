use Rattle.std.proofs.Common.{◌≡◌, ◌+◌, ◌-◌, ◌*◌, ◌^◌, ◌≤◌, cond}
use Rattle.oct_key.specs.Block.{child_of}
use Rattle.oct_key.specs.CubeOf.{cube_of}
use Rattle.oct_values.proofs.Axes.{sum_below}
use Rattle.oct_merge.specs.Walk.{is_common, common_in}
use Rattle.oct_merge.proofs.need.+common_under.Given as goal

abbrev pub decreases-common_under : goal.decreases-common_under
decreases-common_under l = 16 - l.block.depth

abbrev pub invariant-loop-i : goal.invariant-loop-i
invariant-loop-i l = record {
  counted : l.common
      ≡ cond (is_common l.into l.other (cube_of l.block)) 1 0
      + sum_below (λ j. common_in l.into l.other (child_of (cube_of l.block) j)) l.i;
  few : l.common ≤ 1 + l.i * 9 ^ (15 - l.block.depth);
}

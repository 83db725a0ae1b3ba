use Rattle.std.proofs.Common.{◌≡◌, ◌-◌, ◌*◌, ◌^◌, ◌≤◌}
use Rattle.oct_key.specs.Block.{child_of}
use Rattle.oct_key.specs.CubeOf.{cube_of}
use Rattle.oct_values.proofs.Axes.{sum_below}
use Rattle.oct_edit.specs.Areas.{keep_need_in}
use Rattle.oct_edit.proofs.keep.+need_under.Given as goal

abbrev pub decreases-need_under : goal.decreases-need_under
decreases-need_under l = 16 - l.block.depth

abbrev pub invariant-loop-i : goal.invariant-loop-i
invariant-loop-i l = record {
  counted : l.need
      ≡ sum_below (λ j. keep_need_in l.tree l.window.lo l.window.hi (child_of (cube_of l.block) j))
      l.i;
  few : l.need ≤ l.i * 9 ^ 16;
}

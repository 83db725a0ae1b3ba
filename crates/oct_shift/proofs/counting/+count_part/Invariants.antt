use Rattle.std.proofs.Common.{◌≡◌, ℕ, ◌-◌, ◌*◌, ◌^◌, ◌<◌, ◌≤◌, ◌↔◌, IsTrue}
use Rattle.oct_key.specs.Block.{child_of, lowest_voxel}
use Rattle.oct_key.specs.CubeOf.{cube_of}
use Rattle.oct_values.proofs.Axes.{sum_below}
use Rattle.oct_shift.specs.Moving.{groups_in, moved_values}
use Rattle.oct_shift.proofs.counting.+count_part.Given as goal

abbrev pub decreases-count_part : goal.decreases-count_part
decreases-count_part l = 16 - l.block.depth

abbrev pub invariant-loop-i : goal.invariant-loop-i
invariant-loop-i l = record {
  counted : l.groups
      ≡ sum_below (λ j. groups_in (moved_values l.tree l.offset) (child_of (cube_of l.block) j))
      l.i;
  few : l.groups ≤ l.i * 9 ^ (15 - l.block.depth);
  even : IsTrue l.is_even ↔ ((j : ℕ) → j < l.i
      → moved_values l.tree l.offset (lowest_voxel (child_of (cube_of l.block) j))
      ≡ l.first.value);
  start : 1 ≤ l.i;
}

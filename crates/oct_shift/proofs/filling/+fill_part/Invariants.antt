use Rattle.std.proofs.Common.{◌≡◌, ◌+◌, ◌-◌}
use Rattle.oct_key.specs.Block.{child_of}
use Rattle.oct_key.specs.CubeOf.{cube_of}
use Rattle.oct_arena.specs.Entries.{spare}
use Rattle.oct_values.proofs.Axes.{sum_below}
use Rattle.oct_tree.specs.Filled.{IsFillingWith}
use Rattle.oct_shift.specs.Moving.{groups_in, moved_values}
use Rattle.oct_shift.proofs.filling.+fill_part.Given as goal

abbrev pub decreases-fill_part : goal.decreases-fill_part
decreases-fill_part l = 16 - l.block.depth

abbrev pub invariant-loop-i : goal.invariant-loop-i
invariant-loop-i l = record {
  part : IsFillingWith l.fn.moved l.moved l.p l.id (cube_of l.block) l.i
      (moved_values l.tree l.offset);
  room : spare l.fn.moved.groups ≡ spare l.moved.groups + 1
      + sum_below (λ j. groups_in (moved_values l.tree l.offset) (child_of (cube_of l.block) j))
      l.i;
  odds : l.moved.odds ≡ l.fn.moved.odds;
}

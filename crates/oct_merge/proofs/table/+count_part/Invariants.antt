use Rattle.std.proofs.Common.{◌≡◌, ℕ, ◌+◌, ◌-◌, ◌<◌, length, slice_index_or}
use Rattle.oct_key.specs.Block.{child_of}
use Rattle.oct_key.specs.CubeOf.{cube_of}
use Rattle.oct_values.specs.Classes.{classes_of}
use Rattle.oct_values.proofs.Axes.{sum_below}
use Rattle.oct_tree.specs.Tree.{value_at}
use Rattle.oct_merge.specs.Pairs.{pairs_in}
use Rattle.oct_merge.proofs.table.+count_part.Given as goal

abbrev pub decreases-count_part : goal.decreases-count_part
decreases-count_part l = 16 - l.block.depth

abbrev pub invariant-loop-i : goal.invariant-loop-i
invariant-loop-i l = record {
  counted : (n : ℕ) → n < 9
      → slice_index_or l.table.counts n 0 ≡ slice_index_or l.fn.table.counts n 0
      + sum_below
      (λ j. pairs_in l.fn.window.lo l.fn.window.hi (classes_of l.a.odds (value_at l.a))
      (classes_of l.b.odds (value_at l.b)) n (child_of (cube_of l.fn.block) j))
      l.i;
  long : length l.table.counts ≡ length l.fn.table.counts;
}

use Rattle.std.proofs.Common.{◌≡◌, ◌-◌, ◌++◌, ℕ, List, length}
use Rattle.oct_key.specs.CubeOf.{cube_of}
use Rattle.oct_bt.specs.Records.{Entries}
use Rattle.oct_join.specs.Sides.{IsSide, side_text}
use Rattle.oct_join.proofs.Counting.{IsCounting}
use Rattle.oct_join.proofs.table.+count_block.Given as goal

abbrev pub decreases-count_block : goal.decreases-count_block
decreases-count_block l = 16 - l.block.depth

abbrev pub invariant-loop-i : goal.invariant-loop-i
invariant-loop-i l = record {
  counted : (r s : Entries) (p q : List ℕ) → IsSide l.block.depth l.a r
      → l.first ≡ side_text l.a r ++ p → IsSide l.block.depth l.b s
      → l.second ≡ side_text l.b s ++ q
      → IsCounting l.window.lo l.window.hi (cube_of l.block) l.a l.b l.first l.second r s p q
      l.fn.table.counts l.table.counts l.at l.to l.left l.other l.i;
  long : length l.table.counts ≡ length l.fn.table.counts;
}

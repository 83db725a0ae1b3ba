use Rattle.std.proofs.Common.{◌≡◌, ◌-◌, Some, length}
use Rattle.oct_key.specs.Block.{Cube}
use Rattle.oct_tree.specs.Tree.{block_in, value_at}
use Rattle.oct_snap.proofs.Lengths.{IsAlikeSoFar}
use Rattle.oct_snap.proofs.Writes.{before}
use Rattle.oct_snap.proofs.counting.+count_at.Given as goal

abbrev pub decreases-count_at : goal.decreases-count_at
decreases-count_at l = 16 - l.depth

abbrev pub invariant-loop-i : goal.invariant-loop-i
invariant-loop-i l = record {
  alike : (b : Cube) → block_in l.tree l.fn.p ≡ Some b
      → IsAlikeSoFar (value_at l.tree) b l.first.common l.are_alike l.i;
  length : (b : Cube) → block_in l.tree l.fn.p ≡ Some b
      → l.bytes ≡ length (before (value_at l.tree) l.depth b l.i);
}

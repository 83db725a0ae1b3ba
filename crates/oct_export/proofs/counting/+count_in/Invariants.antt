use Rattle.std.proofs.Common.{◌≡◌, ◌-◌, ◌+◌, Some, length}
use Rattle.oct_key.specs.Block.{Cube}
use Rattle.oct_tree.specs.Tree.{block_in}
use Rattle.oct_tree.specs.Classes.{classes_in}
use Rattle.oct_export.proofs.Boxes.{first_full, first_boxes}
use Rattle.oct_export.proofs.counting.+count_in.Given as goal

abbrev pub decreases-count_in : goal.decreases-count_in
decreases-count_in l = 16 - l.depth

abbrev pub invariant-loop-i : goal.invariant-loop-i
invariant-loop-i l = record {
  full : (b : Cube) → block_in l.tree l.fn.p ≡ Some b
      → l.full ≡ first_full (classes_in l.tree) b l.i;
  boxes : (b : Cube) → block_in l.tree l.fn.p ≡ Some b
      → l.boxes ≡ length (first_boxes (classes_in l.tree) (16 - (b.depth + 1)) b l.i);
}

use Rattle.std.proofs.Common.{◌≡◌, ◌-◌, ◌++◌, ℕ, List, Some}
use Rattle.oct_key.specs.Block.{Cube}
use Rattle.oct_tree.specs.Tree.{block_in, IsLinked}
use Rattle.oct_bt.specs.Records.{Entries, IsRecord, flat}
use Rattle.oct_bt.proofs.Fills.{IsUnderWay}
use Rattle.oct_bt.proofs.filling.+fill_block.Given as goal

abbrev pub decreases-fill_block : goal.decreases-fill_block
decreases-fill_block l = 16 - l.depth

abbrev pub invariant-loop-i : goal.invariant-loop-i
invariant-loop-i l = record {
  under : (r : Entries) (tail : List ℕ) (b : Cube) → IsRecord l.depth r → l.codes ≡ flat r ++ tail
      → block_in l.fn.tree l.fn.p ≡ Some b
      → IsUnderWay l.fn.tree l.tree l.fn.p l.id b l.depth l.codes l.next l.rest l.i r tail;
  linked : IsLinked l.tree;
}

use Rattle.std.proofs.Common.{◌≡◌, ◌-◌, length, Some, All}
use Rattle.oct_key.specs.Block.{Cube}
use Rattle.oct_tree.specs.Tree.{block_in}
use Rattle.oct_brick.specs.Bricks.{IsBrick, AreAscending}
use Rattle.oct_edit.specs.Bricks.{listed, AreAlike}
use Rattle.oct_edit.proofs.UnderWay.{IsUnderWay}
use Rattle.oct_edit.proofs.scan.+touch_within.Given as goal

abbrev pub decreases-touch_within : goal.decreases-touch_within
decreases-touch_within l = 16 - l.depth

abbrev pub invariant-loop-i : goal.invariant-loop-i
invariant-loop-i l = record {
  way : (b : Cube) → block_in l.fn.tree l.fn.p ≡ Some b
      → IsUnderWay l.initial.tree l.tree l.fn.p b (listed l.fn.update) (listed l.rest) l.fn.lazy;
  bricks : All IsBrick l.rest.bricks.now;
  ascend : AreAscending l.rest.bricks.now;
  alike : AreAlike l.depth l.rest.bricks.now;
}

abbrev pub decreases-loop-i : goal.decreases-loop-i
decreases-loop-i l = length l.rest.bricks.now

use Rattle.std.proofs.Common.{◌≡◌, Some, false}
use Rattle.oct_key.specs.Block.{Cube}
use Rattle.oct_tree.specs.Tree.{block_in}
use Rattle.oct_edit.specs.Bricks.{listed_one}
use Rattle.oct_edit.proofs.UnderWay.{IsUnderWay}
use Rattle.oct_edit.proofs.BrickParts.{IsRest}
use Rattle.oct_edit.proofs.scan.plant_brick.Given as goal

abbrev pub invariant-loop-rest : goal.invariant-loop-rest
invariant-loop-rest l = record {
  way : (b : Cube) → block_in l.fn.tree l.fn.p ≡ Some b
      → IsUnderWay l.initial.tree l.tree l.fn.p b (listed_one l.fn.update) (listed_one l.rest)
      false;
  rest : IsRest l.fn.update.brick l.rest.brick;
  freed : l.rest.brick.hits ≡ 0;
}

abbrev pub decreases-loop-rest : goal.decreases-loop-rest
decreases-loop-rest l = l.rest.brick.scanned

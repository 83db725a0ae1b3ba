use Rattle.std.proofs.Common.{◌≡◌, ◌-◌, ◌+◌, Some, drop}
use Rattle.std.specs.Prelude.{Ok}
use Rattle.oct_key.specs.Block.{Cube}
use Rattle.oct_tree.specs.Tree.{block_in, IsLinked}
use Rattle.oct_snap.specs.Nodes.{End}
use Rattle.oct_snap.specs.Reading.{Found, found, read_row, read_node}
use Rattle.oct_snap.proofs.NodeFills.{IsUnderWay}
use Rattle.oct_snap.proofs.filling.+fill_node.Given as goal

abbrev pub decreases-fill_node : goal.decreases-fill_node
decreases-fill_node l = 16 - l.depth

abbrev pub invariant-loop-i : goal.invariant-loop-i
invariant-loop-i l = record {
  under : (g : Found) (b : Cube)
      → read_row (read_node l.fn.tree.odds (16 - (l.depth + 1))) 8
      (found End (l.at + 1) (drop (l.at + 1) l.bytes)) ≡ Ok g
      → block_in l.fn.tree l.fn.p ≡ Some b
      → IsUnderWay l.fn.tree l.tree l.fn.p l.id b l.fn.tree.odds l.depth l.bytes l.next l.i g;
  linked : IsLinked l.tree;
}

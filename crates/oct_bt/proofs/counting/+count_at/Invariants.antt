use Rattle.std.proofs.Common.{◌≡◌, ◌-◌, Some}
use Rattle.oct_key.specs.Block.{Cube}
use Rattle.oct_tree.specs.Tree.{block_in}
use Rattle.oct_tree.specs.Classes.{classes_in}
use Rattle.oct_bt.proofs.Counts.{AreTallied}
use Rattle.oct_bt.proofs.Adding.{IsKindFrom}
use Rattle.oct_bt.proofs.counting.+count_at.Given as goal

abbrev pub decreases-count_at : goal.decreases-count_at
decreases-count_at l = 16 - l.depth

abbrev pub invariant-loop-done : goal.invariant-loop-done
invariant-loop-done l = (b : Cube) → block_in l.tree l.fn.p ≡ Some b
    → IsKindFrom (classes_in l.tree) b (8 - l.done) l.kind
    × AreTallied (classes_in l.tree) l.depth b l.done l.known l.records

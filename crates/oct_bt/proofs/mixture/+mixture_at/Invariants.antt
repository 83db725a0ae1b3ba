use Rattle.std.proofs.Common.{◌≡◌, ◌-◌, Some}
use Rattle.oct_key.specs.Block.{Cube}
use Rattle.oct_tree.specs.Tree.{block_in}
use Rattle.oct_tree.specs.Classes.{classes_in}
use Rattle.oct_bt.proofs.Mixtures.{ArePure}
use Rattle.oct_bt.proofs.mixture.+mixture_at.Given as goal

abbrev pub decreases-mixture_at : goal.decreases-mixture_at
decreases-mixture_at l = 16 - l.depth

abbrev pub invariant-loop-i : goal.invariant-loop-i
invariant-loop-i l = (b : Cube) → block_in l.tree l.fn.p ≡ Some b
    → ArePure (classes_in l.tree) b l.first l.i

use Rattle.std.proofs.Common.{◌≡◌, ◌-◌, ◌<◌, ℕ, Some}
use Rattle.oct_key.specs.Block.{Cube, child_of}
use Rattle.oct_tree.specs.Tree.{block_in, value_at}
use Rattle.oct_snap.specs.Texts.{common_value}
use Rattle.oct_snap.specs.Common.{value_of_common}
use Rattle.oct_snap.proofs.common.+common_at.Given as goal

abbrev pub decreases-common_at : goal.decreases-common_at
decreases-common_at l = 16 - l.depth

abbrev pub invariant-loop-i : goal.invariant-loop-i
invariant-loop-i l = (b : Cube) → block_in l.tree l.fn.p ≡ Some b → (j : ℕ) → j < l.i
    → common_value (value_at l.tree) (child_of b j) ≡ value_of_common l.first

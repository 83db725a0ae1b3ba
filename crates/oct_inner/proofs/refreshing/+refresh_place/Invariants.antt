use Rattle.std.proofs.Common.{◌≡◌, Some}
use Rattle.oct_key.specs.Block.{Cube}
use Rattle.oct_tree.specs.Tree.{block_in}
use Rattle.oct_inner.specs.Passes.{IsFreshAt, IsRefreshing}
use Rattle.oct_tree.proofs.Within.{height, IsPassing}
use Rattle.oct_inner.proofs.refreshing.+refresh_place.Given as goal

abbrev pub decreases-refresh_place : goal.decreases-refresh_place
decreases-refresh_place l = height (block_in l.tree.now l.p)

abbrev pub invariant-loop-i : goal.invariant-loop-i
invariant-loop-i l =
    (b : Cube) → block_in l.fn.tree l.p ≡ Some b
    → IsPassing IsFreshAt IsRefreshing l.fn.tree l.tree l.p b l.i

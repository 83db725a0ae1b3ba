use Rattle.std.proofs.Common.{◌≡◌}
use Rattle.oct_tree.specs.Tree.{reach}
use Rattle.oct_export.proofs.strip.patch_at.Given as goal

abbrev pub invariant-loop-depth : goal.invariant-loop-depth
invariant-loop-depth l = l.node ≡ reach l.tree l.depth l.k

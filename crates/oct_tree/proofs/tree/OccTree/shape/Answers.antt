use Rattle.std.proofs.Common.{subst}
use Rattle.oct_tree.specs.Tree.{IsLinked}
use Rattle.oct_tree.proofs.Shapes.{shaped}
use Rattle.oct_tree.proofs.tree.OccTree.shape.Goals as goal

pub returns-clause-shaped : goal.returns-clause-shaped
returns-clause-shaped c =
    shaped c.args.self.now (subst IsLinked c.self.view_is c.self.invariant.linked)

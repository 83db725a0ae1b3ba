use Rattle.std.proofs.Common.{subst, rules, ap, ◌∙◌}
use Rattle.std.proofs.lemmas.Int.{to_z-of_z}
use mir.Val.{SFits}
use mir.Syntax.{w32}
use Rattle.oct_tree.specs.Nodes.{inherited}
use Rattle.oct_tree.specs.Tree.{node_in}
use Rattle.oct_tree.specs.Changes.{IsSplit}
use Rattle.oct_tree.proofs.tree.OccTree.split.Goals as goal

pub returns-clause-split : goal.returns-clause-split
returns-clause-split c =
    let fits : SFits w32 c.inherited-value.result = search rules in
    subst (IsSplit c.args.self.now c.split_to.new.self c.args.p c.split_to.result)
    (to_z-of_z w32 c.inherited-value.result fits ∙ c.inherited-value.ensures
    ∙ ap inherited c.read.ensures ∙ ap (λ t. inherited (node_in t c.args.p)) c.self.view_is)
    c.split_to.ensures.split

use Rattle.std.proofs.Common.{◌∙◌}
use Rattle.std.proofs.lemmas.Result.{IfOk-weaker}
use Rattle.oct_tree.specs.Tree.{value_at}
use Rattle.oct_query.specs.Leaves.{leaves_met}
use Rattle.oct_query.proofs.LeafBoxes.{all_known}
use Rattle.oct_query.proofs.RowSteps.{on_failed}
use Rattle.oct_query.proofs.leaf_list.leaves_in.Goals as goal

pub returns-clause-exact : goal.returns-clause-exact
returns-clause-exact c =
    IfOk-weaker c.leaves_of_in.result _ _
    (λ list is. is ∙ all_known c.args.tree.now.odds
    (leaves_met (value_at c.args.tree.now) c.args.window.now.lo c.args.window.now.hi))
    c.leaves_of_in.ensures.exact

pub returns-clause-memory : goal.returns-clause-memory
returns-clause-memory c =
    on_failed c.leaves_of_in.result _ _ c.leaves_of_in.ensures.memory
    (λ some none. some (all_known c.args.tree.now.odds
    (leaves_met (value_at c.args.tree.now) c.args.window.now.lo c.args.window.now.hi) ∙ none))

use Rattle.std.proofs.Common.{◌∙◌, subst, sym}
use Rattle.std.proofs.lemmas.Result.{IfOk-weaker}
use Rattle.oct_tree.specs.Tree.{value_at}
use Rattle.oct_query.specs.Leaves.{IsLeafList, leaves_of}
use Rattle.oct_query.proofs.LeafBoxes.{all_known}
use Rattle.oct_query.proofs.LeafLists.{leaf_list}
use Rattle.oct_query.proofs.RowSteps.{on_failed}
use Rattle.oct_query.proofs.leaf_list.leaves.Goals as goal

pub returns-clause-exact : goal.returns-clause-exact
returns-clause-exact c =
    IfOk-weaker c.leaves_of.result _ _
    (λ list is. is ∙ all_known c.args.tree.now.odds (leaves_of (value_at c.args.tree.now)))
    c.leaves_of.ensures.exact

pub returns-clause-leaves : goal.returns-clause-leaves
returns-clause-leaves c =
    IfOk-weaker c.leaves_of.result _ _
    (λ list is. subst (IsLeafList (value_at c.args.tree.now))
    (sym (is ∙ all_known c.args.tree.now.odds (leaves_of (value_at c.args.tree.now))))
    (leaf_list (value_at c.args.tree.now))) c.leaves_of.ensures.exact

pub returns-clause-memory : goal.returns-clause-memory
returns-clause-memory c =
    on_failed c.leaves_of.result _ _ c.leaves_of.ensures.memory
    (λ some none. some (all_known c.args.tree.now.odds
    (leaves_of (value_at c.args.tree.now)) ∙ none))

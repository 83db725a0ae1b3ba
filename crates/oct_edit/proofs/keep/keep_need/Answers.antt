use Rattle.std.proofs.Common.{sym, subst, ◌∙◌, ap}
use Rattle.oct_key.specs.Boxes.{Window}
use Rattle.oct_key.specs.CubeOf.{cube_of}
use Rattle.oct_tree.specs.Tree.{IsOver}
use Rattle.oct_edit.specs.Areas.{keep_need_in}
use Rattle.oct_edit.proofs.Keeps.{keep_need_whole}
use Rattle.oct_edit.proofs.NodesOver.{over_root}
use Rattle.oct_edit.proofs.keep.keep_need.Goals as goal

pub need_under-requires-clause-node : goal.need_under-requires-clause-node
need_under-requires-clause-node c =
    subst (λ n. IsOver c.args.tree.now (cube_of c.whole_map.result) n) (sym c.root.ensures.exact)
    (subst (λ b. IsOver c.args.tree.now b c.args.tree.now.root) (sym c.whole_map.ensures)
    (over_root c.args.tree.now))

pub returns-clause-exact : goal.returns-clause-exact
returns-clause-exact c =
    c.need_under.ensures.exact
    ∙ ap (λ (w : Window). keep_need_in c.args.tree.now w.lo w.hi (cube_of c.whole_map.result))
    c.of.ensures
    ∙ ap (keep_need_in c.args.tree.now c.args.lo c.args.hi) c.whole_map.ensures
    ∙ keep_need_whole c.args.tree.now c.args.lo c.args.hi

use Rattle.std.proofs.Common.{refl}
use Rattle.oct_frontier.proofs.Steps.{around_as, around_whole}
use Rattle.oct_frontier.proofs.patch.Patch.whole.Goals as goal

pub returns-clause-patch : goal.returns-clause-patch
returns-clause-patch c =
    around_as c.args.tree.now _ _ _ _ _ _ _ _ _ _
    (around_whole c.args.tree.now _ _ _ _ c.root.ensures.linked c.root.ensures.exact
    (record {
      west = (_, refl);
      east = (_, refl);
      south = (_, refl);
      north = (_, refl);
      below = (_, refl);
      above = (_, refl);
    }))
    c.whole_map.ensures refl refl refl refl

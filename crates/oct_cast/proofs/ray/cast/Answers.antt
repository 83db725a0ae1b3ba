use Rattle.oct_values.specs.Classes.{classes_of}
use Rattle.oct_tree.specs.Tree.{value_at}
use Rattle.oct_cast.proofs.Firsts.{exact_along, right_along}
use Rattle.oct_cast.proofs.ray.cast.Goals as goal

pub returns-in-Inner-clause-exact : goal.returns-in-Inner-clause-exact
returns-in-Inner-clause-exact c =
    exact_along _ c.args.tree.now.res c.args.o c.args.e c.args.ignore_unknown
    (classes_of c.args.tree.now.odds (value_at c.args.tree.now)) _ _
    c.res.ensures c.new-walk.ensures.computed c.cast_below.ensures

pub returns-in-Inner-clause-right : goal.returns-in-Inner-clause-right
returns-in-Inner-clause-right c =
    right_along _ c.args.tree.now.res c.args.o c.args.e c.args.ignore_unknown
    (classes_of c.args.tree.now.odds (value_at c.args.tree.now)) _ _
    c.res.ensures c.new-walk.ensures.walk c.new-walk.ensures.computed
    (returns-in-Inner-clause-exact c)

pub returns-in_default : goal.returns-in_default
returns-in_default c =
    let exact = exact_along _ c.args.tree.now.res c.args.o c.args.e c.args.ignore_unknown
    (classes_of c.args.tree.now.odds (value_at c.args.tree.now)) _ _
    c.res.ensures c.new-walk.ensures.computed c.cast_alike.ensures in
    record {
      exact = exact;
      right = right_along _ c.args.tree.now.res c.args.o c.args.e c.args.ignore_unknown
          (classes_of c.args.tree.now.odds (value_at c.args.tree.now)) _ _
          c.res.ensures c.new-walk.ensures.walk c.new-walk.ensures.computed exact;
    }

use Rattle.std.proofs.Common.{sym, subst}
use Rattle.oct_cast.specs.Way.{IsFloor}
use Rattle.oct_cast.proofs.Ways.{over_passed, asked_at_end, passed_at_end}
use Rattle.oct_cast.proofs.ray.look_at.Goals as goal

pub returns-then-is_over-clause-asked : goal.returns-then-is_over-clause-asked
returns-then-is_over-clause-asked c = λ k coded. sym (over_passed c.args.tree.now
    c.args.ignore_unknown c.args.way.now k c.args.code c.requires.passed coded
    (c.is_over.ensures.0 c.if-is_over.true))

pub returns-clause-asked : goal.returns-clause-asked
returns-clause-asked c = λ k coded. asked_at_end c.args.tree.now c.args.ignore_unknown
    c.turn_to-node.new.self k c.turn_to-node.result c.value.result c.stop_at.result
    (subst (IsFloor c.args.tree.now c.args.ignore_unknown) (sym c.turn_to-node.ensures.floor)
    c.requires.passed.floor)
    (c.turn_to-node.ensures.leads k coded) (c.turn_to-node.ensures.node k coded)
    c.value.ensures.exact (c.stop_at.ensures k coded)

pub returns-clause-passed : goal.returns-clause-passed
returns-clause-passed c =
    let (k, coded) = c.requires.code in
    passed_at_end c.args.tree.now c.args.ignore_unknown c.turn_to-node.new.self k c.stop_at.result
    (subst (IsFloor c.args.tree.now c.args.ignore_unknown) (sym c.turn_to-node.ensures.floor)
    c.requires.passed.floor)
    (c.turn_to-node.ensures.leads k coded) (returns-clause-asked c k coded)

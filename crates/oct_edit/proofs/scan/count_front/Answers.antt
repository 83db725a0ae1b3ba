use Rattle.std.proofs.Common.{◌<◌, subst}
use Rattle.oct_edit.proofs.BrickFronts.{front_ends}
use Rattle.oct_edit.proofs.scan.count_front.Goals as goal

pub returns-then-child_index-i-clause-point : goal.returns-then-child_index-i-clause-point
returns-then-child_index-i-clause-point c =
    front_ends c.args.depth c.args.i c.front.count c.args.bricks.now _ c.front.invariant.1
    c.front-test.true c.requires.order
    (subst (λ n. c.args.i < n) c.child_index.ensures.exact c.if-child_index-i.true)

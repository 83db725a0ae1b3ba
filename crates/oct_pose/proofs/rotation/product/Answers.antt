use Rattle.std.proofs.Common.{rules, arith, ◌^◌}
use Rattle.std.proofs.lemmas.Int.{ints}
use Rattle.oct_pose.proofs.Bounds.{product_within}
use Rattle.oct_pose.proofs.rotation.product.Goals as goal

pub returns-clause-value : goal.returns-clause-value
returns-clause-value c = search rules

pub returns-clause-reach : goal.returns-clause-reach
returns-clause-reach c =
    rw (returns-clause-value c)
    (product_within c.args.a c.args.b (2 ^ 15) (2 ^ 15) (omega (arith, ints, c.ranges.a))
    (omega (arith, ints, c.ranges.b)))

use Rattle.std.proofs.Common.{rules, ◌≤◌, ◌*◌, ◌*ℤ◌, arith, ◌^◌}
use Rattle.std.specs.Prelude.{unsigned_abs}
use Rattle.oct_pose.proofs.Bounds.{product_within}
use Rattle.oct_pose.proofs.rotation.wide_product.Goals as goal

pub returns-clause-value : goal.returns-clause-value
returns-clause-value c = search rules

pub returns-clause-reach : goal.returns-clause-reach
returns-clause-reach c =
    let within : unsigned_abs (c.args.factor *ℤ c.args.coordinate) ≤ 2 ^ 32 * 10 ^ 16 =
    product_within c.args.factor c.args.coordinate (2 ^ 32) (10 ^ 16) c.requires.factor
    (omega (arith, c.requires.coordinate)) in
    rw (returns-clause-value c) (omega (arith, within))

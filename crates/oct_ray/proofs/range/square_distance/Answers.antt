use Rattle.std.proofs.Common.{arith, rules, ◌≡◌, ◌+◌, ◌*◌}
use Rattle.oct_ray.specs.Range.{square_distance}
use Rattle.oct_ray.proofs.range.square_distance.Goals as goal

pub overflow_add-result : goal.overflow_add-result
overflow_add-result c =
    let sum : c.from-x.result * c.from-x.result + c.from-y.result * c.from-y.result
    + c.from-z.result * c.from-z.result
    ≡ square_distance c.args.o c.args.e =
    search rules in
    omega (arith, sum, c.requires)

pub overflow_add-result-2 : goal.overflow_add-result-2
overflow_add-result-2 c =
    let sum : c.from-x.result * c.from-x.result + c.from-y.result * c.from-y.result
    + c.from-z.result * c.from-z.result
    ≡ square_distance c.args.o c.args.e =
    search rules in
    omega (arith, sum, c.requires)

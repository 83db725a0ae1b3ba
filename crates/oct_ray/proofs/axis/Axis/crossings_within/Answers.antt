use Rattle.std.proofs.Common.{arith, rules, ◌-◌}
use Rattle.std.proofs.Math.Nat.{div-le_self}
use Rattle.oct_ray.proofs.LaterAxes.{crossings_none, crossings_some}
use Rattle.oct_ray.proofs.axis.Axis.crossings_within.Goals as goal

pub overflow_add-most : goal.overflow_add-most
overflow_add-most c =
    omega (
      arith,
      c.requires.way,
      div-le_self (c.args.way - c.args.self.now.distance)
          c.args.self.now.edge,
    )

pub returns-then-way-self-clause-exact : goal.returns-then-way-self-clause-exact
returns-then-way-self-clause-exact c =
    crossings_none c.args.way c.args.self.now c.if-way-self.true

pub returns-clause-exact : goal.returns-clause-exact
returns-clause-exact c =
    rw (crossings_some c.args.way c.args.self.now c.if-way-self.false) (search rules)

use Rattle.std.proofs.Common.{◌/◌, arith}
use Rattle.oct_key.proofs.Interleavings.{gathered_below}
use Rattle.oct_ray.proofs.PlacedBits.{part_below}
use Rattle.oct_ray.proofs.placed.sum_of_parts.Goals as goal

pub overflow_add-result : goal.overflow_add-result
overflow_add-result c =
    let x = part_below c.x.inside c.x.invariant in
    let y = part_below c.y.inside c.y.invariant in
    omega (arith, x, y)

pub overflow_add-result-2 : goal.overflow_add-result-2
overflow_add-result-2 c =
    let x = part_below c.x.inside c.x.invariant in
    let y = part_below c.y.inside c.y.invariant in
    let z = part_below c.z.inside c.z.invariant in
    omega (arith, x, y, z)

pub returns-clause-in_map : goal.returns-clause-in_map
returns-clause-in_map c =
    rw (← c.x.view_is, ← c.y.view_is, ← c.z.view_is) (record {
      x = gathered_below 16 (c.x.inside.bits / c.x.inside.unit);
      y = gathered_below 16 (c.y.inside.bits / c.y.inside.unit);
      z = gathered_below 16 (c.z.inside.bits / c.z.inside.unit);
    })

use Rattle.std.proofs.Common.{◌<◌, ◌^◌, sym, subst, arith}
use Rattle.oct_key.proofs.Interleavings.{morton_below}
use Rattle.oct_key.proofs.Carries.{dilated_fits, code_of_bits, gathered_on_map}
use Rattle.oct_key.proofs.dilated.morton_of_axes.Goals as goal

pub overflow_add-result : goal.overflow_add-result
overflow_add-result c =
    let x = dilated_fits c.x.inside.bits c.x.invariant in
    let y = dilated_fits c.y.inside.bits c.y.invariant in
    omega (arith, x, y)

pub overflow_add-result-2 : goal.overflow_add-result-2
overflow_add-result-2 c =
    let x = dilated_fits c.x.inside.bits c.x.invariant in
    let y = dilated_fits c.y.inside.bits c.y.invariant in
    let z = dilated_fits c.z.inside.bits c.z.invariant in
    omega (arith, x, y, z)

pub returns-clause-exact : goal.returns-clause-exact
returns-clause-exact c =
    rw (← c.x.view_is, ← c.y.view_is, ← c.z.view_is)
    (code_of_bits c.x.inside.bits c.y.inside.bits c.z.inside.bits c.x.invariant c.y.invariant
    c.z.invariant)

pub returns-clause-in_map : goal.returns-clause-in_map
returns-clause-in_map c =
    rw (← c.x.view_is, ← c.y.view_is, ← c.z.view_is)
    (gathered_on_map c.x.inside.bits c.y.inside.bits c.z.inside.bits)

pub returns-clause-below : goal.returns-clause-below
returns-clause-below c = subst (λ n. n < 2 ^ 48) (sym (returns-clause-exact c)) (morton_below _)

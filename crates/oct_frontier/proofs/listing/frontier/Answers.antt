use Rattle.std.proofs.Common.{◌<◌, ◌-◌, length, refl, ap, subst, rules, arith}
use Rattle.oct_key.specs.CubeOf.{cube_of}
use Rattle.oct_frontier.specs.Found.{found_in}
use Rattle.oct_frontier.proofs.Exact.{count_is, right_of, refused_by_memory, not_none}
use Rattle.oct_frontier.proofs.listing.frontier.Goals as goal

pub list_all-requires-clause-count : goal.list_all-requires-clause-count
list_all-requires-clause-count c =
    let counted = c.in-Some.ensures.counted in
    let same = ap (λ b. length (found_in c.args.tree.now c.args.lo c.args.hi b))
    c.whole-whole.ensures.block in
    omega (arith, counted, same)

pub returns-in_default-clause-refused : goal.returns-in_default-clause-refused
returns-in_default-clause-refused c =
    subst (λ n. c.args.most < n)
    (count_is c.args.tree.now c.args.lo c.args.hi (cube_of c.whole-whole.result.block)
    c.whole-whole.ensures.block)
    (c.in_default.ensures.more refl)

pub returns-in_err-keys-clause-refused : goal.returns-in_err-keys-clause-refused
returns-in_err-keys-clause-refused c =
    let counted = c.in-Some.ensures.counted in
    let same = count_is c.args.tree.now c.args.lo c.args.hi (cube_of c.whole-whole.result.block)
    c.whole-whole.ensures.block in
    let some : 0 < c.args.most - c.in-Some.left =
    not_none _ c.list_all.result c.in_err-keys.was c.list_all.ensures.none in
    refused_by_memory c.from_residual.result _ c.args.most (search rules)
    (omega (arith, counted, same, some), omega (arith, counted, same))

pub returns-clause-right : goal.returns-clause-right
returns-clause-right c = right_of _ _ _ _ c.in_ok-keys.ensures.exact

pub returns-clause-few : goal.returns-clause-few
returns-clause-few c =
    let counted = c.in-Some.ensures.counted in
    let same = count_is c.args.tree.now c.args.lo c.args.hi (cube_of c.whole-whole.result.block)
    c.whole-whole.ensures.block in
    let listed = ap length c.in_ok-keys.ensures.exact in
    omega (arith, counted, same, listed)

use Rattle.std.proofs.Common.{rules}
use Rattle.oct_key.specs.Voxel.{IsInMap}
use Rattle.oct_key.proofs.Interleavings.{morton_of_sum, morton_below, digit_of_morton, same_prefix}
use Rattle.oct_key.proofs.morton_code.morton.Goals as goal

pub returns-clause-exact : goal.returns-clause-exact
returns-clause-exact c =
    morton_of_sum c.args.k _ _ _ c.spread_bits.ensures.exact c.spread_bits-2.ensures.exact
    c.spread_bits-3.ensures.exact c.spread_bits.ensures.below c.spread_bits-2.ensures.below
    c.spread_bits-3.ensures.below

pub returns-clause-below : goal.returns-clause-below
returns-clause-below c = rw (returns-clause-exact c) (morton_below c.args.k)

pub returns-clause-child : goal.returns-clause-child
returns-clause-child c = rw (returns-clause-exact c) (λ depth le. digit_of_morton depth c.args.k le)

pub returns-clause-block : goal.returns-clause-block
returns-clause-block c =
    let on_k : IsInMap c.args.k = record { x = search rules; y = search rules; z = search rules } in
    rw (returns-clause-exact c) (λ l on_l depth le. same_prefix depth c.args.k l le on_k on_l)

use Rattle.std.proofs.Common.{rules, ◌<◌, arith}
use Rattle.oct_key.proofs.Blocks.{quotient_below}
use Rattle.oct_query.proofs.listing.span_on.Goals as goal

pub returns-clause-below : goal.returns-clause-below
returns-clause-below c =
    let high : c.from-2.result < 65536 = search rules in
    let below = quotient_below c.args.depth c.from-2.result c.requires.levels high in
    omega (arith, below)

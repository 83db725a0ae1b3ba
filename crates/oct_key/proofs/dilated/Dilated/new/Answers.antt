use Rattle.std.proofs.Common.{◌<◌, rules}
use Rattle.oct_key.proofs.Carries.{dilated_is, is_dilated}
use Rattle.oct_key.proofs.dilated.Dilated.new.Goals as goal

pub invariant_of-result : goal.invariant_of-result
invariant_of-result c =
    let below : c.args.n < 65536 = search rules in
    is_dilated c.spread_bits.result c.args.n c.spread_bits.ensures.exact below

pub returns : goal.returns
returns c =
    let below : c.args.n < 65536 = search rules in
    dilated_is c.spread_bits.result c.args.n c.spread_bits.ensures.exact below

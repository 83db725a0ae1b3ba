use Rattle.std.proofs.Common.{◌∙◌, arith}
use Rattle.oct_brick.proofs.OctetCounts.{octets_counted, octets_few}
use Rattle.oct_brick.proofs.octets.count_octets.Goals as goal

pub returns-clause-exact : goal.returns-clause-exact
returns-clause-exact c = c.from.ensures ∙ octets_counted c.args.mask

pub returns-clause-few : goal.returns-clause-few
returns-clause-few c =
    omega (arith, c.from.ensures, octets_counted c.args.mask, octets_few 8 c.args.mask)

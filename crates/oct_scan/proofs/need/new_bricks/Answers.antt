use Rattle.std.proofs.Common.{arith}
use Rattle.oct_scan.proofs.BrickCounts.{levels_of_bricks}
use Rattle.oct_scan.proofs.Levels.{levels_few}
use Rattle.oct_scan.proofs.need.new_bricks.Goals as goal

pub returns-clause-exact : goal.returns-clause-exact
returns-clause-exact c =
    let levels = levels_of_bricks c.args.before c.args.code c.ilog2.result c.requires.apart
    c.requires.code c.ilog2.ensures.power_le c.ilog2.ensures.next_power_gt in
    omega (arith, c.from.ensures, levels)

pub returns-clause-few : goal.returns-clause-few
returns-clause-few c = omega
    (arith, returns-clause-exact c, levels_few 13 c.args.before c.args.code)

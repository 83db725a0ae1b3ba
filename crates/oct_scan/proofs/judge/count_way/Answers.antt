use Rattle.std.proofs.Common.{ap, length, arith}
use Rattle.oct_scan.proofs.judge.count_way.Goals as goal

pub loop-met-preserved : goal.loop-met-preserved
loop-met-preserved c =
    omega (arith, c.loop-met.invariant, ap length c.in-Some.ensures.next.first)

use Rattle.std.proofs.Common.{◌≡◌, ◌+◌, length}
use Rattle.oct_scan.proofs.judge.count_way.Given as goal

abbrev pub invariant-loop-met : goal.invariant-loop-met
invariant-loop-met l = l.met + length l.walk ≡ length l.fn.walk

abbrev pub decreases-loop-met : goal.decreases-loop-met
decreases-loop-met l = length l.walk

use Rattle.std.proofs.Common.{◌≡◌, length, Some}
use Rattle.oct_scan.specs.Gathered.{EndsAt, GoesTo, kept}
use Rattle.oct_scan.proofs.gather.come_in.Given as goal

abbrev pub invariant-loop-code : goal.invariant-loop-code
invariant-loop-code g l = record {
  ends : EndsAt l.end (g.W.BeamWalk.to_come l.walk);
  onward : GoesTo l.end (g.W.BeamWalk.to_come l.walk);
  same : kept (Some l.window) (g.W.BeamWalk.to_come l.walk)
      ≡ kept (Some l.window) (g.W.BeamWalk.to_come l.initial.walk);
}

abbrev pub decreases-loop-code : goal.decreases-loop-code
decreases-loop-code g l = length (g.W.BeamWalk.to_come l.walk)

use Rattle.std.proofs.Common.{◌≤◌}
use Rattle.oct_scan.specs.Answer.{MeetInAll}
use Rattle.oct_scan.specs.Beam.{origin_of, sighting_of}
use Rattle.oct_scan.proofs.Judging.{beams_to}
use Rattle.oct_scan.proofs.judge.count_met.Given as goal

abbrev pub invariant-loop-index : goal.invariant-loop-index
invariant-loop-index l = record {
  met : MeetInAll l.res (origin_of (sighting_of l.scan))
      (beams_to (sighting_of l.scan) l.point-items l.index) l.total;
  within : l.total ≤ l.most;
}

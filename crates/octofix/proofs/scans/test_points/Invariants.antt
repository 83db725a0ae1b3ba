-- No point so far is too far away.
use Rattle.std.proofs.Common.{◌≡◌, All, drop, map, take}
use Rattle.oct_pose.specs.Reach.{IsInReach}
use Rattle.octofix.specs.Points.{point_of}
use Rattle.octofix.specs.Sightings.{first_far}
use Rattle.octofix.proofs.scans.test_points.Given as goal

abbrev pub invariant-loop-index : goal.invariant-loop-index
invariant-loop-index l = record {
  left : first_far 0 l.points ≡ first_far l.index (drop l.index l.points);
  near : All IsInReach (map point_of (take l.index l.points));
}

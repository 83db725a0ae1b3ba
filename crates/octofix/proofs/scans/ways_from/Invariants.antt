-- The ways so far are those to the points.
use Rattle.std.proofs.Common.{◌≡◌, map, take}
use Rattle.octofix.specs.InMap.{way_from}
use Rattle.octofix.proofs.scans.ways_from.Given as goal

abbrev pub invariant-loop-point : goal.invariant-loop-point
invariant-loop-point l = l.ways.items ≡ map (way_from l.there) (take l.point-index l.points)

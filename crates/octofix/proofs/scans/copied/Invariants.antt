-- The points so far are those that were passed.
use Rattle.std.proofs.Common.{◌≡◌, map, take}
use Rattle.octofix.specs.Points.{point_of}
use Rattle.octofix.proofs.scans.copied.Given as goal

abbrev pub invariant-loop-place : goal.invariant-loop-place
invariant-loop-place l = l.list.items ≡ map point_of (take l.place-index l.points)

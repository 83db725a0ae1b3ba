use Rattle.std.proofs.Common.{ℕ, ◌↔◌, length, All, Some}
use Rattle.std.specs.List.{Contains}
use Rattle.oct_key.specs.Voxel.{Voxel, IsInMap}
use Rattle.oct_key.specs.Morton.{morton_of}
use Rattle.oct_brick.specs.Bricks.{IsBrick, hit_codes}
use Rattle.oct_scan.specs.Entry.{IsWay}
use Rattle.oct_scan.specs.Gathered.{IsCurrent, IsHeld, kept}
use Rattle.oct_scan.proofs.Holding.{IsOnWay}
use Rattle.oct_scan.proofs.gather.push_to_exit.Given as goal

abbrev pub invariant-loop-code : goal.invariant-loop-code
invariant-loop-code g l = record {
  way : (first end : Voxel) → IsWay first end (g.W.BeamWalk.to_come l.fn.walk)
      → IsWay first end (g.W.BeamWalk.to_come l.walk);
  bricks : All IsBrick l.bricks;
  current : IsCurrent l.brick;
  hits : (c : ℕ) → Contains (hit_codes l.bricks) c ↔ Contains (hit_codes l.initial.bricks) c;
  scanned : (first end : Voxel) → IsInMap end → IsWay first end (g.W.BeamWalk.to_come l.fn.walk)
      → IsOnWay (morton_of end) (IsHeld l.initial.bricks l.fn.brick)
      (kept (Some l.window) (g.W.BeamWalk.to_come l.fn.walk)) l.bricks l.brick
      (kept (Some l.window) (g.W.BeamWalk.to_come l.walk));
}

abbrev pub decreases-loop-code : goal.decreases-loop-code
decreases-loop-code g l = length (g.W.BeamWalk.to_come l.walk)

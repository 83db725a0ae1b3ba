use Rattle.std.proofs.Common.{◌≡◌, ℕ, ◌+◌, ◌≤◌, Some, All, take}
use Rattle.oct_key.specs.Voxel.{IsResolution, key_at}
use Rattle.oct_key.specs.declared.point.Point.{Point}
use Rattle.oct_scan.specs.Answer.{MeetAtMost}
use Rattle.oct_scan.specs.Beam.{bare, IsPlaced}
use Rattle.oct_scan.proofs.judge.bound_met.Given as goal

abbrev pub invariant-loop-beam : goal.invariant-loop-beam
invariant-loop-beam l = record {
  within : (edge : ℕ) (o : Point) → IsResolution edge → key_at edge o ≡ Some l.start
      → All (IsPlaced edge) l.beams → l.bound ≤ l.most
      → MeetAtMost edge o (take l.beam-index (bare l.beams)) l.bound;
  few : l.bound ≤ l.most + 1;
}

use Rattle.std.proofs.Common.{All}
use Rattle.std.specs.Prelude.{IsSome}
use Rattle.oct_key.specs.Voxel.{key_at}
use Rattle.oct_scan.specs.Beam.{sighting_of}
use Rattle.oct_scan.proofs.Judging.{beams_to}
use Rattle.oct_scan.proofs.judge.check_ends.Given as goal

abbrev pub invariant-loop-index : goal.invariant-loop-index
invariant-loop-index l =
    All (λ b. IsSome (key_at l.res b.end)) (beams_to (sighting_of l.scan) l.point-items l.index)

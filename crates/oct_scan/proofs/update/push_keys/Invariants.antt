use Rattle.std.proofs.Common.{◌≡◌, ◌++◌, map}
use Rattle.oct_brick.specs.Masks.{codes_of}
use Rattle.oct_brick.specs.Voxels.{coded_voxel}
use Rattle.oct_scan.proofs.update.push_keys.Given as goal

abbrev pub invariant-loop-left : goal.invariant-loop-left
invariant-loop-left l = l.keys ++ map coded_voxel (codes_of l.code l.left)
    ≡ l.initial.keys ++ map coded_voxel (codes_of l.code l.fn.mask)

abbrev pub decreases-loop-left : goal.decreases-loop-left
decreases-loop-left l = l.left

use Rattle.std.proofs.Common.{◌≡◌, take, map}
use Rattle.oct_brick.specs.Bricks.{hit_codes, freed_codes}
use Rattle.oct_brick.specs.Voxels.{coded_voxel}
use Rattle.oct_scan.proofs.update.list_voxels.Given as goal

abbrev pub invariant-loop-brick : goal.invariant-loop-brick
invariant-loop-brick l = record {
  hits : l.hits ≡ map coded_voxel (hit_codes (take l.brick-index l.bricks));
  frees : l.frees ≡ map coded_voxel (freed_codes (take l.brick-index l.bricks));
}

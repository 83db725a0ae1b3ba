-- The voxels that bricks change, as lists in the order of their Morton codes.
use Rattle.std.specs.Prelude.{ℕ, ◌/◌, List, map}
use Rattle.oct_key.specs.Voxel.{Voxel}
use Rattle.oct_key.specs.Morton.{gathered}
use Rattle.oct_brick.specs.declared.brick.Brick.{Brick}
use Rattle.oct_brick.specs.Bricks.{hit_codes, freed_codes}

-- the voxel of a Morton code
abbrev pub coded_voxel : ℕ → Voxel
coded_voxel code = record {
  x = gathered 16 code;
  y = gathered 16 (code / 2);
  z = gathered 16 (code / 4);
}

-- the voxels that bricks hit
abbrev pub hit_voxels : List Brick → List Voxel
hit_voxels bricks = map coded_voxel (hit_codes bricks)

-- the voxels that they change and don't hit
abbrev pub freed_voxels : List Brick → List Voxel
freed_voxels bricks = map coded_voxel (freed_codes bricks)

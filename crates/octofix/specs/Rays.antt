-- The voxels of a segment.
use Rattle.std.specs.Prelude.{ℕ, ℤ, unsigned_abs, List, map, Option, Some}
use Rattle.std.specs.Prelude.{None, Result, Ok, Err, if◌then◌else◌}
use Rattle.oct_key.specs.Voxel.{Voxel, key_at}
use Rattle.oct_key.specs.declared.point.Point.{Point}
use Rattle.oct_map.specs.declared.fault.MapFault.TheVariants.{Outside}
use Rattle.oct_ray.specs.Met.{met_by}
use Rattle.octofix.specs.Points.{key_told, point_of}
use Rattle.octofix.specs.Settings.{is_edge}
use Rattle.octofix.specs.declared.refusal.Refusal.{Refusal}
use Rattle.octofix.specs.declared.refusal.Refusal.TheVariants as refusal
use Rattle.octofix.specs.declared.types.PointNm.{PointNm}
use Rattle.octofix.specs.declared.types.VoxelKey.{VoxelKey}

-- these voxels, where both ends lie in the map
abbrev pub ray_of : Option Voxel → Option Voxel → List Voxel → Result (List VoxelKey) Refusal
ray_of None last voxels = Err (refusal.Map (Outside 1))
ray_of (Some first) None voxels = Err (refusal.Map (Outside 2))
ray_of (Some first) (Some last) voxels = Ok (map key_told voxels)

-- the voxels of the segment between two points, at an edge that a map may have
abbrev pub ray_at : ℕ → Point → Point → Result (List VoxelKey) Refusal
ray_at edge o e = ray_of (key_at edge o) (key_at edge e) (met_by edge o e)

-- the voxels of the segment between two points
abbrev pub ray_between : ℤ → PointNm → PointNm → Result (List VoxelKey) Refusal
ray_between res o e =
    if is_edge res then ray_at (unsigned_abs res) (point_of o) (point_of e)
    else Err refusal.BadResolution

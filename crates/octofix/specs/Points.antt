-- Points and voxels as C passes and reads them.
use Rattle.oct_key.specs.Boxes.{Window}
use Rattle.oct_key.specs.declared.point.Key.{Key}
use Rattle.oct_key.specs.declared.point.Point.{Point}
use Rattle.octofix.specs.declared.types.PointNm.{PointNm}
use Rattle.octofix.specs.declared.types.VoxelBox.{VoxelBox}
use Rattle.octofix.specs.declared.types.VoxelKey.{VoxelKey}

-- the same point
abbrev pub point_of : PointNm → Point
point_of p = record { x = p.x; y = p.y; z = p.z }

-- the same point, as C reads it
abbrev pub point_told : Point → PointNm
point_told p = record { x = p.x; y = p.y; z = p.z }

-- the same voxel
abbrev pub key_told : Key → VoxelKey
key_told k = record { x = k.x; y = k.y; z = k.z }

-- the same box
abbrev pub box_told : Window → VoxelBox
box_told corners = record { low = key_told corners.lo; high = key_told corners.hi }

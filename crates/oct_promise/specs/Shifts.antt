-- One world in two maps: a scan of a sensor that stands whole voxels elsewhere.
use Rattle.std.specs.Prelude.{◌≡◌, ℕ, ◌+ℤ◌}
use Rattle.oct_key.specs.Values.{Values}
use Rattle.oct_key.specs.Voxel.{Voxel, IsInMap, lower_face}
use Rattle.oct_key.specs.declared.point.Point.{Point}
use Rattle.oct_pose.specs.Posed.{moved}
use Rattle.oct_scan.specs.Beam.{Sighting}

-- this way leads from the lowest corner of the voxel k to that of the voxel l, so that it goes by
-- whole voxels
pub record LiesOff (edge : ℕ) (way : Point) (k l : Voxel) : Type 0 where
  pub x : lower_face edge l.x ≡ (way.x +ℤ lower_face edge k.x)
  pub y : lower_face edge l.y ≡ (way.y +ℤ lower_face edge k.y)
  pub z : lower_face edge l.z ≡ (way.z +ℤ lower_face edge k.z)

-- the scan of a sensor that stands this way off, and else sees the same
abbrev pub scan_moved : Point → Sighting → Sighting
scan_moved way scan = record scan { origin = moved way scan.origin }

-- the second map has in each voxel what the first one has where the way to it begins
abbrev pub IsMoved : ℕ → Point → Values → Values → Type 0
IsMoved edge way values others = (k l : Voxel) → IsInMap k → IsInMap l → LiesOff edge way k l
    → others l ≡ values k

-- Voxels: their numbers, and the space that each holds.
use Rattle.std.specs.Prelude.{ℕ, ◌<◌, ◌≤◌, ℤ, pos, negsuc, ◌+ℤ◌, ◌-ℤ◌, ◌*ℤ◌, ◌≤ℤ◌, ◌<ℤ◌, Option}
use Rattle.std.specs.Prelude.{Some, None, nat_lt, if◌then◌else◌}
use Rattle.std.specs.Int.{int_div_euclid}
use Rattle.oct_key.specs.declared.point.Point.{Point}
use Rattle.oct_key.specs.declared.point.Key.{Key}

-- a cube of space, by its number on each axis
abbrev pub Voxel : Type 0
Voxel = Key

-- the map has 65536 voxels on each axis
pub record IsInMap (k : Voxel) : Type 0 where
  pub x : k.x < 65536
  pub y : k.y < 65536
  pub z : k.z < 65536

-- a resolution is the edge of a voxel in nanometres, from 0.1 mm to 100 m
abbrev pub IsResolution : ℕ → Type 0
IsResolution edge = (100000 ≤ edge) × (edge ≤ 100000000000)

-- where the voxels of a number begin on an axis, in nanometres
abbrev pub lower_face : ℕ → ℕ → ℤ
lower_face edge key = (pos key -ℤ pos 32768) *ℤ pos edge

-- the voxels of a number hold a coordinate on an axis: with their lower face, without their upper
-- one
abbrev pub HoldsOnAxis : ℕ → ℕ → ℤ → Type 0
HoldsOnAxis edge key c = (lower_face edge key ≤ℤ c) × (c <ℤ (lower_face edge key +ℤ pos edge))

-- a voxel holds a point
pub record Holds (edge : ℕ) (k : Voxel) (p : Point) : Type 0 where
  pub x : HoldsOnAxis edge k.x p.x
  pub y : HoldsOnAxis edge k.y p.y
  pub z : HoldsOnAxis edge k.z p.z

-- a number from 0 to 65535, or none
abbrev pub in_range : ℤ → Option ℕ
in_range (pos n) = if nat_lt n 65536 then Some n else None
in_range (negsuc n) = None

-- the number of the voxels that hold a coordinate, in nanometres, or none outside the map
abbrev pub axis_key : ℕ → ℤ → Option ℕ
axis_key edge c = in_range (int_div_euclid c (pos edge) +ℤ pos 32768)

-- the voxel of these three numbers, where there are three
abbrev pub key_from : Option ℕ → Option ℕ → Option ℕ → Option Voxel
key_from (Some x) (Some y) (Some z) = Some (record { x = x; y = y; z = z })
key_from _ _ _ = None

-- the voxel that holds a point, or none outside the map
abbrev pub key_at : ℕ → Point → Option Voxel
key_at edge p = key_from (axis_key edge p.x) (axis_key edge p.y) (axis_key edge p.z)

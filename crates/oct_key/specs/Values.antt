-- A value for each voxel.
use Rattle.std.specs.Prelude.{◌≡◌, ℤ, Bool, ◌&&◌, nat_eq, Option}
use Rattle.oct_key.specs.Voxel.{Voxel, IsInMap}

-- a value for each voxel, or none where it is unknown
abbrev pub Values : Type 0
Values = Voxel → Option ℤ

-- two maps give each voxel the same value
abbrev pub SameValues : Values → Values → Type 0
SameValues v w = (k : Voxel) → IsInMap k → v k ≡ w k

-- whether the two are one voxel
abbrev pub is_same_voxel : Voxel → Voxel → Bool
is_same_voxel a b = nat_eq a.x b.x && nat_eq a.y b.y && nat_eq a.z b.z

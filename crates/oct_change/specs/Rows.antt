-- Parts of a box of voxels.
use Rattle.std.specs.Prelude.{◌≡◌, ℕ}
use Rattle.oct_key.specs.Voxel.{Voxel}
use Rattle.oct_key.specs.Boxes.{IsBetween}

-- the voxels of a row of the z axis, from a number to another
abbrev pub IsInRow : ℕ → ℕ → ℕ → ℕ → Voxel → Type 0
IsInRow x y low high k = (k.x ≡ x) × (k.y ≡ y) × IsBetween low high k.z

-- the voxels of a box that have this number on the x axis
abbrev pub IsInPlane : ℕ → Voxel → Voxel → Voxel → Type 0
IsInPlane x lo hi k = (k.x ≡ x) × IsBetween lo.y hi.y k.y × IsBetween lo.z hi.z k.z

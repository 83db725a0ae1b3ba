-- Boxes of voxels, each by its two corners.
use Rattle.std.specs.Prelude.{ℕ, ◌<◌, ◌≤◌, ◌+◌, ◌-◌, ◌*◌, Bool, true, ◌&&◌, nat_le, Option, Some}
use Rattle.std.specs.Prelude.{None, ⊤}
use Rattle.oct_key.specs.Voxel.{Voxel}
use Rattle.oct_key.specs.Block.{Cube, HoldsVoxel, side}

-- a number lies between two others, both included
abbrev pub IsBetween : ℕ → ℕ → ℕ → Type 0
IsBetween low high n = (low ≤ n) × (n ≤ high)

-- a voxel lies in the box of two corners: on each axis between them, both included
pub record IsInBox (lo hi k : Voxel) : Type 0 where
  pub x : IsBetween lo.x hi.x k.x
  pub y : IsBetween lo.y hi.y k.y
  pub z : IsBetween lo.z hi.z k.z

-- two voxels are the corners of a box: on no axis the first is beyond the second
pub record IsBox (lo hi : Voxel) : Type 0 where
  pub x : lo.x ≤ hi.x
  pub y : lo.y ≤ hi.y
  pub z : lo.z ≤ hi.z

-- whether two voxels are the corners of a box
abbrev pub is_box : Voxel → Voxel → Bool
is_box lo hi = nat_le lo.x hi.x && nat_le lo.y hi.y && nat_le lo.z hi.z

-- whether a number lies between two others
abbrev pub is_between : ℕ → ℕ → ℕ → Bool
is_between low high n = nat_le low n && nat_le n high

-- whether a voxel lies in a box
abbrev pub is_in_box : Voxel → Voxel → Voxel → Bool
is_in_box lo hi k = is_between lo.x hi.x k.x && is_between lo.y hi.y k.y && is_between lo.z hi.z k.z

-- a box of voxels, by its two corners
pub record Window : Type 0 where
  pub lo : Voxel
  pub hi : Voxel

-- a voxel lies in the box, or no box stands
abbrev pub IsInWindow : Option Window → Voxel → Type 0
IsInWindow None k = ⊤
IsInWindow (Some box) k = IsInBox box.lo box.hi k

-- whether a voxel lies in the box, or no box stands
abbrev pub is_in_window : Option Window → Voxel → Bool
is_in_window None k = true
is_in_window (Some box) k = is_in_box box.lo box.hi k

-- a block meets a box: some voxel of it lies in the box
abbrev pub MeetsBox : Voxel → Voxel → Cube → Type 0
MeetsBox lo hi b = (k : Voxel) × HoldsVoxel b k × IsInBox lo hi k

-- a block lies in a box: each voxel of it does
abbrev pub LiesInBox : Voxel → Voxel → Cube → Type 0
LiesInBox lo hi b = (k : Voxel) → HoldsVoxel b k → IsInBox lo hi k

-- how many voxels there are in the box of two corners
abbrev pub box_volume : Voxel → Voxel → ℕ
box_volume lo hi = (hi.x + 1 - lo.x) * ((hi.y + 1 - lo.y) * (hi.z + 1 - lo.z))

-- on an axis, some voxels of a block of this depth and number lie between two numbers
abbrev pub MeetsSpan : ℕ → ℕ → ℕ → ℕ → Type 0
MeetsSpan low high depth n = (low < (n + 1) * side depth) × (n * side depth ≤ high)

-- on an axis, all of them do
abbrev pub LiesInSpan : ℕ → ℕ → ℕ → ℕ → Type 0
LiesInSpan low high depth n = (low ≤ n * side depth) × ((n + 1) * side depth ≤ high + 1)

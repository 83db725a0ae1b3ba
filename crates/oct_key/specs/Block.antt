-- Blocks: the cubes of voxels that halve the map again and again, and which of them holds a voxel.
use Rattle.std.specs.Prelude.{ℕ, Bool, ◌&&◌, nat_eq, ◌+◌, ◌-◌, ◌*◌, ◌/◌, ◌%◌, ◌^◌, ◌<◌, ◌≤◌}
use Rattle.oct_key.specs.Voxel.{Voxel}

-- a cube of voxels, by its depth and by its number on each axis among the cubes of that depth
pub record Cube : Type 0 where
  pub depth : ℕ
  pub x : ℕ
  pub y : ℕ
  pub z : ℕ

-- a block of the map: its depth is at most 16, and on each axis there are 2^depth of them
pub record IsBlock (b : Cube) : Type 0 where
  pub depth : b.depth ≤ 16
  pub x : b.x < 2 ^ b.depth
  pub y : b.y < 2 ^ b.depth
  pub z : b.z < 2 ^ b.depth

-- how many voxels a block of this depth has on each axis
abbrev pub side : ℕ → ℕ
side depth = 2 ^ (16 - depth)

-- on an axis, a block of this depth and number holds the voxels of this number
abbrev pub HoldsNumber : ℕ → ℕ → ℕ → Type 0
HoldsNumber depth n v = (n * side depth ≤ v) × (v < (n + 1) * side depth)

-- a block holds a voxel
pub record HoldsVoxel (b : Cube) (k : Voxel) : Type 0 where
  pub x : HoldsNumber b.depth b.x k.x
  pub y : HoldsNumber b.depth b.y k.y
  pub z : HoldsNumber b.depth b.z k.z

-- a block lies within another: the other holds its voxels
abbrev pub LiesIn : Cube → Cube → Type 0
LiesIn c b = (k : Voxel) → HoldsVoxel c k → HoldsVoxel b k

-- whether the two are one block
abbrev pub is_same_block : Cube → Cube → Bool
is_same_block a b = nat_eq a.depth b.depth && nat_eq a.x b.x && nat_eq a.y b.y && nat_eq a.z b.z

-- the block of a depth that holds a voxel: each number is divided by the side, without the
-- remainder
unfoldable pub block_of : ℕ → Voxel → Cube
block_of depth k =
    record { depth = depth; x = k.x / side depth; y = k.y / side depth; z = k.z / side depth }

-- child i of a block, from 0 to 7: bit 0 says which half on the x axis, bit 1 on the y axis, bit 2
-- on the z axis
unfoldable pub child_of : Cube → ℕ → Cube
child_of b i = record {
  depth = b.depth + 1;
  x = 2 * b.x + i % 2;
  y = 2 * b.y + i / 2 % 2;
  z = 2 * b.z + i / 4 % 2;
}

-- the block whose child a block is
unfoldable pub parent_of : Cube → Cube
parent_of b = record { depth = b.depth - 1; x = b.x / 2; y = b.y / 2; z = b.z / 2 }

-- which child of its parent a block is
unfoldable pub index_in_parent : Cube → ℕ
index_in_parent b = b.x % 2 + 2 * (b.y % 2) + 4 * (b.z % 2)

-- which child of the block of a depth holds a voxel: bit 15 - depth of each of its numbers
unfoldable pub child_index_of : ℕ → Voxel → ℕ
child_index_of depth k = k.x / 2 ^ (15 - depth) % 2 + 2 * (k.y / 2 ^ (15 - depth) % 2)
    + 4 * (k.z / 2 ^ (15 - depth) % 2)

-- the block of the whole map
abbrev pub root_block : Cube
root_block = record { depth = 0; x = 0; y = 0; z = 0 }

-- the voxel of a block with the lowest number on each axis
abbrev pub lowest_voxel : Cube → Voxel
lowest_voxel b = record { x = b.x * side b.depth; y = b.y * side b.depth; z = b.z * side b.depth }

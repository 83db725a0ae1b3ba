-- How many voxels of a block lie in a box: a product over the axes. The working words of a proof.
use Rattle.std.specs.Prelude.{ℕ, ◌+◌, ◌-◌, ◌*◌, min, max}
use Rattle.oct_key.specs.Voxel.{Voxel}
use Rattle.oct_key.specs.Block.{Cube, side}

-- on an axis that is cut into parts of this size, how many of the numbers from `from` on and below
-- `to` lie in part n
abbrev pub shared : ℕ → ℕ → ℕ → ℕ → ℕ
shared from to size n = min (n * size + size) to - max (n * size) from

-- how many voxels of a block lie in the box of two corners
abbrev pub shared_in : Voxel → Voxel → Cube → ℕ
shared_in lo hi b = shared lo.x (hi.x + 1) (side b.depth) b.x
    * shared lo.y (hi.y + 1) (side b.depth) b.y
    * shared lo.z (hi.z + 1) (side b.depth) b.z

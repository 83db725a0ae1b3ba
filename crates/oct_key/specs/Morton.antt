-- Morton codes: the order of voxels along the Z-order curve, in which the voxels of each block
-- stand together.
use Rattle.std.specs.Prelude.{ℕ, zero, suc, ◌+◌, ◌-◌, ◌*◌, ◌/◌, ◌%◌, ◌^◌}
use Rattle.oct_key.specs.Voxel.{Voxel}

-- the lowest bits of three numbers in turn: bit 3j is bit j of x, bit 3j + 1 that of y, and bit 3j
-- + 2 that of z
unfoldable pub interleaved : ℕ → ℕ → ℕ → ℕ → ℕ
interleaved zero x y z = 0
interleaved (suc bits) x y z = x % 2 + 2 * (y % 2) + 4 * (z % 2)
    + 8 * interleaved bits (x / 2) (y / 2) (z / 2)

-- the Morton code of a voxel
unfoldable pub morton_of : Voxel → ℕ
morton_of k = interleaved 16 k.x k.y k.z

-- the leading bits of a code, three for each of this many levels: what the codes of the voxels of a
-- block of this depth have in common
abbrev pub code_prefix : ℕ → ℕ → ℕ
code_prefix depth code = code / 2 ^ (3 * (16 - depth))

-- every third bit of a number from bit 0 on, side by side
unfoldable pub gathered : ℕ → ℕ → ℕ
gathered zero m = 0
gathered (suc bits) m = m % 2 + 2 * gathered bits (m / 8)

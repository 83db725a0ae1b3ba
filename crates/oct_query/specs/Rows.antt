-- The blocks of a depth by their rows and planes: the working words of the walk that lists them.
use Rattle.std.specs.Prelude.{ℕ, List, map}
use Rattle.std.specs.List.{flat_map}
use Rattle.oct_key.specs.Voxel.{Voxel}
use Rattle.oct_key.specs.Block.{Cube}
use Rattle.oct_key.specs.Order.{numbers_from, block_numbered}

-- the numbers of a row: this many on z, from one on
abbrev pub row_numbers : ℕ → ℕ → ℕ → ℕ → List Voxel
row_numbers x y first count = map (λ z. record { x = x; y = y; z = z }) (numbers_from first count)

-- the blocks of a row
abbrev pub row_blocks : ℕ → ℕ → ℕ → ℕ → ℕ → List Cube
row_blocks depth x y first count = map (block_numbered depth) (row_numbers x y first count)

-- the blocks of a plane: of this many rows, from one on
abbrev pub plane_blocks : ℕ → ℕ → ℕ → ℕ → ℕ → ℕ → List Cube
plane_blocks depth x first_y count_y first count =
    map (block_numbered depth)
    (flat_map (λ y. row_numbers x y first count) (numbers_from first_y count_y))

-- The voxels that a block holds and the blocks of the map, as lists.
use Rattle.std.specs.Prelude.{ℕ, zero, suc, ◌-◌, List, [], ◌∷◌}
use Rattle.std.specs.List.{flat_map}
use Rattle.oct_key.specs.Voxel.{Voxel}
use Rattle.oct_key.specs.Block.{Cube, child_of, lowest_voxel, root_block}

-- the numbers of a block's children
abbrev pub child_numbers : List ℕ
child_numbers = 0 ∷ 1 ∷ 2 ∷ 3 ∷ 4 ∷ 5 ∷ 6 ∷ 7 ∷ []

-- the voxels in a block that stands this number of depths above them
unfoldable pub voxels_below : ℕ → Cube → List Voxel
voxels_below zero b = lowest_voxel b ∷ []
voxels_below (suc depths) b = flat_map (λ i. voxels_below depths (child_of b i)) child_numbers

-- the voxels that a block holds
abbrev pub voxels_of : Cube → List Voxel
voxels_of b = voxels_below (16 - b.depth) b

-- a block and the blocks in it, of this number of depths from its own on
unfoldable pub blocks_below : ℕ → Cube → List Cube
blocks_below zero b = []
blocks_below (suc depths) b = b ∷ flat_map (λ i. blocks_below depths (child_of b i)) child_numbers

-- the blocks of depth 0 to 15: all blocks of the map but its voxels
abbrev pub blocks_above_voxels : List Cube
blocks_above_voxels = blocks_below 16 root_block

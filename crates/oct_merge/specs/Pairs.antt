-- How many voxels of a box have which two classes in two maps.
use Rattle.std.specs.Prelude.{ℕ, ◌+◌, ◌*◌, Bool, ◌&&◌, nat_eq, List, [], ◌∷◌, map, count_by}
use Rattle.oct_key.specs.Voxel.{Voxel}
use Rattle.oct_key.specs.Block.{Cube, root_block}
use Rattle.oct_key.specs.Boxes.{is_in_box}
use Rattle.oct_odds.specs.declared.event.Class.{Class}
use Rattle.oct_odds.specs.declared.event.Class.TheVariants.{Unknown, Free, Occupied}
use Rattle.oct_values.specs.Blocks.{voxels_of}
use Rattle.oct_values.specs.Classes.{Classes}

-- the number of a class in a table
abbrev pub number_of : Class → ℕ
number_of Unknown = 0
number_of Free = 1
number_of Occupied = 2

-- the place of two classes in a table: the first one says the row, the second one the place in it
abbrev pub pair_of : Class → Class → ℕ
pair_of a b = 3 * number_of a + number_of b

-- whether a voxel lies in a box and has the two classes of a place of the table
abbrev pub is_counted : Voxel → Voxel → Classes → Classes → ℕ → Voxel → Bool
is_counted lo hi a b n k = is_in_box lo hi k && nat_eq (pair_of (a k) (b k)) n

-- how many such voxels a block has
unfoldable pub pairs_in : Voxel → Voxel → Classes → Classes → ℕ → Cube → ℕ
pairs_in lo hi a b n c = count_by (is_counted lo hi a b n) (voxels_of c)

-- the places of a table
abbrev pub places : List ℕ
places = 0 ∷ 1 ∷ 2 ∷ 3 ∷ 4 ∷ 5 ∷ 6 ∷ 7 ∷ 8 ∷ []

-- for each place the number of voxels of the box that have its two classes
unfoldable pub pair_counts : Voxel → Voxel → Classes → Classes → List ℕ
pair_counts lo hi a b = map (λ n. pairs_in lo hi a b n root_block) places

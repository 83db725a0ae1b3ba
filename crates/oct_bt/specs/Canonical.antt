-- The canonical node data of a class for each voxel.
use Rattle.std.specs.Prelude.{ℕ, zero, suc, ◌+◌, ◌*◌, ◌/◌, ◌%◌, nat_eq, Bool, not, List, [], ◌∷◌}
use Rattle.std.specs.Prelude.{◌++◌, Option, Some, None, count_by, if◌then◌else◌}
use Rattle.std.specs.List.{flat_map, list_all}
use Rattle.oct_key.specs.Block.{Cube, child_of, root_block}
use Rattle.oct_odds.specs.declared.event.Class.{Class}
use Rattle.oct_odds.specs.declared.event.Class.TheVariants.{Unknown}
use Rattle.oct_values.specs.Blocks.{child_numbers, voxels_of}
use Rattle.oct_values.specs.Classes.{Classes, is_same_class, class_of_block}
use Rattle.oct_bt.specs.Records.{class_code, code_bytes}

-- the code of a block: its class, or 3 where its voxels aren't of one
abbrev pub block_code : Option Class → ℕ
block_code None = 3
block_code (Some class) = class_code class

-- the codes of these children of a block, two bits for each, the first one in the lowest
unfoldable pub child_codes : Classes → Cube → List ℕ → ℕ
child_codes classes b [] = 0
child_codes classes b (i ∷ more) =
    block_code (class_of_block classes (child_of b i)) + 4 * child_codes classes b more

-- what a child adds after the codes: nothing where it is of one class, else its own data
abbrev pub data_of_child : Option Class → List ℕ → List ℕ
data_of_child (Some class) below = []
data_of_child None below = below

-- the data of a block that stands this many depths above the voxels: the codes of its children, and
-- the data of each child that isn't of one class
unfoldable pub data_below : Classes → ℕ → Cube → List ℕ
data_below classes zero b = []
data_below classes (suc depths) b =
    code_bytes (child_codes classes b child_numbers)
    ++ flat_map (λ i. data_of_child (class_of_block classes (child_of b i))
    (data_below classes depths (child_of b i))) child_numbers

-- whether all voxels of the map are unknown
unfoldable pub is_unknown : Classes → Bool
is_unknown classes = list_all (λ k. is_same_class (classes k) Unknown) (voxels_of root_block)

-- the node data of the map: none where all is unknown
unfoldable pub canonical_data : Classes → List ℕ
canonical_data classes = if is_unknown classes then [] else data_below classes 16 root_block

-- the four codes of a byte, the lowest bits first
abbrev pub codes_in : ℕ → List ℕ
codes_in byte = byte % 4 ∷ byte / 4 % 4 ∷ byte / 16 % 4 ∷ byte / 64 % 4 ∷ []

-- how many codes of these bytes aren't 0
abbrev pub known_codes : List ℕ → ℕ
known_codes bytes = count_by (λ code. not (nat_eq code 0)) (flat_map codes_in bytes)

-- the number of nodes that data stands for: none without data, else one for the root and one for
-- each code that isn't 0
abbrev pub node_total : List ℕ → ℕ
node_total [] = 0
node_total (byte ∷ bytes) = 1 + known_codes (byte ∷ bytes)

-- the number of nodes of the canonical data
unfoldable pub canonical_size : Classes → ℕ
canonical_size classes = node_total (canonical_data classes)

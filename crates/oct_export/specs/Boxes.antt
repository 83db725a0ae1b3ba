-- The greatest blocks that are occupied throughout.
use Rattle.std.specs.Prelude.{ℕ, zero, suc, ◌+◌, ◌-◌, Bool, ◌&&◌, ◌||◌, not, nat_eq, List, [], ◌∷◌}
use Rattle.std.specs.Prelude.{◌++◌, if◌then◌else◌}
use Rattle.std.specs.List.{filter, flat_map, list_all}
use Rattle.oct_key.specs.Block.{Cube, child_of, index_in_parent, parent_of, root_block}
use Rattle.oct_odds.specs.declared.event.Class.TheVariants.{Occupied}
use Rattle.oct_values.specs.Blocks.{child_numbers, voxels_of, blocks_below}
use Rattle.oct_values.specs.Classes.{Classes, is_same_class}

-- whether all voxels of a block are occupied
unfoldable pub is_full : Classes → Cube → Bool
is_full classes b = list_all (λ k. is_same_class (classes k) Occupied) (voxels_of b)

-- whether a block is one of the boxes: all its voxels are occupied, and it is the whole map or its
-- parent holds a voxel that isn't
unfoldable pub is_box_of : Classes → Cube → Bool
is_box_of classes b = is_full classes b && (nat_eq b.depth 0 || not (is_full classes (parent_of b)))

-- all blocks of the map, of depth 0 to 16: each one before those in it, and its children by number,
-- so that blocks apart from each other stand in the order of the Morton codes of their voxels
abbrev pub all_blocks : List Cube
all_blocks = blocks_below 17 root_block

-- the boxes of occupied space, in that order
unfoldable pub boxes_of : Classes → List Cube
boxes_of classes = filter (is_box_of classes) all_blocks

-- the boxes in a block that stands this many depths above the voxels, by its own voxels alone:
-- itself where all are occupied, else those in its children
unfoldable pub boxes_below : Classes → ℕ → Cube → List Cube
boxes_below classes zero b = if is_full classes b then b ∷ [] else []
boxes_below classes (suc depths) b =
    if is_full classes b then b ∷ []
    else flat_map (λ i. boxes_below classes depths (child_of b i)) child_numbers

-- the boxes in a block, by its own voxels alone
abbrev pub boxes_in : Classes → Cube → List Cube
boxes_in classes b = boxes_below classes (16 - b.depth) b

-- the children of a block before this one
unfoldable pub children_before : Cube → ℕ → List Cube
children_before b zero = []
children_before b (suc i) = children_before b i ++ child_of b i ∷ []

-- the blocks before a block in the one this many levels above it: the children before its own way
-- down to it
unfoldable pub blocks_before : ℕ → Cube → List Cube
blocks_before zero b = []
blocks_before (suc levels) b =
    blocks_before levels (parent_of b) ++ children_before (parent_of b) (index_in_parent b)

-- what a walk through a block finds out, where all voxels before it in the block this many levels
-- above it are occupied: nothing as long as its own are too, else which boxes these are, and its
-- own
unfoldable pub boxes_found : Classes → ℕ → Cube → List Cube
boxes_found classes waiting b =
    if is_full classes b then [] else blocks_before waiting b ++ boxes_in classes b

-- how many levels above its own a walk waits for in a child: one more than in its block as long as
-- all voxels of the block before it are occupied, and else none
abbrev pub waited : Bool → ℕ → ℕ
waited all_before levels = if all_before then levels + 1 else 0

-- whether a child is a box by itself: it is full, and some voxel of its block before it isn't
-- occupied
abbrev pub is_due : Bool → Bool → Bool
is_due full all_before = full && not all_before

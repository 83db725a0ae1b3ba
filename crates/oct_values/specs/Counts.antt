-- Which blocks have one value, and how many groups and nodes a tree of these values needs at least.
use Rattle.std.specs.Prelude.{ℕ, ◌+◌, Bool, true, false, not, IsSome, is_some, Some, None, sum_by}
use Rattle.std.specs.Prelude.{count_by, if◌then◌else◌}
use Rattle.std.specs.List.{list_any}
use Rattle.std.specs.Ordering.{int_eq}
use Rattle.oct_key.specs.Voxel.{Voxel}
use Rattle.oct_key.specs.Values.{Values}
use Rattle.oct_key.specs.Block.{Cube, HoldsVoxel, child_of, root_block}
use Rattle.oct_odds.specs.Update.{Value}
use Rattle.oct_values.specs.Blocks.{child_numbers, voxels_of, blocks_above_voxels}
use Rattle.oct_values.specs.Uniform.{is_uniform_by}

-- some voxel of the block is known
abbrev pub IsKnownIn : Values → Cube → Type 0
IsKnownIn values b = (k : Voxel) × HoldsVoxel b k × IsSome (values k)

-- whether both are unknown, or both are known and one number
abbrev pub is_same_value : Value → Value → Bool
is_same_value None None = true
is_same_value None (Some n) = false
is_same_value (Some m) None = false
is_same_value (Some m) (Some n) = int_eq m n

-- whether the block's voxels have one value, where unknown counts as a value
abbrev pub is_uniform : Values → Cube → Bool
is_uniform values b = is_uniform_by is_same_value values b

-- whether some voxel of the block is known
unfoldable pub is_known_in : Values → Cube → Bool
is_known_in values b = list_any (λ k. is_some (values k)) (voxels_of b)

-- the number of blocks of depth 0 to 15 that aren't uniform
unfoldable pub group_count : Values → ℕ
group_count values = count_by (λ b. not (is_uniform values b)) blocks_above_voxels

-- how many children of the block hold a known voxel
abbrev pub known_children : Values → Cube → ℕ
known_children values b = count_by (λ i. is_known_in values (child_of b i)) child_numbers

-- how many nodes a block needs for its children: none where it is uniform, else one for each child
-- that holds a known voxel
abbrev pub needed_nodes : Values → Cube → ℕ
needed_nodes values b = if is_uniform values b then 0 else known_children values b

-- none where all voxels are unknown; else one for the root, and those that each block of depth 0 to
-- 15 needs for its children
unfoldable pub node_count : Values → ℕ
node_count values =
    if is_known_in values root_block then 1 + sum_by (needed_nodes values) blocks_above_voxels
    else 0

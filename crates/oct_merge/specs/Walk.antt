-- How two trees are walked side by side: the working words of the proofs.
use Rattle.std.specs.Prelude.{ℕ, ◌-◌, Bool, ◌&&◌, not, is_some, count_by}
use Rattle.oct_key.specs.Block.{Cube, lowest_voxel}
use Rattle.oct_values.specs.Blocks.{blocks_below}
use Rattle.oct_arena.specs.Nodes.{link_of}
use Rattle.oct_tree.specs.Tree.{Tree, reach}

-- whether the node over a block links a group
abbrev pub is_split : Tree → Cube → Bool
is_split t b = is_some (link_of (reach t b.depth (lowest_voxel b)))

-- whether it does in the second tree, and not in the first
abbrev pub is_needed : Tree → Tree → Cube → Bool
is_needed into other b = is_split other b && not (is_split into b)

-- how many such blocks of depth 0 to 15 there are in a block, itself among them
abbrev pub need_in : Tree → Tree → Cube → ℕ
need_in into other b = count_by (is_needed into other) (blocks_below (16 - b.depth) b)

-- whether it does in both
abbrev pub is_common : Tree → Tree → Cube → Bool
is_common into other b = is_split other b && is_split into b

-- how many such blocks there are in a block
abbrev pub common_in : Tree → Tree → Cube → ℕ
common_in into other b = count_by (is_common into other) (blocks_below (16 - b.depth) b)

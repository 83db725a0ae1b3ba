-- Where the nodes of a tree stand: at the root, or in a group of the arena.
use Rattle.std.specs.Prelude.{◌≡◌, ℕ, ◌<◌, ◌≤◌, Option, Some, None, option_map, slice_set, ⊤}
use Rattle.oct_key.specs.Block.{Cube, child_of, root_block}
use Rattle.oct_arena.specs.declared.node.Node.{Node}
use Rattle.oct_arena.specs.Entries.{Groups, entry, IsLive, home_at, node_at, with_node}
use Rattle.oct_tree.specs.declared.place.Place.{Place}
use Rattle.oct_tree.specs.declared.place.Place.TheVariants.{Root, Slot}

-- the root, or one of the eight slots of a live group
abbrev pub IsPlaceOf : Groups → Place → Type 0
IsPlaceOf gs Root = ⊤
IsPlaceOf gs (Slot id i) = IsLive gs id.number × (i < 8)

-- the number of the group that a place is a slot of
abbrev pub group_of : Place → Option ℕ
group_of Root = None
group_of (Slot id i) = Some id.number

-- the node that stands at a place
abbrev pub node_at_place : Groups → Node → Place → Node
node_at_place gs root Root = root
node_at_place gs root (Slot id i) = node_at gs id.number i

-- the block whose node stands at a place: the whole map, or a child of the home of the place's
-- group
abbrev pub block_at_place : Groups → Place → Option Cube
block_at_place gs Root = Some root_block
block_at_place gs (Slot id i) = option_map (λ b. child_of b i) (home_at gs id.number)

-- the arena's list with another node at a place
abbrev pub groups_with : Groups → Place → Node → Groups
groups_with gs Root n = gs
groups_with gs (Slot id i) n = slice_set gs id.number (with_node (entry gs id.number) i n)

-- the root with another node at a place
abbrev pub root_with : Node → Place → Node → Node
root_with root Root n = n
root_with root (Slot id i) n = root

-- the home of a place's group is above the voxels, so that its nodes are of blocks
abbrev pub IsAboveVoxels : Groups → Place → Type 0
IsAboveVoxels gs Root = ⊤
IsAboveVoxels gs (Slot id i) = (b : Cube) → home_at gs id.number ≡ Some b → b.depth ≤ 15

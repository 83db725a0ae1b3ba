-- Forgetting all that lies outside of a box: the events, and the groups that it takes.
use Rattle.std.specs.Prelude.{ℕ, Bool, ◌&&◌, not, Some, None, is_some, count_by, if◌then◌else◌}
use Rattle.oct_key.specs.Voxel.{Voxel}
use Rattle.oct_key.specs.Block.{Cube, lowest_voxel}
use Rattle.oct_key.specs.Boxes.{is_in_box}
use Rattle.oct_odds.specs.declared.event.Event.TheVariants.{Forget}
use Rattle.oct_values.specs.Blocks.{blocks_above_voxels}
use Rattle.oct_values.specs.Boxes.{is_cut_by}
use Rattle.oct_values.specs.Events.{Events}
use Rattle.oct_arena.specs.Nodes.{value_of}
use Rattle.oct_tree.specs.Tree.{Tree, reach}

-- each voxel outside of a box is forgotten, and nothing comes to one in it
abbrev pub keep_events : Voxel → Voxel → Events
keep_events lo hi k = if not (is_in_box lo hi k) then Some Forget else None

-- whether a block lies in a leaf: the path to it comes to one
abbrev pub is_in_leaf : Tree → Cube → Bool
is_in_leaf t b = is_some (value_of (reach t b.depth (lowest_voxel b)))

-- whether a box cuts a block that lies in a leaf
abbrev pub parts_leaf : Tree → Voxel → Voxel → Cube → Bool
parts_leaf t lo hi b = is_cut_by lo hi b && is_in_leaf t b

-- the number of blocks of depth 0 to 15 that the box cuts, and that lie in a leaf: this many groups
-- have to be made to part what is kept from what is forgotten
unfoldable pub keep_need : Tree → Voxel → Voxel → ℕ
keep_need t lo hi = count_by (parts_leaf t lo hi) blocks_above_voxels

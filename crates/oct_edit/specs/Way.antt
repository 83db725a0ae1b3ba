-- The way from the root of a tree to a voxel.
use Rattle.std.specs.Prelude.{◌≡◌, ◌≢◌, ℕ, zero, suc, ◌+◌, ◌<◌, ◌≤◌, ℤ, ◌≤ℤ◌, ◌⊎◌, List, length}
use Rattle.std.specs.Prelude.{Option, Some, None, slice_get}
use Rattle.oct_key.specs.Voxel.{Voxel}
use Rattle.oct_key.specs.Block.{block_of, child_index_of}
use Rattle.oct_arena.specs.declared.node.GroupId.{GroupId}
use Rattle.oct_arena.specs.declared.node.Node.{Node}
use Rattle.oct_arena.specs.declared.node.Node.TheVariants.{Inner}
use Rattle.oct_arena.specs.Nodes.{link_of, stored_in}
use Rattle.oct_tree.specs.declared.place.Place.{Place}
use Rattle.oct_tree.specs.declared.place.Place.TheVariants.{Root, Slot}
use Rattle.oct_tree.specs.Tree.{Tree, IsPlace, node_in, block_in}

-- a slot of a group, or the root where there is none
abbrev pub slot_of : Option GroupId → ℕ → Place
slot_of None i = Root
slot_of (Some id) i = Slot id i

-- the place at a depth of the way to a voxel through these groups
abbrev pub place_on : Voxel → List GroupId → ℕ → Place
place_on k groups zero = Root
place_on k groups (suc depth) = slot_of (slice_get groups depth) (child_index_of depth k)

-- The way to a voxel down to this depth: each place but the last links a group, the one of the
-- list, and all are those of the blocks around the voxel.
pub record IsWayTo (t : Tree) (k : Voxel) (groups : List GroupId) (depth : ℕ) : Type 0 where
  pub few : depth ≤ 16
  pub long : length groups ≡ 16
  pub at : (d : ℕ) → d ≤ depth → IsPlace t (place_on k groups d)
      × (block_in t (place_on k groups d) ≡ Some (block_of d k))
  pub linked : (d : ℕ) → d < depth → (v : ℤ) × (id : GroupId)
      × (node_in t (place_on k groups d) ≡ Inner v id)
      × (place_on k groups (d + 1) ≡ Slot id (child_index_of d k))

-- and the last one links none
pub record IsWholeWay (t : Tree) (k : Voxel) (groups : List GroupId) (depth : ℕ) : Type 0 where
  pub way : IsWayTo t k groups depth
  pub ends : link_of (node_in t (place_on k groups depth)) ≡ None

-- A node of a group becomes an Inner one of a value that isn't above the greatest one, which stands
-- over the group, and where it is below that one, it wasn't the node's before.
pub record KeepsGreatest (over before now : Node) : Type 0 where
  pub most : ℤ
  pub group : GroupId
  pub over_is : over ≡ Inner most group
  pub value : ℤ
  pub link : GroupId
  pub now_is : now ≡ Inner value link
  pub most_yet : value ≤ℤ most
  pub there : (value ≡ most) ⊎ (stored_in before ≢ Some most)

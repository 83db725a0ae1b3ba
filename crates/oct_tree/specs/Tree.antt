-- The tree that the groups of an arena make, and the value that it gives each voxel.
use Rattle.std.specs.Prelude.{◌≡◌, ℕ, suc, zero, ◌≤◌, ◌⊎◌, Option, Some, None}
use Rattle.oct_key.specs.Voxel.{Voxel, IsInMap}
use Rattle.oct_key.specs.Values.{Values}
use Rattle.oct_key.specs.Block.{Cube, IsBlock, HoldsVoxel, LiesIn, child_index_of}
use Rattle.oct_odds.specs.Odds.{Odds}
use Rattle.oct_odds.specs.Update.{IsWithin}
use Rattle.oct_arena.specs.declared.node.Node.{Node}
use Rattle.oct_arena.specs.declared.node.Node.TheVariants.{Absent, Leaf, Inner}
use Rattle.oct_arena.specs.Entries.{Groups, IsArena, home_at, node_at}
use Rattle.oct_arena.specs.Nodes.{link_of, value_of}
use Rattle.oct_tree.specs.Places.{IsPlaceOf, node_at_place, block_at_place}
use Rattle.oct_tree.specs.declared.place.Place.{Place}

-- a tree: an arena's list, the node of the whole map, the edge of a voxel in nanometres, and the
-- log-odds
pub record Tree : Type 0 where
  pub groups : Groups
  pub root : Node
  pub res : ℕ
  pub odds : Odds

-- the root, or one of the eight slots of a live group
abbrev pub IsPlace : Tree → Place → Type 0
IsPlace t p = IsPlaceOf t.groups p

-- the node that stands at a place
abbrev pub node_in : Tree → Place → Node
node_in t p = node_at_place t.groups t.root p

-- the block whose node stands at a place
abbrev pub block_in : Tree → Place → Option Cube
block_in t p = block_at_place t.groups p

-- child i of a node: that of the group that it links, or the node itself, which covers its block's
-- children
abbrev pub step : Groups → Node → ℕ → Node
step gs Absent i = Absent
step gs (Leaf v) i = Leaf v
step gs (Inner v id) i = node_at gs id.number i

-- the node that covers a voxel at a depth: from the root, by the voxel's child indices
unfoldable pub reach : Tree → ℕ → Voxel → Node
reach t zero k = t.root
reach t (suc depth) k = step t.groups (reach t depth k) (child_index_of depth k)

-- the value that a tree gives each voxel
unfoldable pub value_at : Tree → Values
value_at t k = value_of (reach t 16 k)

-- the paths to the voxels of a block come to this node there
abbrev pub IsOver : Tree → Cube → Node → Type 0
IsOver t b n = (k : Voxel) → HoldsVoxel b k → reach t b.depth k ≡ n

-- A node stands over a block: at a place of the block itself, or, where it is not Inner and so
-- covers what lies in its own block, at a place of a block that this one lies in.
pub record StandsOver (t : Tree) (b : Cube) (n : Node) : Type 0 where
  pub place : Place
  pub block : Cube
  pub here : IsPlace t place
  pub of : block_in t place ≡ Some block
  pub node : node_in t place ≡ n
  pub around : LiesIn b block
  pub covers : (block ≡ b) ⊎ (link_of n ≡ None)

-- The links of a tree are right: each node that links a group links one whose home is the node's
-- block, and each group is what the path to its home comes to. Homes are blocks of the map, and no
-- voxels. A leaf's value lies within the bounds.
pub record IsLinked (t : Tree) : Type 0 where
  pub arena : IsArena t.groups
  pub homes : (id : ℕ) (b : Cube) → home_at t.groups id ≡ Some b → IsBlock b × (b.depth ≤ 15)
  pub links : (p : Place) (id : ℕ) → link_of (node_in t p) ≡ Some id
      → home_at t.groups id ≡ block_in t p
  pub reached : (id : ℕ) (b : Cube) → home_at t.groups id ≡ Some b → (k : Voxel) → IsInMap k
      → HoldsVoxel b k
      → link_of (reach t b.depth k) ≡ Some id
  pub leaves : (p : Place) → IsWithin t.odds (value_of (node_in t p))

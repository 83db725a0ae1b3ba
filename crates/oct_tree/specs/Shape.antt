-- The shape of a tree: what its links mean part by part, and when it is well-formed, fresh and
-- pruned.
use Rattle.std.specs.Prelude.{◌≡◌, ℕ, ◌<◌, ℤ, Some, None}
use Rattle.oct_key.specs.Block.{Cube, IsBlock, child_of, root_block}
use Rattle.oct_odds.specs.Update.{IsWithin}
use Rattle.oct_arena.specs.declared.node.GroupId.{GroupId}
use Rattle.oct_arena.specs.declared.node.Node.TheVariants.{Inner, Leaf}
use Rattle.oct_arena.specs.Entries.{entry, IsLive, home_at, node_at}
use Rattle.oct_tree.specs.Nodes.{IsCollapsible, IsKnown, IsGreatest}
use Rattle.oct_arena.specs.Nodes.{link_of}
use Rattle.oct_tree.specs.Tree.{Tree, IsLinked, IsPlace, node_in}
use Rattle.oct_tree.specs.declared.place.Place.{Place}

-- what the links of a tree mean
pub record IsShaped (t : Tree) : Type 0 where
  -- an Inner node of a group links a live group, whose home is the node's block: a child of the
  -- first group's home, and no voxel
  pub down : (y id : GroupId) (i : ℕ) (v : ℤ) (b : Cube) → home_at t.groups y.number ≡ Some b
      → node_at t.groups y.number i ≡ Inner v id
      → (home_at t.groups id.number ≡ Some (child_of b i)) × (b.depth < 15)
  -- an Inner root links a live group, whose home is the whole map
  pub root : (id : GroupId) (v : ℤ) → t.root ≡ Inner v id
      → home_at t.groups id.number ≡ Some root_block
  -- where the root is not Inner, no group is live
  pub bare : link_of t.root ≡ None → (id : ℕ) → entry t.groups id ≡ None
  -- each live group is linked, by a node of the tree
  pub linked : (id : ℕ) → IsLive t.groups id
      → (p : Place) × IsPlace t p × (link_of (node_in t p) ≡ Some id)
  -- by one alone
  pub once : (p q : Place) (id : ℕ) → link_of (node_in t p) ≡ Some id
      → link_of (node_in t q) ≡ Some id → p ≡ q
  -- the homes of live groups are distinct blocks of the map
  pub homes : (id : ℕ) (b : Cube) → home_at t.groups id ≡ Some b → IsBlock b
  pub distinct : (x y : ℕ) (b : Cube) → home_at t.groups x ≡ Some b → home_at t.groups y ≡ Some b
      → x ≡ y
  -- the value of a leaf lies within the bounds
  pub leaves : (p : Place) (v : ℤ) → node_in t p ≡ Leaf v → IsWithin t.odds (Some v)

-- a tree is well-formed: its links are right, and each group has a node that is not absent
pub record IsWellFormed (t : Tree) : Type 0 where
  pub linked : IsLinked t
  pub known : (id : ℕ) → IsLive t.groups id → IsKnown t.groups id

-- a tree is fresh: it is well-formed, and the value of each Inner node is the greatest of its group
pub record IsFresh (t : Tree) : Type 0 where
  pub formed : IsWellFormed t
  pub greatest : (p : Place) (id : GroupId) (v : ℤ) → node_in t p ≡ Inner v id
      → IsGreatest t.groups id.number v

-- a tree is pruned: no group of it is collapsible
abbrev pub IsPruned : Tree → Type 0
IsPruned t = (id : ℕ) → IsLive t.groups id → IsCollapsible t.groups id → ⊥

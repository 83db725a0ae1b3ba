-- What the filling of a block makes of a tree.
use Rattle.std.specs.Prelude.{◌≡◌, ℕ, ◌<◌, ◌≤◌, ℤ, Some}
use Rattle.oct_key.specs.Voxel.{Voxel, IsInMap}
use Rattle.oct_key.specs.Values.{Values}
use Rattle.oct_key.specs.Block.{Cube, HoldsVoxel, child_of}
use Rattle.oct_arena.specs.declared.node.GroupId.{GroupId}
use Rattle.oct_arena.specs.declared.node.Node.TheVariants.{Absent, Inner}
use Rattle.oct_arena.specs.Nodes.{link_of}
use Rattle.oct_tree.specs.declared.place.Place.{Place}
use Rattle.oct_tree.specs.declared.place.Place.TheVariants.{Slot}
use Rattle.oct_tree.specs.Nodes.{IsCollapsible, IsGreatest}
use Rattle.oct_tree.specs.Tree.{Tree, IsLinked, node_in, block_in, value_at}
use Rattle.oct_tree.specs.Changes.{IsSameOutside}
use Rattle.oct_tree.specs.Passes.{AllWithin}

-- the group that a place links, if it does, isn't collapsible, and the place has the greatest value
-- in it
abbrev pub IsTidyAt : Tree → Place → Type 0
IsTidyAt t p = (id : GroupId) (v : ℤ) → node_in t p ≡ Inner v id
    → IsGreatest t.groups id.number v × (IsCollapsible t.groups id.number → ⊥)

-- the second tree is the first one with these values in a block, in which it is tidy
pub record IsFilledWith (t u : Tree) (b : Cube) (values : Values) : Type 0 where
  pub inside : (k : Voxel) → IsInMap k → HoldsVoxel b k → value_at u k ≡ values k
  pub outside : IsSameOutside t u b
  pub tidy : AllWithin IsTidyAt u b

-- the first n children of the place's block are filled with these values, and the others are absent
pub record IsFillingWith (t u : Tree) (p : Place) (id : GroupId) (b : Cube) (n : ℕ)
    (values : Values) : Type 0 where
  pub linked : IsLinked u
  pub link : link_of (node_in u p) ≡ Some id.number
  pub block : block_in u p ≡ Some b
  pub done : (j : ℕ) (k : Voxel) → j < n → IsInMap k → HoldsVoxel (child_of b j) k
      → value_at u k ≡ values k
  pub tidy : (j : ℕ) → j < n → AllWithin IsTidyAt u (child_of b j)
  pub empty : (j : ℕ) → n ≤ j → j < 8 → node_in u (Slot id j) ≡ Absent
  pub outside : IsSameOutside t u b

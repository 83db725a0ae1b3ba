-- The leaves of a map: the greatest blocks of known voxels that have one value.
use Rattle.std.specs.Prelude.{◌≡◌, ℕ, zero, suc, ◌-◌, ◌<◌, ◌⊎◌, ℤ, List, [], ◌∷◌, filter, Option}
use Rattle.std.specs.Prelude.{Some, None, if◌then◌else◌}
use Rattle.std.specs.List.{All, AllPairs, Contains, flat_map}
use Rattle.oct_key.specs.Voxel.{Voxel, IsInMap}
use Rattle.oct_key.specs.Values.{Values}
use Rattle.oct_key.specs.Block.{Cube, IsBlock, HoldsVoxel, child_of, parent_of, lowest_voxel}
use Rattle.oct_key.specs.Block.{root_block}
use Rattle.oct_key.specs.Morton.{morton_of}
use Rattle.oct_odds.specs.Odds.{Odds}
use Rattle.oct_odds.specs.Update.{Value, class_of}
use Rattle.oct_values.specs.Blocks.{child_numbers}
use Rattle.oct_values.specs.Boxes.{is_met_by}
use Rattle.oct_values.specs.Uniform.{IsUniform}
use Rattle.oct_values.specs.Counts.{is_uniform}
use Rattle.oct_arena.specs.declared.node.Node.TheVariants.{Leaf}
use Rattle.oct_tree.specs.Tree.{Tree, IsPlace, block_in, node_in}
use Rattle.oct_tree.specs.declared.place.Place.{Place}
use Rattle.oct_query.specs.Extent.{is_sought}
use Rattle.oct_query.specs.Shown.{Shown}
use Rattle.oct_query.specs.declared.sought.Sought.{Sought}

-- a block with a value is a leaf of the map: all its voxels have the value, and it is the whole map
-- or its parent's voxels don't have one value, where unknown counts as a value
pub record IsLeaf (values : Values) (leaf : Shown) : Type 0 where
  pub block : IsBlock leaf.block
  pub value : (k : Voxel) → HoldsVoxel leaf.block k → values k ≡ Some leaf.value
  pub greatest : (leaf.block.depth ≡ 0) ⊎ (IsUniform values (parent_of leaf.block) → ⊥)

-- the first voxel of one block comes before that of the other in the order of Morton codes
abbrev pub StandsBefore : Shown → Shown → Type 0
StandsBefore a b = morton_of (lowest_voxel a.block) < morton_of (lowest_voxel b.block)

-- a list of the leaves of a map
pub record IsLeafList (values : Values) (leaves : List Shown) : Type 0 where
  -- each one listed is a leaf
  pub only : All (IsLeaf values) leaves
  -- each leaf is listed
  pub all : (leaf : Shown) → IsLeaf values leaf → Contains leaves leaf
  -- in the order of the Morton codes of their first voxels, so that none stands twice
  pub rising : AllPairs StandsBefore leaves
  -- each known voxel lies in one of them, which has its value
  pub covers : (k : Voxel) (v : ℤ) → IsInMap k → values k ≡ Some v
      → (leaf : Shown) × Contains leaves leaf × HoldsVoxel leaf.block k × (leaf.value ≡ v)
  -- and in no second one
  pub once : (a b : Shown) (k : Voxel) → Contains leaves a → Contains leaves b
      → HoldsVoxel a.block k → HoldsVoxel b.block k → a ≡ b

-- a block as the one leaf in it, if its voxels have this value
abbrev pub own_leaf : Cube → Value → List Shown
own_leaf b None = []
own_leaf b (Some v) = record { block = b; value = v } ∷ []

-- the leaves in a block that stands this many depths above the voxels, by its own voxels alone: one
-- or none where they have one value, else those in its children
unfoldable pub leaves_below : Values → ℕ → Cube → List Shown
leaves_below values zero b = own_leaf b (values (lowest_voxel b))
leaves_below values (suc depths) b =
    if is_uniform values b then own_leaf b (values (lowest_voxel b))
    else flat_map (λ i. leaves_below values depths (child_of b i)) child_numbers

-- the leaves in a block, by its own voxels alone
abbrev pub block_leaves : Values → Cube → List Shown
block_leaves values b = leaves_below values (16 - b.depth) b

-- the leaves of a map, in their order
abbrev pub leaves_of : Values → List Shown
leaves_of values = block_leaves values root_block

-- those of a list whose blocks meet the box of two voxels
abbrev pub that_meet : Voxel → Voxel → List Shown → List Shown
that_meet lo hi leaves = filter (λ leaf. is_met_by lo hi leaf.block) leaves

-- the leaves of a map whose blocks meet the box of two voxels, in their order
abbrev pub leaves_met : Values → Voxel → Voxel → List Shown
leaves_met values lo hi = that_meet lo hi (leaves_of values)

-- those of a list whose voxels are sought, by the class of their value
abbrev pub those_sought : Odds → Sought → List Shown → List Shown
those_sought odds sought leaves =
    filter (λ leaf. is_sought sought (class_of odds (Some leaf.value))) leaves

-- those of a list that are sought, and whose blocks meet the box of two voxels
abbrev pub picked : Odds → Sought → Voxel → Voxel → List Shown → List Shown
picked odds sought lo hi leaves = those_sought odds sought (that_meet lo hi leaves)

-- the value that all voxels of a block have, where unknown counts as one, or none where they have
-- several
abbrev pub IsOneValue : Values → Cube → Option Value → Type 0
IsOneValue values b (Some value) = (k : Voxel) → HoldsVoxel b k → values k ≡ value
IsOneValue values b None = IsUniform values b → ⊥

-- a leaf node of this value stands in a tree for this block
abbrev pub IsLeafNode : Tree → Shown → Type 0
IsLeafNode t leaf = (p : Place) × IsPlace t p × (block_in t p ≡ Some leaf.block)
    × (node_in t p ≡ Leaf leaf.value)

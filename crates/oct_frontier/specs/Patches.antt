-- The nodes over a block and over the blocks beside it, for the proofs of the walk.
use Rattle.std.specs.Prelude.{◌≡◌, ℕ, ◌+◌, ◌-◌, ◌/◌, ◌%◌, ◌^◌, ◌<◌, nat_eq, ℤ, None, if◌then◌else◌}
use Rattle.oct_key.specs.Block.{Cube}
use Rattle.oct_key.specs.CubeOf.{cube_of}
use Rattle.oct_odds.specs.Update.{class_of}
use Rattle.oct_odds.specs.declared.event.Class.TheVariants.{Free}
use Rattle.oct_arena.specs.declared.node.Node.{Node}
use Rattle.oct_arena.specs.declared.node.Node.TheVariants.{Leaf}
use Rattle.oct_arena.specs.Entries.{Groups}
use Rattle.oct_arena.specs.Nodes.{link_of, value_of}
use Rattle.oct_tree.specs.Tree.{Tree, IsLinked, IsOver, step}
use Rattle.oct_frontier.specs.declared.patch.Sides.{Sides}
use Rattle.oct_frontier.specs.declared.patch.Patch.{Patch}

-- the node is a leaf
abbrev pub IsLeaf : Node → Type 0
IsLeaf n = (v : ℤ) × (n ≡ Leaf v)

-- On an axis these are the nodes over the blocks beside the one of a number, of this many blocks in
-- all. Beyond the map stands a leaf, since nothing is unknown there.
pub record AreBeside (t : Tree) (block : ℕ → Cube) (count n : ℕ) (sides : Sides) : Type 0 where
  pub low : (m : ℕ) → m + 1 ≡ n → IsOver t (block m) sides.low
  pub low_edge : n ≡ 0 → IsLeaf sides.low
  pub high : n + 1 < count → IsOver t (block (n + 1)) sides.high
  pub high_edge : n + 1 ≡ count → IsLeaf sides.high

-- the blocks of the row along x that a block stands in
abbrev pub row_x : Cube → ℕ → Cube
row_x b n = record { depth = b.depth; x = n; y = b.y; z = b.z }

-- the same along y
abbrev pub row_y : Cube → ℕ → Cube
row_y b n = record { depth = b.depth; x = b.x; y = n; z = b.z }

-- the same along z
abbrev pub row_z : Cube → ℕ → Cube
row_z b n = record { depth = b.depth; x = b.x; y = b.y; z = n }

-- these are the nodes over a block, and over the blocks beside it on each axis
pub record AreAround (t : Tree) (b : Cube) (node : Node) (on_x on_y on_z : Sides) : Type 0 where
  pub linked : IsLinked t
  pub here : IsOver t b node
  pub x : AreBeside t (row_x b) (2 ^ b.depth) b.x on_x
  pub y : AreBeside t (row_y b) (2 ^ b.depth) b.y on_y
  pub z : AreBeside t (row_z b) (2 ^ b.depth) b.z on_z

-- the patch has the nodes of a tree
abbrev pub IsPatchOf : Tree → Patch → Type 0
IsPatchOf t p = AreAround t (cube_of p.block) p.here p.x p.y p.z

-- The nodes beside child i on an axis, whose bit in i says in which half of the block it lies: one
-- is a child of the block's own node, the other one of the node beside the block.
unfoldable pub sides_of_child : Groups → Node → Sides → ℕ → ℕ → ℕ → Sides
sides_of_child gs node sides i bit half =
    if nat_eq half 1
    then record { low = step gs node (i - bit); high = step gs sides.high (i - bit) }
    else record { low = step gs sides.low (i + bit); high = step gs node (i + bit) }

-- all nodes beside a block are leaves
pub record AreLeaves (on_x on_y on_z : Sides) : Type 0 where
  pub west : IsLeaf on_x.low
  pub east : IsLeaf on_x.high
  pub south : IsLeaf on_y.low
  pub north : IsLeaf on_y.high
  pub below : IsLeaf on_z.low
  pub above : IsLeaf on_z.high

-- the node over child i of a patch's block
abbrev pub child_node : Tree → Patch → ℕ → Node
child_node t p i = step t.groups p.here i

-- the nodes beside that child on x
abbrev pub child_x : Tree → Patch → ℕ → Sides
child_x t p i = sides_of_child t.groups p.here p.x i 1 (i % 2)

-- the same on y
abbrev pub child_y : Tree → Patch → ℕ → Sides
child_y t p i = sides_of_child t.groups p.here p.y i 2 (i / 2 % 2)

-- the same on z
abbrev pub child_z : Tree → Patch → ℕ → Sides
child_z t p i = sides_of_child t.groups p.here p.z i 4 (i / 4 % 2)

-- all nodes beside child i are leaves
abbrev pub AreLeavesBeside : Tree → Patch → ℕ → Type 0
AreLeavesBeside t p i = AreLeaves (child_x t p i) (child_y t p i) (child_z t p i)

-- Child i may have voxels at the frontier, by the nodes over it and beside it: it links a group, or
-- it is free and not all beside it are leaves.
abbrev pub IsOpen : Tree → Patch → ℕ → Type 0
IsOpen t p i = link_of (child_node t p i) ≡ None
    → (class_of t.odds (value_of (child_node t p i)) ≡ Free) × (AreLeavesBeside t p i → ⊥)

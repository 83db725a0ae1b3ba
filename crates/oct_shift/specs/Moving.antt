-- How the blocks of a moved map come from those of the map: the working words of the proofs. An
-- axis begins 65,536 voxels before the map here, so that all its numbers are natural ones.
use Rattle.std.specs.Prelude.{◌≡◌, ℕ, ◌+◌, ◌-◌, ◌*◌, ◌/◌, ◌%◌, ◌<◌, ◌⊎◌, ◌↔◌, nat_lt, false}
use Rattle.std.specs.Prelude.{not, Option, Some, None, count_by, slice_index_or, if◌then◌else◌}
use Rattle.oct_key.specs.Voxel.{Voxel, IsInMap, key_from}
use Rattle.oct_key.specs.Values.{Values}
use Rattle.oct_key.specs.Block.{Cube, HoldsVoxel, side}
use Rattle.oct_values.specs.Blocks.{blocks_below}
use Rattle.oct_values.specs.Counts.{is_uniform}
use Rattle.oct_arena.specs.declared.node.Node.{Node}
use Rattle.oct_arena.specs.declared.node.Node.TheVariants.{Absent}
use Rattle.oct_tree.specs.declared.place.Place.{Place}
use Rattle.oct_tree.specs.Tree.{Tree, IsPlace, node_in, reach, value_at}
use Rattle.oct_shift.specs.declared.offset.Offset.{Offset}
use Rattle.oct_shift.specs.declared.offset.AxisStep.{AxisStep}
use Rattle.oct_shift.specs.declared.offset.Step.{Step}
use Rattle.oct_shift.specs.declared.row.Row.{Row}
use Rattle.oct_shift.specs.Shifted.{value_from}

-- the number of a voxel that has this one on an axis that begins before the map
abbrev pub lifted : ℕ → Option ℕ
lifted m =
    if nat_lt m 65536 then None else if nat_lt m 131072 then Some (m - 65536) else None

-- the voxel that comes to a voxel, by what is to be added to its numbers
abbrev pub before : Offset → Voxel → Option Voxel
before o k = key_from (lifted (k.x + o.x)) (lifted (k.y + o.y)) (lifted (k.z + o.z))

-- the value of each voxel of the moved map
abbrev pub moved_values : Tree → Offset → Values
moved_values t o k = value_from (value_at t) (before o k)

-- what is carried on an axis into the numbers of blocks of this depth, where the two are added
abbrev pub carry : ℕ → ℕ → ℕ → ℕ
carry depth a v = (v % side depth + a % side depth) / side depth

-- which of the eight blocks that the block of a voxel comes from has the voxel that comes to it
abbrev pub part_of : ℕ → Offset → Voxel → ℕ
part_of depth o k = carry depth o.x k.x + 2 * carry depth o.y k.y + 4 * carry depth o.z k.z

-- the node over the block of this depth that has a voxel, and an absent one where there is none
abbrev pub node_from : Tree → ℕ → Option Voxel → Node
node_from t depth None = Absent
node_from t depth (Some k) = reach t depth k

-- a node of a tree, or an absent one
abbrev pub IsNodeOf : Tree → Node → Type 0
IsNodeOf t n = (n ≡ Absent) ⊎ ((p : Place) × IsPlace t p × (node_in t p ≡ n))

-- node j of a row
abbrev pub node_of_row : Row → ℕ → Node
node_of_row row j = slice_index_or row.nodes j Absent

-- The nodes that a block of the moved map comes from: of each of its voxels, the node over the
-- voxel that comes to it. A voxel comes from one block, whose node stands eight times.
pub record IsRow (t : Tree) (o : Offset) (b : Cube) (row : Row) : Type 0 where
  pub met : (k : Voxel) → IsInMap k → HoldsVoxel b k
      → node_of_row row (part_of b.depth o k) ≡ node_from t b.depth (before o k)
  pub nodes : (j : ℕ) → j < 8 → IsNodeOf t (node_of_row row j)
  pub alike : b.depth ≡ 16 → (j : ℕ) → j < 8 → node_of_row row j ≡ node_of_row row 0

-- node j of the row of the whole map comes from the whole map: on each axis it begins there
pub record IsAtRoot (o : Offset) (j : ℕ) : Type 0 where
  pub x : o.x / 65536 + j % 2 ≡ 1
  pub y : o.y / 65536 + j / 2 % 2 ≡ 1
  pub z : o.z / 65536 + j / 4 % 2 ≡ 1

-- node j of the row of the whole map: the root where it comes from the map, and else an absent one
pub record IsRootNode (t : Tree) (o : Offset) (j : ℕ) (n : Node) : Type 0 where
  pub node : IsNodeOf t n
  pub there : IsAtRoot o j → n ≡ t.root
  pub beside : (IsAtRoot o j → ⊥) → n ≡ Absent

-- what an offset says on an axis of the step to a depth
pub record IsAxisStep (depth a : ℕ) (s : AxisStep) : Type 0 where
  pub bit : s.bit ≡ a / side depth % 2
  pub whole : (s.is_cut ≡ false) ↔ (a % side depth ≡ 0)

-- and on all axes
pub record IsStep (depth : ℕ) (o : Offset) (way : Step) : Type 0 where
  pub x : IsAxisStep depth o.x way.x
  pub y : IsAxisStep depth o.y way.y
  pub z : IsAxisStep depth o.z way.z

-- where a half of a block comes from, in halves of the first of the two blocks that it comes from
abbrev pub place_of : AxisStep → ℕ → ℕ → ℕ
place_of s half second = half + s.bit + (if s.is_cut then second else 0)

-- which node of a block's row, and which child of it, node j of the row of child i comes from
abbrev pub from_node : Step → ℕ → ℕ → ℕ
from_node way i j = place_of way.x (i % 2) (j % 2) / 2
    + 2 * (place_of way.y (i / 2 % 2) (j / 2 % 2) / 2)
    + 4 * (place_of way.z (i / 4 % 2) (j / 4 % 2) / 2)

abbrev pub from_child : Step → ℕ → ℕ → ℕ
from_child way i j = place_of way.x (i % 2) (j % 2) % 2
    + 2 * (place_of way.y (i / 2 % 2) (j / 2 % 2) % 2)
    + 4 * (place_of way.z (i / 4 % 2) (j / 4 % 2) % 2)

-- how many blocks of depth 0 to 15 in a block have several values, itself among them
abbrev pub groups_in : Values → Cube → ℕ
groups_in v b = count_by (λ c. not (is_uniform v c)) (blocks_below (16 - b.depth) b)

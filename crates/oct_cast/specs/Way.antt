-- The way down a tree to a voxel, as a cast keeps it from one voxel to the next.
use Rattle.std.specs.Prelude.{◌≡◌, ℕ, ◌-◌, ◌*◌, ◌^◌, ◌<◌, ◌≤◌, ℤ, pos, neg_ℤ, ◌≤ℤ◌, ◌<ℤ◌, ⊤}
use Rattle.std.specs.Prelude.{Bool, false, List, slice_index_or, Option, Some, None}
use Rattle.std.specs.Prelude.{if◌then◌else◌}
use Rattle.oct_key.specs.Voxel.{Voxel, IsInMap}
use Rattle.oct_key.specs.Morton.{morton_of, code_prefix}
use Rattle.oct_odds.specs.declared.event.Class.{Class}
use Rattle.oct_odds.specs.declared.event.Class.TheVariants.{Unknown}
use Rattle.oct_arena.specs.declared.node.GroupId.{GroupId}
use Rattle.oct_arena.specs.declared.node.Node.{Node}
use Rattle.oct_arena.specs.declared.node.Node.TheVariants.{Absent, Leaf, Inner}
use Rattle.oct_arena.specs.Nodes.{link_of}
use Rattle.oct_tree.specs.Classes.{classes_in}
use Rattle.oct_tree.specs.Tree.{Tree, reach}
use Rattle.oct_cast.specs.declared.outcome.Cast.{Cast}
use Rattle.oct_cast.specs.declared.way.Way.{Way}
use Rattle.oct_cast.specs.Cast.{stops, stopped_at}

-- the code is that of the voxel
abbrev pub IsCodeOf : ℕ → Voxel → Type 0
IsCodeOf code k = IsInMap k × (code ≡ morton_of k)

-- the nodes over the voxel that lie above this depth link these groups, depth by depth
abbrev pub AreLinked : Tree → List GroupId → ℕ → Voxel → Type 0
AreLinked t groups depth k = (d : ℕ) (g : GroupId) → d < depth
    → link_of (reach t d k) ≡ Some (slice_index_or groups d g).number

-- a way ends at a node that isn't Inner, or whose value, one of 32 bits, is below the floor
abbrev pub IsLast : ℤ → Node → Type 0
IsLast floor Absent = ⊤
IsLast floor (Leaf v) = ⊤
IsLast floor (Inner v id) = (neg_ℤ (pos (2 ^ 31)) ≤ℤ v) × (v <ℤ floor)

-- under an Inner node below the floor no voxel stops a cast, nor would an unknown one
abbrev pub IsFloor : Tree → Bool → ℤ → Type 0
IsFloor t ignore floor = (k : Voxel) (d : ℕ) (v : ℤ) (id : GroupId) → d ≤ 16
    → reach t d k ≡ Inner v id → IsLast floor (Inner v id)
    → (stops ignore Unknown ≡ false) × (stops ignore (classes_in t k) ≡ false)

-- the way leads to the voxel: through the groups that are linked, to the node at which it ends
pub record LeadsTo (t : Tree) (way : Way) (k : Voxel) : Type 0 where
  pub on_map : IsInMap k
  pub deep : way.depth ≤ 16
  pub height : way.height ≡ 3 * (16 - way.depth)
  pub block : way.block ≡ code_prefix way.depth (morton_of k)
  pub linked : AreLinked t way.groups way.depth k
  pub ends : IsLast way.floor (reach t way.depth k)

-- a cast wasn't stopped by a voxel that the way leads to
pub record HasPassed (t : Tree) (ignore : Bool) (way : Way) : Type 0 where
  pub floor : IsFloor t ignore way.floor
  pub voxel : Voxel
  pub leads : LeadsTo t way voxel
  pub passed : stops ignore (classes_in t voxel) ≡ false

-- what a cast answers at a voxel of this class, if the voxel stops it
abbrev pub stop_at : Bool → Class → Voxel → Option Cast
stop_at ignore class k = if stops ignore class then Some (stopped_at class k) else None

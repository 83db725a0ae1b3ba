-- What changes from one tree to another.
use Rattle.std.specs.Prelude.{◌≡◌, ◌≢◌, ℕ, ◌+◌, ◌<◌, ◌≤◌, ℤ, length, Some, None}
use Rattle.oct_key.specs.Voxel.{Voxel, IsInMap}
use Rattle.oct_key.specs.Values.{Values}
use Rattle.oct_key.specs.Block.{Cube, HoldsVoxel, LiesIn}
use Rattle.oct_odds.specs.Update.{Value}
use Rattle.oct_arena.specs.declared.node.GroupId.{GroupId}
use Rattle.oct_arena.specs.declared.node.Node.{Node}
use Rattle.oct_arena.specs.declared.node.Node.TheVariants.{Absent, Inner}
use Rattle.oct_arena.specs.Entries.{entry, home_at, node_at, spare}
use Rattle.oct_tree.specs.Nodes.{IsAll, IsCollapsible, IsGreatest}
use Rattle.oct_arena.specs.Nodes.{link_of}
use Rattle.oct_tree.specs.Places.{group_of}
use Rattle.oct_tree.specs.Tree.{Tree, node_in, block_in}
use Rattle.oct_tree.specs.declared.place.Place.{Place}

-- the second map gives each voxel of a block this value, and every other voxel what the first gives
-- it
pub record SetsBlock (v w : Values) (b : Cube) (o : Value) : Type 0 where
  pub inside : (k : Voxel) → IsInMap k → HoldsVoxel b k → w k ≡ o
  pub outside : (k : Voxel) → IsInMap k → (HoldsVoxel b k → ⊥) → w k ≡ v k

-- The second tree has this node at the place. All other nodes, all homes and all other entries are
-- as in the first, and so are the resolution and the log-odds.
pub record IsWritten (t u : Tree) (p : Place) (n : Node) : Type 0 where
  pub there : node_in u p ≡ n
  pub others : (q : Place) → q ≢ p → node_in u q ≡ node_in t q
  pub homes : (x : ℕ) → home_at u.groups x ≡ home_at t.groups x
  pub entries : (x : ℕ) → group_of p ≢ Some x → entry u.groups x ≡ entry t.groups x
  pub length : length u.groups ≡ length t.groups
  pub spare : spare u.groups ≡ spare t.groups
  pub res : u.res ≡ t.res
  pub odds : u.odds ≡ t.odds

-- The second tree has one more group: under the place, with eight copies of the node that stands
-- there in the first, and linked by the place with this inner value. All other nodes, homes and
-- entries are as in the first, and so are the resolution and the log-odds.
pub record IsSplit (t u : Tree) (p : Place) (id : GroupId) (v : ℤ) : Type 0 where
  pub vacant : entry t.groups id.number ≡ None
  pub home : home_at u.groups id.number ≡ block_in t p
  pub link : node_in u p ≡ Inner v id
  pub copies : (i : ℕ) → i < 8 → node_at u.groups id.number i ≡ node_in t p
  pub others : (q : Place) → q ≢ p → group_of q ≢ Some id.number → node_in u q ≡ node_in t q
  pub homes : (x : ℕ) → x ≢ id.number → home_at u.groups x ≡ home_at t.groups x
  pub entries : (x : ℕ) → x ≢ id.number → group_of p ≢ Some x → entry u.groups x ≡ entry t.groups x
  pub length : length u.groups ≡ length t.groups
  pub spare : spare u.groups + 1 ≡ spare t.groups
  pub res : u.res ≡ t.res
  pub odds : u.odds ≡ t.odds

-- the node at a place is Inner, and its group says no more than one node does
abbrev pub CanCollapse : Tree → Place → Type 0
CanCollapse t p = (id : ℕ) × (link_of (node_in t p) ≡ Some id) × IsCollapsible t.groups id

-- the node at a place is Inner, and nothing is known in its group
abbrev pub CanDrop : Tree → Place → Type 0
CanDrop t p = (id : ℕ) × (link_of (node_in t p) ≡ Some id) × IsAll t.groups id Absent

-- the group that the place linked is given back, and its node stands at the place: a split of the
-- place would undo it
abbrev pub IsCollapsed : Tree → Tree → Place → Type 0
IsCollapsed t u p = (id : GroupId) (v : ℤ) → node_in t p ≡ Inner v id → IsSplit u t p id v

-- the inner value at the place is the greatest of its group, and all else is as it was
abbrev pub IsRenewed : Tree → Tree → Place → Type 0
IsRenewed t u p = (id : GroupId) (v : ℤ) → node_in t p ≡ Inner v id
    → (m : ℤ) × IsGreatest t.groups id.number m × IsWritten t u p (Inner m id)

-- more entries, all of them vacant, and all else as it was
pub record IsGrown (t u : Tree) : Type 0 where
  pub entries : (x : ℕ) → entry u.groups x ≡ entry t.groups x
  pub length : length t.groups ≤ length u.groups
  pub spare : spare t.groups ≤ spare u.groups
  pub root : u.root ≡ t.root
  pub res : u.res ≡ t.res
  pub odds : u.odds ≡ t.odds

-- Outside a block the second tree is as the first: the groups whose homes don't lie within it are
-- the same, and so are the nodes of blocks that don't, which are those that hold it and those that
-- hold no voxel of it.
pub record IsSameOutside (t u : Tree) (b : Cube) : Type 0 where
  pub kept : (x : ℕ) (c : Cube) → (LiesIn c b → ⊥) → home_at t.groups x ≡ Some c
      → home_at u.groups x ≡ Some c
  pub made : (x : ℕ) (c : Cube) → (LiesIn c b → ⊥) → home_at u.groups x ≡ Some c
      → home_at t.groups x ≡ Some c
  pub nodes : (q : Place) (c : Cube) → (LiesIn c b → ⊥) → block_in t q ≡ Some c
      → node_in u q ≡ node_in t q
  pub length : length u.groups ≡ length t.groups
  pub res : u.res ≡ t.res
  pub odds : u.odds ≡ t.odds

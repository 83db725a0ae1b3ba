-- What an edit does to a tree where some voxels have an event: one voxel, those of a scan, or those
-- of a box.
use Rattle.std.specs.Prelude.{◌≡◌, ℕ, ◌<◌, ◌≤◌, ℤ, ◌⊎◌, Some, None}
use Rattle.oct_key.specs.Voxel.{Voxel, IsInMap}
use Rattle.oct_key.specs.Block.{Cube, HoldsVoxel}
use Rattle.oct_values.specs.Events.{Events, updated}
use Rattle.oct_values.specs.Needs.{IsReached}
use Rattle.oct_arena.specs.declared.node.GroupId.{GroupId}
use Rattle.oct_arena.specs.declared.node.Node.{Node}
use Rattle.oct_arena.specs.declared.node.Node.TheVariants.{Absent, Leaf, Inner}
use Rattle.oct_arena.specs.Entries.{entry, home_at}
use Rattle.oct_key.specs.Values.{SameValues}
use Rattle.oct_tree.specs.Nodes.{IsCollapsible, IsGreatest, inherited}
use Rattle.oct_arena.specs.Nodes.{value_of}
use Rattle.oct_tree.specs.Shape.{IsWellFormed, IsFresh, IsPruned}
use Rattle.oct_tree.specs.Tree.{Tree, node_in, reach, value_at}
use Rattle.oct_tree.specs.declared.place.Place.{Place}
use Rattle.oct_edit.specs.Saturated.{TakesFrom}

-- each group whose home no event reaches stands as it did, entry by entry
abbrev pub KeepsUnreached : Tree → Tree → Events → Type 0
KeepsUnreached t u events =
    (x : ℕ) (c : Cube) → (IsReached events c → ⊥) → home_at t.groups x ≡ Some c
    → entry u.groups x ≡ entry t.groups x

-- each group that doesn't stand as it did has a home that events reach
abbrev pub MakesReached : Tree → Tree → Events → Type 0
MakesReached t u events =
    (x : ℕ) (c : Cube) → home_at u.groups x ≡ Some c
    → (entry u.groups x ≡ entry t.groups x) ⊎ IsReached events c

-- each Inner node over a group whose home no event reaches stood there before, with its value
abbrev pub KeepsUnreachedInner : Tree → Tree → Events → Type 0
KeepsUnreachedInner t u events =
    (q : Place) (id : GroupId) (v : ℤ) (c : Cube) → (IsReached events c → ⊥)
    → node_in u q ≡ Inner v id → home_at u.groups id.number ≡ Some c → node_in t q ≡ Inner v id

-- a block that is the home of a group, and was none's before, holds a voxel that takes something
-- from its event
abbrev pub ExpandsTakers : Tree → Tree → Events → Type 0
ExpandsTakers t u events =
    (x : ℕ) (c : Cube) → home_at u.groups x ≡ Some c
    → ((y : ℕ) × (home_at t.groups y ≡ Some c))
    ⊎ ((k : Voxel) × HoldsVoxel c k × TakesFrom t.odds events (value_at t) k)

-- What every edit of these events does: each voxel has the value after its event, and all that no
-- event reaches is as it was. A leaf of which no voxel takes anything isn't expanded.
pub record IsEdited (t u : Tree) (events : Events) : Type 0 where
  pub values : SameValues (updated t.odds events (value_at t)) (value_at u)
  pub well_formed : IsWellFormed u
  pub res : u.res ≡ t.res
  pub odds : u.odds ≡ t.odds
  pub kept : KeepsUnreached t u events
  pub made : MakesReached t u events
  pub inner : KeepsUnreachedInner t u events
  pub expanded : ExpandsTakers t u events

-- on the path from the root to a voxel, each inner value is the greatest of its group, and no group
-- is collapsible
abbrev pub IsTidyAlong : Tree → Voxel → Type 0
IsTidyAlong t k =
    (depth : ℕ) (v : ℤ) (id : GroupId) → depth ≤ 16 → reach t depth k ≡ Inner v id
    → IsGreatest t.groups id.number v × (IsCollapsible t.groups id.number → ⊥)

-- What an eager edit does besides: the path to each voxel that takes something from its event is
-- tidy, whatever the tree was, and a fresh tree stays fresh, and a pruned one pruned.
pub record IsEagerEdit (t u : Tree) (events : Events) : Type 0 where
  pub path : (k : Voxel) → IsInMap k → TakesFrom t.odds events (value_at t) k → IsTidyAlong u k
  pub fresh : IsFresh t → IsFresh u
  pub pruned : IsPruned t → IsPruned u

-- What a lazy edit may make of a node: an Inner node stays as it is, or becomes absent; another
-- node may come to link a group, with the value that it had, or 0.
abbrev pub MayBecome : Node → Node → Type 0
MayBecome Absent n = (v : ℤ) (id : GroupId) → n ≡ Inner v id → v ≡ inherited Absent
MayBecome (Leaf w) n = (v : ℤ) (id : GroupId) → n ≡ Inner v id → v ≡ inherited (Leaf w)
MayBecome (Inner w x) n = (n ≡ Inner w x) ⊎ (n ≡ Absent)

-- wherever a path comes, the node is what a lazy edit may make of the one before
abbrev pub BecomesLazily : Tree → Tree → Type 0
BecomesLazily t u =
    (depth : ℕ) (q : Voxel) → depth ≤ 16 → IsInMap q → MayBecome (reach t depth q) (reach u depth q)

-- What a lazy edit does besides: inner values stay, and no group is collapsed, not even one that
-- the edit made. So the nodes above a voxel that takes something from its event are Inner, or
-- absent where nothing is known of their block any more, and none is a leaf.
pub record IsLazyEdit (t u : Tree) (events : Events) : Type 0 where
  pub nodes : BecomesLazily t u
  pub expanded : (depth : ℕ) (k : Voxel) → depth < 16 → IsInMap k
      → TakesFrom t.odds events (value_at t) k → value_of (reach u depth k) ≡ None

-- What refreshing and pruning make so at each place, and what they keep.
use Rattle.std.specs.Prelude.{◌≡◌, ℤ}
use Rattle.oct_arena.specs.declared.node.GroupId.{GroupId}
use Rattle.oct_arena.specs.declared.node.Node.TheVariants.{Inner}
use Rattle.oct_tree.specs.Nodes.{IsGreatest}
use Rattle.oct_tree.specs.Tree.{Tree, node_in, value_at}
use Rattle.oct_tree.specs.Shape.{IsFresh, IsPruned}
use Rattle.oct_tree.specs.Changes.{CanCollapse}
use Rattle.oct_key.specs.Values.{SameValues}
use Rattle.oct_tree.specs.declared.place.Place.{Place}
use Rattle.oct_inner.specs.Changes.{IsSameButInner, IsShrunk}

-- the value of the place's node, if that is Inner, is the greatest of its group
abbrev pub IsFreshAt : Tree → Place → Type 0
IsFreshAt t p = (id : GroupId) (v : ℤ) → node_in t p ≡ Inner v id → IsGreatest t.groups id.number v

-- the place's group, if it links one, is not collapsible
abbrev pub IsPrunedAt : Tree → Place → Type 0
IsPrunedAt t p = CanCollapse t p → ⊥

-- what refreshing keeps
pub record IsRefreshing (t u : Tree) : Type 0 where
  pub values : SameValues (value_at t) (value_at u)
  pub nodes : IsSameButInner t u
  pub fresh : IsFresh t → u ≡ t

-- what pruning keeps
pub record IsPruning (t u : Tree) : Type 0 where
  pub values : SameValues (value_at t) (value_at u)
  pub groups : IsShrunk t u
  pub fresh : IsFresh t → IsFresh u
  pub pruned : IsPruned t → u ≡ t

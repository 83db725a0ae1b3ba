-- What calls for the map as a whole make of it.
use Rattle.std.specs.Prelude.{◌≡◌, ◌≤◌, false, [], Some, None, length}
use Rattle.oct_arena.specs.declared.node.Node.TheVariants.{Absent}
use Rattle.oct_arena.specs.Entries.{live}
use Rattle.oct_inner.specs.Changes.{IsSameButInner, IsShrunk}
use Rattle.oct_key.specs.Values.{SameValues}
use Rattle.oct_map.specs.Edits.{entries_of}
use Rattle.oct_map.specs.Map.{Map, IsMap, ground_of, values_of}
use Rattle.oct_map.specs.Marks.{KeepsMark}
use Rattle.oct_odds.specs.declared.event.Event.TheVariants.{Likely}
use Rattle.oct_query.specs.Leaves.{leaves_of}
use Rattle.oct_tree.specs.Shape.{IsFresh, IsPruned}
use Rattle.oct_values.specs.Counts.{group_count, node_count}
use Rattle.oct_values.specs.Events.{updated}
use Rattle.octofix.specs.declared.types.LeastTree.{LeastTree}
use Rattle.octofix.specs.declared.types.TreeCounts.{TreeCounts}

-- the inner values are those of the voxels
pub record IsRefreshed (m n : Map) : Type 0 where
  pub fresh : IsFresh n.tree
  pub same : IsFresh m.tree → n.tree ≡ m.tree
  pub nodes : IsSameButInner m.tree n.tree
  pub values : SameValues (values_of m) (values_of n)
  pub stale : n.is_stale ≡ false
  pub notes : n.mark ≡ m.mark
  pub mark : KeepsMark m n
  pub pruned : IsPruned m.tree → IsPruned n.tree
  pub ground : ground_of n ≡ ground_of m
  pub map : IsMap n

-- the groups are gone that the values don't need
pub record IsTrimmed (m n : Map) : Type 0 where
  pub pruned : IsPruned n.tree
  pub same : IsPruned m.tree → n ≡ m
  pub groups : IsShrunk m.tree n.tree
  pub values : SameValues (values_of m) (values_of n)
  pub stale : n.is_stale ≡ m.is_stale
  pub notes : n.mark ≡ m.mark
  pub mark : KeepsMark m n
  pub ground : ground_of n ≡ ground_of m
  pub map : IsMap n

-- the same, where a fresh map stays fresh
abbrev pub IsPrunedBy : Map → Map → Type 0
IsPrunedBy m n = IsTrimmed m n × (IsFresh m.tree → IsFresh n.tree)

-- each occupied voxel has the largest value, and each free one the smallest
pub record IsSurest (m n : Map) : Type 0 where
  pub values : SameValues (updated m.tree.odds (λ _. Some Likely) (values_of m)) (values_of n)
  pub fresh : IsFresh n.tree
  pub pruned : IsPruned n.tree
  pub stale : n.is_stale ≡ false
  pub groups : live n.tree.groups ≤ live m.tree.groups
  pub entries : entries_of n ≡ entries_of m
  pub notes : n.mark ≡ m.mark
  pub mark : KeepsMark m n
  pub ground : ground_of n ≡ ground_of m
  pub map : IsMap n

-- the map of the unknown world, without a mark, with what it went by
abbrev pub cleared : Map → Map
cleared m = record m {
  tree = record m.tree { groups = []; root = Absent };
  is_stale = false;
  mark = None;
}

-- the least groups and nodes of a map's values
abbrev pub counts_in : Map → TreeCounts
counts_in m = record { groups = group_count (values_of m); nodes = node_count (values_of m) }

-- the groups, nodes and leaves of the least tree of a map's values
abbrev pub least_in : Map → LeastTree
least_in m = record {
  groups = group_count (values_of m);
  nodes = node_count (values_of m);
  leaves = length (leaves_of (values_of m));
}

-- What a call does to a map that has an event for some voxels: an edit of one, or a scan.
use Rattle.std.specs.Prelude.{◌≡◌, ℕ, ◌+◌, ◌*◌, ◌≤◌, nat_lt, ◌||◌, ◌⊎◌, Bool, IsTrue, if◌then◌else◌}
use Rattle.oct_key.specs.Values.{SameValues}
use Rattle.oct_values.specs.Counts.{group_count}
use Rattle.oct_values.specs.Events.{Events, updated}
use Rattle.oct_arena.specs.Entries.{live, spare}
use Rattle.oct_tree.specs.Tree.{Tree, value_at}
use Rattle.oct_tree.specs.Changes.{IsGrown}
use Rattle.oct_tree.specs.Shape.{IsFresh, IsPruned}
use Rattle.oct_edit.specs.Edits.{IsEdited, IsEagerEdit, IsLazyEdit}
use Rattle.oct_inner.specs.Changes.{IsShrunk}
use Rattle.oct_scan.specs.Beam.{Sighting}
use Rattle.oct_map.specs.declared.fault.MapFault.{MapFault}
use Rattle.oct_map.specs.declared.fault.MapFault.TheVariants.{Full}
use Rattle.oct_map.specs.Map.{Map, HasRoomFor, values_of, ground_of}
use Rattle.oct_map.specs.Answers.{edit_need}
use Rattle.oct_map.specs.Notes.{HasRoomForNotes}
use Rattle.oct_map.specs.Outcome.{outcome_of, need_of}

-- the events of a scan in this map
abbrev pub outcome_in : Map → Sighting → Events
outcome_in m scan = outcome_of (ground_of m) scan

-- the most groups that the scan may need in this map
abbrev pub scan_need : Map → Sighting → ℕ
scan_need m scan = need_of (ground_of m) scan

-- The tree of a map, fitted to this many groups more: where there is room for them, it is as it
-- was. Else groups may be gone that the values don't need, and nothing else is changed.
pub record IsFitted (m : Map) (need : ℕ) (t : Tree) : Type 0 where
  pub own : HasRoomFor m need → t ≡ m.tree
  pub shrunk : IsShrunk m.tree t
  pub values : SameValues (values_of m) (value_at t)

-- the tree of a map, fitted to this many groups more, with vacant entries besides
abbrev pub IsRoomy : Map → ℕ → Tree → Type 0
IsRoomy m need u = (t : Tree) × IsFitted m need t × IsGrown t u

-- What a call that is done leaves, which has these events and may need this many groups: each voxel
-- has the value after its event, and the map is stale where it was, or where the call is lazy. The
-- tree is fitted, and then edited by the events alone: nothing else is pruned, and inner values
-- stay where the call is lazy.
pub record IsMapEdited (m n : Map) (events : Events) (need : ℕ) (lazy : Bool) : Type 0 where
  pub values : SameValues (updated m.tree.odds events (values_of m)) (values_of n)
  pub stale : n.is_stale ≡ (m.is_stale || lazy)
  pub eager : (IsTrue lazy → ⊥) → IsEagerEdit m.tree n.tree events
  pub fitted : Tree
  pub fits : IsFitted m need fitted
  pub edited : IsEdited fitted n.tree events
  pub lazily : IsTrue lazy → IsLazyEdit fitted n.tree events

-- What a call that is refused for this fault leaves, which may have needed this many groups: each
-- value, the stale flag and the mark as they were, and no group more. The tree is fitted at most,
-- but for vacant entries, and one refused as full leaves it pruned, and no more than pruned.
pub record IsMapRefused (m n : Map) (fault : MapFault) (need : ℕ) : Type 0 where
  pub values : SameValues (values_of m) (values_of n)
  pub stale : n.is_stale ≡ m.is_stale
  pub mark : n.mark ≡ m.mark
  pub pruned : IsPruned m.tree → IsPruned n.tree
  pub live : live n.tree.groups ≤ live m.tree.groups
  pub roomy : IsRoomy m need n.tree
  pub full : (groups more : ℕ) → fault ≡ Full groups more
      → IsPruned n.tree × IsShrunk m.tree n.tree

-- the entries of a map: its groups, and those that it can still make without taking memory
abbrev pub entries_of : Map → ℕ
entries_of m = live m.tree.groups + spare m.tree.groups

-- the groups that a map has once it is fitted to this many more: its own where there is room for
-- them, and else as many as its values need
abbrev pub fitted_groups : Map → ℕ → ℕ
fitted_groups m need =
    if nat_lt m.max_groups (live m.tree.groups + need) then group_count (values_of m)
    else live m.tree.groups

-- a map that is fitted to this many groups more can make them without taking memory
abbrev pub HasEntriesFor : Map → ℕ → Type 0
HasEntriesFor m need = fitted_groups m need + need ≤ entries_of m

-- it can't
abbrev pub LacksEntries : Map → ℕ → Type 0
LacksEntries m need = HasEntriesFor m need → ⊥

-- A call that may need this many groups takes memory for no more than these and 1,023 entries,
-- beyond the groups that the fitted map has and beyond those that it may have, and none where it
-- can make them without. It gives no entry away.
pub record ReservesFew (m n : Map) (need : ℕ) : Type 0 where
  pub kept : entries_of m ≤ entries_of n
  pub enough : HasEntriesFor m need → entries_of n ≡ entries_of m
  pub few : (entries_of n ≡ entries_of m)
      ⊎ ((entries_of n ≤ fitted_groups m need + need + 1023)
      × (entries_of n ≤ m.max_groups + 1023))

-- A map is sure of this many edits of one voxel each: it can make the groups that they may need
-- without taking memory and without being pruned, and can note the class of each voxel.
pub record IsSureOf (m : Map) (count : ℕ) : Type 0 where
  pub entries : edit_need * count ≤ spare m.tree.groups
  pub groups : HasRoomFor m (edit_need * count)
  pub notes : HasRoomForNotes m.mark count

-- working word: what pruning leaves of a map beside its groups: ground, values, flag and mark are
-- as they were, inner values that are right stay right, and a pruned tree stays pruned
pub record KeepsAllElse (m u : Map) : Type 0 where
  pub setup : ground_of u ≡ ground_of m
  pub values : SameValues (values_of m) (values_of u)
  pub stale : u.is_stale ≡ m.is_stale
  pub notes : u.mark ≡ m.mark
  pub fresh : IsFresh m.tree → IsFresh u.tree
  pub pruned : IsPruned m.tree → IsPruned u.tree

-- working word: what making room for this many groups leaves of a map
pub record IsReadied (m u : Map) (need : ℕ) : Type 0 where
  pub setup : ground_of u ≡ ground_of m
  pub values : SameValues (values_of m) (values_of u)
  pub stale : u.is_stale ≡ m.is_stale
  pub notes : u.mark ≡ m.mark
  pub fresh : IsFresh m.tree → IsFresh u.tree
  pub pruned : IsPruned m.tree → IsPruned u.tree
  pub live : live u.tree.groups ≤ live m.tree.groups
  pub roomy : IsRoomy m need u.tree
  pub reserved : ReservesFew m u need

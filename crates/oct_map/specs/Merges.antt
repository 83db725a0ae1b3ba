-- What a merge of another map makes of a map.
use Rattle.std.specs.Prelude.{◌≡◌, ℕ, ◌+◌, ◌<◌, ◌≤◌, nat_lt, Bool, true, false, ◌&&◌, not, ⊤}
use Rattle.std.specs.Prelude.{◌⊎◌, Option, Some, None, is_some, Result, Ok, Err, IsOk, OnOk}
use Rattle.std.specs.Prelude.{count_by, if◌then◌else◌}
use Rattle.oct_key.specs.Boxes.{IsInBox, Window, box_volume}
use Rattle.oct_key.specs.Voxel.{Voxel, IsInMap}
use Rattle.oct_key.specs.Block.{Cube}
use Rattle.oct_key.specs.Values.{Values, SameValues}
use Rattle.oct_odds.specs.declared.event.Event.TheVariants.{Forget}
use Rattle.oct_values.specs.Blocks.{blocks_above_voxels}
use Rattle.oct_values.specs.Counts.{is_uniform, group_count}
use Rattle.oct_values.specs.Boxes.{box_events}
use Rattle.oct_values.specs.Events.{Events}
use Rattle.oct_arena.specs.Entries.{live}
use Rattle.oct_tree.specs.Changes.{IsGrown}
use Rattle.oct_tree.specs.Shape.{IsPruned}
use Rattle.oct_tree.specs.Tree.{Tree}
use Rattle.oct_edit.specs.Edits.{IsEdited}
use Rattle.oct_inner.specs.Changes.{IsShrunk}
use Rattle.oct_query.specs.Extent.{IsExtent, IsFound}
use Rattle.oct_query.specs.declared.sought.Sought.TheVariants.{Known}
use Rattle.oct_merge.specs.Merged.{merge_event, merged}
use Rattle.oct_merge.specs.declared.rule.Rule.{Rule}
use Rattle.oct_map.specs.declared.fault.MapFault.{MapFault}
use Rattle.oct_map.specs.declared.fault.MapFault.TheVariants.{Full, Memory, WideWhileTracked}
use Rattle.oct_map.specs.Map.{Map, IsMap, ground_of, values_of}
use Rattle.oct_map.specs.Answers.{IsAnswerOrMemory, most_noted, room_answer}
use Rattle.oct_map.specs.Edits.{KeepsAllElse, entries_of}
use Rattle.oct_map.specs.Marks.{KeepsMark, classes_in}
use Rattle.oct_map.specs.Notes.{LacksNotes, NotesFew}

-- the value of each voxel in the merged map
abbrev pub merged_values : Rule → Values → Values → Values
merged_values rule v w k = merged rule (v k) (w k)

-- whether the block has one value in the first map, and several in the second
abbrev pub is_parted_by : Values → Values → Cube → Bool
is_parted_by v w b = not (is_uniform w b) && is_uniform v b

-- how many groups the values of the second map need beside those that the first one needs: one for
-- each block of depth 0 to 15 that has several values in the second map alone
unfoldable pub more_groups : Values → Values → ℕ
more_groups v w = count_by (is_parted_by v w) blocks_above_voxels

-- a voxel lies in a box, where one is given
abbrev pub IsInGiven : Option Window → Voxel → Type 0
IsInGiven None k = ⊥
IsInGiven (Some box) k = IsInBox box.lo box.hi k

-- how many voxels it has
abbrev pub given_volume : Option Window → ℕ
given_volume None = 0
given_volume (Some box) = box_volume box.lo box.hi

-- some event on each of them, and nothing elsewhere
abbrev pub given_events : Option Window → Events
given_events None k = None
given_events (Some box) k = box_events box.lo box.hi Forget k

-- the box whose voxels are noted before a merge, where a mark stands, by the least box around what
-- the other map knows; or it is too wide
abbrev pub note_answer : Bool → Option Window → Result (Option Window) MapFault
note_answer false extent = Ok None
note_answer true None = Ok None
note_answer true (Some box) =
    if nat_lt most_noted (box_volume box.lo box.hi)
    then Err (WideWhileTracked (box_volume box.lo box.hi)) else Ok (Some box)

-- a merge is refused since this box has too many voxels
abbrev pub IsWide : MapFault → Type 0
IsWide fault = (count : ℕ) × (fault ≡ WideWhileTracked count)

-- the least box around the known voxels of a map
abbrev pub IsKnownBox : Map → Option Window → Type 0
IsKnownBox m box = IsExtent (IsFound (classes_in m) Known) box

-- a fault, or else the answer to what comes next
abbrev pub then_answer : Result (Option Window) MapFault → Result ⊤ MapFault → Result ⊤ MapFault
then_answer (Ok box) next = next
then_answer (Err fault) next = Err fault

-- there is room for the groups that either map needs, or there isn't
abbrev pub union_answer : ℕ → Values → Values → Result ⊤ MapFault
union_answer max_groups v w = room_answer max_groups v (more_groups v w)

-- The answer to a merge, by whether a mark stands, by the least box around what the other map
-- knows, and by the values of both: too many voxels to be noted, too many groups, or done.
abbrev pub merge_answer : Bool → Option Window → ℕ → Values → Values → Result ⊤ MapFault
merge_answer has_mark extent max_groups v w =
    then_answer (note_answer has_mark extent) (union_answer max_groups v w)

-- What pruning leaves of a map, or leaving it alone: it is as it was but for groups that its values
-- don't need.
pub record IsPrunedAtMost (m p : Map) : Type 0 where
  pub same : IsPruned m.tree → p ≡ m
  pub shrunk : IsShrunk m.tree p.tree
  pub keeps : KeepsAllElse m p

-- What a merge of the map o that is done leaves of a map: groups that its values don't need may be
-- gone, and the tree is then edited by the events of the merge alone, which depend on the values of
-- both. So inner values above no voxel that the other map knows stay, also where they are stale.
pub record IsMergedInto (rule : Rule) (m o n : Map) : Type 0 where
  pub fitted : Tree
  pub shrunk : IsShrunk m.tree fitted
  pub events : Events
  pub merging : (k : Voxel) → IsInMap k
      → events k ≡ merge_event rule (values_of m k) (values_of o k)
  pub edited : IsEdited fitted n.tree events

-- the tree of a map, without groups that its values don't need at most, and with vacant entries
abbrev pub IsLeft : Map → Map → Type 0
IsLeft m n = (t : Tree) × IsShrunk m.tree t × IsGrown t n.tree

-- What a merge that is refused for this fault leaves of a map: each value, the stale flag and the
-- mark as they were, no group more, and each inner value that is left. One that is refused as full
-- is pruned, and no more than that.
pub record IsMergeRefused (m n : Map) (fault : MapFault) : Type 0 where
  pub values : SameValues (values_of m) (values_of n)
  pub stale : n.is_stale ≡ m.is_stale
  pub mark : n.mark ≡ m.mark
  pub live : live n.tree.groups ≤ live m.tree.groups
  pub left : IsLeft m n
  pub full : (groups more : ℕ) → fault ≡ Full groups more
      → IsPruned n.tree × IsShrunk m.tree n.tree

-- A merge takes memory for no more than the groups that the values of the two maps need and 1,023
-- entries, also not for more than the map may have, and for none where its entries are enough. It
-- gives no entry away.
pub record IsMergeReserved (m n : Map) (w : Values) : Type 0 where
  pub kept : entries_of m ≤ entries_of n
  pub enough : group_count (values_of m) + more_groups (values_of m) w ≤ entries_of m
      → entries_of n ≡ entries_of m
  pub few : (entries_of n ≡ entries_of m)
      ⊎ ((entries_of n ≤ group_count (values_of m) + more_groups (values_of m) w + 1023)
      × (entries_of n ≤ m.max_groups + 1023))

-- What a merge of the map o answers: by the least box around what o knows where a mark stands, and
-- by the groups that the values of both need. Memory runs out only where neither refuses it, and
-- where some is taken.
pub record IsMergeAnswered (m o : Map) (done : Result ⊤ MapFault) : Type 0 where
  pub answer : (extent : Option Window) → IsKnownBox o extent → IsAnswerOrMemory
      (merge_answer (is_some m.mark) extent m.max_groups (values_of m) (values_of o)) done
  pub memory : done ≡ Err Memory
      → IsOk (union_answer m.max_groups (values_of m) (values_of o))
      × ((entries_of m < group_count (values_of m) + more_groups (values_of m) (values_of o))
      ⊎ ((extent : Option Window) → IsKnownBox o extent
      → LacksNotes m.mark (given_volume extent)))
  pub narrow : done ≡ Err Memory → (extent : Option Window) → IsKnownBox o extent
      → IsOk (note_answer (is_some m.mark) extent)

-- what a merge of the map o that is done makes of a map
pub record HasMerged (rule : Rule) (m o n : Map) : Type 0 where
  pub merged : SameValues (merged_values rule (values_of m) (values_of o)) (values_of n)
  pub edited : IsMergedInto rule m o n
  pub pruned : IsPruned n.tree

-- what each merge of the map o keeps of a map, done or refused: the stale flag, what a mark says of
-- classes, the box, the limits, and entries as far as they serve
pub record IsKeptByMerge (m o n : Map) : Type 0 where
  pub reserved : IsMergeReserved m n (values_of o)
  pub stale : n.is_stale ≡ m.is_stale
  pub mark : KeepsMark m n
  pub noted : (extent : Option Window) → IsKnownBox o extent
      → NotesFew m.mark n.mark (given_events extent) (given_volume extent)
  pub setup : ground_of n ≡ ground_of m
  pub map : IsMap n

-- what it leaves of the map o: it is pruned, where that came to pass
pub record IsLeftByMerge (o p : Map) (done : Result ⊤ MapFault) : Type 0 where
  pub kept : IsPrunedAtMost o p
  pub pruned : OnOk done (IsPruned p.tree)
  pub map : IsMap p

-- What a merge of a moved map makes of a map.
use Rattle.std.specs.Prelude.{◌≡◌, ◌<◌, ⊤, Option, Some, None, is_some, Result, Ok, Err}
use Rattle.std.specs.Prelude.{OnOk, IfErr, false, if◌then◌else◌}
use Rattle.oct_key.specs.Boxes.{Window}
use Rattle.oct_key.specs.Values.{Values, SameValues}
use Rattle.oct_values.specs.Counts.{group_count}
use Rattle.oct_tree.specs.Shape.{IsPruned}
use Rattle.oct_merge.specs.declared.rule.Rule.{Rule}
use Rattle.oct_shift.specs.declared.shift.Shift.{Shift}
use Rattle.oct_shift.specs.Shifted.{shifted, target}
use Rattle.oct_map.specs.declared.fault.MapFault.{MapFault}
use Rattle.oct_map.specs.declared.fault.MapFault.TheVariants.{Memory, Outside}
use Rattle.oct_map.specs.Map.{Map, values_of}
use Rattle.oct_map.specs.Loads.{fresh_room_answer}
use Rattle.oct_map.specs.Merges.{HasMerged, IsKeptByMerge, IsMergeAnswered, IsMergeRefused}
use Rattle.oct_map.specs.Merges.{note_answer, then_answer}

-- the value of each voxel of the moved map
abbrev pub moved_values : Shift → Map → Values
moved_values s o = shifted s (values_of o)

-- the corners of the least box around what a map knows stay in the map, or one of them leaves it
abbrev pub landing_answer : Shift → Option Window → Result ⊤ MapFault
landing_answer s None = Ok tt
landing_answer s (Some box) =
    if is_some (target s box.lo) then
    (if is_some (target s box.hi) then Ok tt else Err (Outside 2)) else Err (Outside 1)

-- a fault, or else the answer to what comes next
abbrev pub or_next : Result ⊤ MapFault → Result ⊤ MapFault → Result ⊤ MapFault
or_next (Ok _) next = next
or_next (Err fault) next = Err fault

-- why the moved map can't be made to be merged into a map: a corner of the box around what the
-- other one knows leaves the map, the box is too wide to be noted, or the moved map needs more
-- groups than the first one may have
abbrev pub shift_answer : Map → Option Window → Shift → Map → Result ⊤ MapFault
shift_answer m extent s o = or_next (landing_answer s extent)
    (then_answer (note_answer (is_some m.mark) extent)
    (fresh_room_answer m.max_groups (group_count (moved_values s o))))

-- a map that is the other one, moved
pub record IsMovedMap (s : Shift) (o moved : Map) : Type 0 where
  pub values : SameValues (moved_values s o) (values_of moved)
  pub pruned : IsPruned moved.tree
  pub stale : moved.is_stale ≡ false
  pub res : moved.tree.res ≡ o.tree.res
  pub odds : moved.tree.odds ≡ o.tree.odds

-- A merge of a map that is the other one, moved: all that a merge of it answers and leaves.
pub record IsShiftMerged (rule : Rule) (s : Shift) (m o n : Map) (done : Result ⊤ MapFault)
    : Type 0 where
  pub moved : Map
  pub is : IsMovedMap s o moved
  pub answered : IsMergeAnswered m moved done
  pub merged : OnOk done (HasMerged rule m moved n)
  pub refused : IfErr done (IsMergeRefused m n)
  pub kept : IsKeptByMerge m moved n

-- memory ran out for the moved map, which needs groups, and nothing was done
abbrev pub HasNoMemory : Shift → Map → Map → Map → Result ⊤ MapFault → Type 0
HasNoMemory s m o n done =
    (done ≡ Err Memory) × (n ≡ m) × (0 < group_count (moved_values s o))

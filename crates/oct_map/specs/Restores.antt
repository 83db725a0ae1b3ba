-- What a map answers to a snapshot that is to take its place, and what the snapshot leaves.
use Rattle.std.specs.Prelude.{◌≡◌, ℕ, ◌+◌, ◌≤◌, nat_lt, nat_eq, pos, false, Option, None, Result}
use Rattle.std.specs.Prelude.{Ok, Err, if◌then◌else◌}
use Rattle.oct_key.specs.Boxes.{Window}
use Rattle.oct_key.specs.Values.{SameValues}
use Rattle.oct_arena.specs.Entries.{live}
use Rattle.oct_tree.specs.Shape.{IsPruned}
use Rattle.oct_snap.specs.declared.fault.SnapFault.{SnapFault}
use Rattle.oct_snap.specs.Nodes.{group_total}
use Rattle.oct_snap.specs.Reading.{Fields, Snapshot}
use Rattle.oct_snap.specs.Reading as snapshot
use Rattle.oct_map.specs.declared.fault.MapFault.{MapFault}
use Rattle.oct_map.specs.declared.fault.MapFault.TheVariants.{OtherResolution, Full}
use Rattle.oct_map.specs.Faults.{snap_fault}
use Rattle.oct_map.specs.Ground.{Ground}
use Rattle.oct_map.specs.Map.{Map, values_of, ground_of}
use Rattle.oct_map.specs.Edits.{entries_of}

-- a new map of this many groups, where these are within the limit
abbrev pub restored_room : ℕ → ℕ → Result ℕ MapFault
restored_room max_groups groups =
    if nat_lt max_groups groups then Err (Full 0 groups) else Ok groups

-- the answer to a snapshot, by what it is read as: how many groups its values need
abbrev pub restore_answer : Ground → Result Snapshot SnapFault → Result ℕ MapFault
restore_answer g (Err fault) = Err (snap_fault fault)
restore_answer g (Ok s) =
    if nat_eq s.head.res g.res then restored_room g.max_groups (group_total s.nodes)
    else Err (OtherResolution (pos s.head.res) (pos g.res))

-- the update box after a snapshot of this version: its own, or none where it has none; one of
-- version 1 leaves the box that stood
abbrev pub box_after : Option Window → ℕ → Option Window → Option Window
box_after standing version own = if nat_eq version 1 then standing else own

-- what answers read beside the values after a snapshot
abbrev pub ground_after : Ground → Fields → Ground
ground_after g head = record g {
  odds = head.odds;
  update_box = box_after g.update_box head.version head.window;
}

-- What an accepted snapshot leaves: its values in a pruned map that isn't stale and has no mark, by
-- its log-odds and with its update box, with exactly its groups, and memory for no more than these
-- and 1,023 entries, or for none where there are no groups.
pub record IsMapRestored (m n : Map) (s : Snapshot) : Type 0 where
  pub values : SameValues (snapshot.values_of s) (values_of n)
  pub stale : n.is_stale ≡ false
  pub mark : n.mark ≡ None
  pub pruned : IsPruned n.tree
  pub groups : live n.tree.groups ≡ group_total s.nodes
  pub reserved : entries_of n ≤ group_total s.nodes + 1023
  pub unreserved : group_total s.nodes ≡ 0 → entries_of n ≡ 0
  pub setup : ground_of n ≡ ground_after (ground_of m) s.head

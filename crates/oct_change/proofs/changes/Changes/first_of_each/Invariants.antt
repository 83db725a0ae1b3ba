use Rattle.std.proofs.Common.{◌≡◌, ◌≤◌, take, length}
use Rattle.std.specs.BTreeMap.{get}
use Rattle.oct_key.specs.Voxel.{Voxel}
use Rattle.oct_key.specs.Order.{key_cmp}
use Rattle.oct_change.specs.Notes.{first_noted}
use Rattle.oct_change.proofs.changes.Changes.first_of_each.Given as goal

abbrev pub invariant-loop-note : goal.invariant-loop-note
invariant-loop-note l =
    ((k : Voxel) → get key_cmp l.first k ≡ first_noted (take l.note-index l.note-items) k)
    × (length l.first.entries ≤ l.note-index)

use Rattle.std.proofs.Common.{◌≡◌, ◌+◌, ◌≤◌}
use Rattle.oct_tree.specs.Tree.{value_at}
use Rattle.oct_values.specs.Classes.{classes_of}
use Rattle.oct_change.specs.Held.{room_of}
use Rattle.oct_change.proofs.Boxes.{IsBelow, IsInRowBelow}
use Rattle.oct_change.proofs.changes.Changes.note_row.Given as goal

abbrev pub invariant-loop-z : goal.invariant-loop-z
invariant-loop-z l =
    IsBelow (classes_of l.tree.odds (value_at l.tree)) (IsInRowBelow l.x l.y l.low l.z) l.low l.z 1
    l.initial.self.notes l.self.notes l.initial.self.spare l.self.spare
    × (l.z ≤ l.high + 1)
    × (room_of l.self ≡ room_of l.initial.self)

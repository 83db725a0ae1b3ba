use Rattle.std.proofs.Common.{◌≡◌, ◌+◌, ◌-◌, ◌≤◌}
use Rattle.oct_tree.specs.Tree.{value_at}
use Rattle.oct_values.specs.Classes.{classes_of}
use Rattle.oct_change.specs.Held.{room_of}
use Rattle.oct_change.proofs.Boxes.{IsBelow, IsInPlaneBelow}
use Rattle.oct_change.proofs.changes.Changes.note_plane.Given as goal

abbrev pub invariant-loop-y : goal.invariant-loop-y
invariant-loop-y l =
    IsBelow (classes_of l.tree.odds (value_at l.tree)) (IsInPlaneBelow l.x l.lo l.hi l.y) l.lo.y
    l.y (l.hi.z + 1 - l.lo.z)
    l.initial.self.notes l.self.notes l.initial.self.spare l.self.spare
    × (l.y ≤ l.hi.y + 1)
    × (room_of l.self ≡ room_of l.initial.self)

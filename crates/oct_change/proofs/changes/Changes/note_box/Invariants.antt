use Rattle.std.proofs.Common.{◌≡◌, ◌+◌, ◌-◌, ◌*◌, ◌≤◌}
use Rattle.oct_tree.specs.Tree.{value_at}
use Rattle.oct_values.specs.Classes.{classes_of}
use Rattle.oct_change.specs.Held.{room_of}
use Rattle.oct_change.proofs.Boxes.{IsBelow, IsInBoxBelow}
use Rattle.oct_change.proofs.changes.Changes.note_box.Given as goal

abbrev pub invariant-loop-x : goal.invariant-loop-x
invariant-loop-x l =
    IsBelow (classes_of l.tree.odds (value_at l.tree)) (IsInBoxBelow l.lo l.hi l.x) l.lo.x l.x
    ((l.hi.y + 1 - l.lo.y) * (l.hi.z + 1 - l.lo.z))
    l.initial.self.notes l.self.notes l.initial.self.spare l.self.spare
    × (l.x ≤ l.hi.x + 1)
    × (room_of l.self ≡ room_of l.initial.self)

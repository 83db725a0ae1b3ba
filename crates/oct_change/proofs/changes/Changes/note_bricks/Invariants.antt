use Rattle.std.proofs.Common.{◌≡◌}
use Rattle.oct_tree.specs.Tree.{value_at}
use Rattle.oct_values.specs.Classes.{classes_of}
use Rattle.oct_change.specs.Held.{room_of}
use Rattle.oct_change.proofs.Masks.{HasNotedFirst}
use Rattle.oct_change.proofs.changes.Changes.note_bricks.Given as goal

abbrev pub invariant-loop-brick : goal.invariant-loop-brick
invariant-loop-brick l =
    HasNotedFirst (classes_of l.tree.odds (value_at l.tree)) l.bricks l.brick-index
    l.initial.self.notes l.self.notes l.initial.self.spare l.self.spare
    × (room_of l.self ≡ room_of l.initial.self)

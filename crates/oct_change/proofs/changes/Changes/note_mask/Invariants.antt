use Rattle.std.proofs.Common.{◌≡◌, map}
use Rattle.oct_brick.specs.Masks.{codes_of}
use Rattle.oct_brick.specs.Voxels.{coded_voxel}
use Rattle.oct_tree.specs.Tree.{value_at}
use Rattle.oct_values.specs.Classes.{classes_of}
use Rattle.oct_change.specs.Held.{room_of}
use Rattle.oct_change.proofs.Noting.{IsUnderWay}
use Rattle.oct_change.proofs.changes.Changes.note_mask.Given as goal

abbrev pub invariant-loop-left : goal.invariant-loop-left
invariant-loop-left l =
    IsUnderWay (classes_of l.tree.odds (value_at l.tree))
    (map coded_voxel (codes_of l.code l.fn.mask))
    (map coded_voxel (codes_of l.code l.left)) l.initial.self.notes l.self.notes
    l.initial.self.spare l.self.spare
    × (room_of l.self ≡ room_of l.initial.self)

abbrev pub decreases-loop-left : goal.decreases-loop-left
decreases-loop-left l = l.left

use Rattle.std.proofs.Common.{◌≡◌, ◌+◌, ◌-◌, length}
use Rattle.oct_tree.specs.Descents.{digits_from}
use Rattle.oct_cast.proofs.Ways.{IsUnder}
use Rattle.oct_cast.proofs.way.Way.descend.Given as goal

abbrev pub invariant-loop-id : goal.invariant-loop-id
invariant-loop-id l = IsUnder l.tree l.self.groups l.code l.depth l.node ×
    (length l.self.groups ≡ 16) × (l.way ≡ digits_from (l.depth + 1) l.code)
    × (l.self.floor ≡ l.initial.self.floor)

abbrev pub decreases-loop-id : goal.decreases-loop-id
decreases-loop-id l = 16 - l.depth

use Rattle.std.proofs.Common.{◌≡◌, ◌-◌, ◌≤◌}
use Rattle.oct_key.specs.Morton.{morton_of}
use Rattle.oct_tree.specs.Descents.{digits_from}
use Rattle.oct_edit.proofs.Ways.{IsWayBelow}
use Rattle.oct_edit.proofs.way.Way.descend.Given as goal

abbrev pub invariant-loop-next : goal.invariant-loop-next
invariant-loop-next l = record {
  below : IsWayBelow l.tree l.fn.k l.self.groups l.depth l.id l.i;
  few : l.i ≤ 7;
  steps : l.steps ≡ digits_from l.depth (morton_of l.fn.k);
}

abbrev pub decreases-loop-next : goal.decreases-loop-next
decreases-loop-next l = 16 - l.depth

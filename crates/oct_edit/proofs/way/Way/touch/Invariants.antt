use Rattle.std.proofs.Common.{◌≡◌, ◌+◌, ◌≤◌, Some}
use Rattle.oct_key.specs.Block.{block_of}
use Rattle.oct_values.specs.Events.{event_at}
use Rattle.oct_arena.specs.Entries.{spare}
use Rattle.oct_tree.specs.Tree.{node_in}
use Rattle.oct_edit.specs.Steps.{IsTouched}
use Rattle.oct_edit.specs.Way.{place_on}
use Rattle.oct_edit.proofs.way.Way.touch.Given as goal

abbrev pub invariant-loop-depth : goal.invariant-loop-depth
invariant-loop-depth l = record {
  low : l.depth ≤ l.self.depth;
  touched : IsTouched l.fn.tree l.tree (block_of l.depth l.fn.edit.k) (event_at (Some l.fn.edit.k)
      l.fn.edit.event)
      l.fn.edit.lazy;
  before : l.before ≡ node_in l.fn.tree (place_on l.fn.edit.k l.self.groups l.depth);
  now : l.now ≡ node_in l.tree (place_on l.fn.edit.k l.self.groups l.depth);
  spare : spare l.fn.tree.groups ≤ spare l.tree.groups + 16;
}

abbrev pub decreases-loop-depth : goal.decreases-loop-depth
decreases-loop-depth l = l.depth

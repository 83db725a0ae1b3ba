use Rattle.std.proofs.Common.{◌≡◌, ◌-◌, Some, length}
use Rattle.oct_key.specs.Block.{Cube}
use Rattle.oct_io.specs.Taken.{IsTaken}
use Rattle.oct_tree.specs.Tree.{block_in, value_at}
use Rattle.oct_snap.proofs.Writes.{before}
use Rattle.oct_snap.proofs.writing.+write_node.Given as goal

abbrev pub decreases-write_node : goal.decreases-write_node
decreases-write_node g l = 16 - l.depth

abbrev pub invariant-loop-i : goal.invariant-loop-i
invariant-loop-i g l = record {
  written : (b : Cube) → block_in l.tree l.fn.p ≡ Some b
      → IsTaken (before (value_at l.tree) l.depth b l.i)
      (g.K.Sink.written l.fn.sink) l.fn.gather (g.K.Sink.written l.sink) l.gather;
  length : (b : Cube) → block_in l.tree l.fn.p ≡ Some b
      → l.bytes ≡ length (before (value_at l.tree) l.depth b l.i);
  faults : g.K.Sink.faults l.sink ≡ g.K.Sink.faults l.fn.sink;
  shortages : g.K.Sink.shortages l.sink ≡ g.K.Sink.shortages l.fn.sink;
}

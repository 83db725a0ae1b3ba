use Rattle.std.proofs.Common.{◌≡◌, ◌-◌, Some, length}
use Rattle.oct_key.specs.Block.{Cube}
use Rattle.oct_tree.specs.Tree.{block_in}
use Rattle.oct_tree.specs.Classes.{classes_in}
use Rattle.oct_bt.proofs.Parting.{IsSent}
use Rattle.oct_bt.proofs.writing.+write_block.Given as goal

abbrev pub decreases-write_block : goal.decreases-write_block
decreases-write_block g l = 16 - l.depth

abbrev pub decreases-loop-part : goal.decreases-loop-part
decreases-loop-part g l = length l.parts.items

abbrev pub invariant-loop-part : goal.invariant-loop-part
invariant-loop-part g l = record {
  written : (b : Cube) → block_in l.tree l.fn.p ≡ Some b
      → IsSent (classes_in l.tree) l.depth b l.parts.items
      (g.K.Sink.written l.fn.sink) l.fn.gather (g.K.Sink.written l.sink) l.gather;
  faults : g.K.Sink.faults l.sink ≡ g.K.Sink.faults l.fn.sink;
  shortages : g.K.Sink.shortages l.sink ≡ g.K.Sink.shortages l.fn.sink;
}

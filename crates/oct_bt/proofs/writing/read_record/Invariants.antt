use Rattle.std.proofs.Common.{◌≡◌, ◌<◌, ◌≤◌, ◌^◌, length, Some}
use Rattle.oct_key.specs.Block.{Cube}
use Rattle.oct_tree.specs.Tree.{block_in}
use Rattle.oct_tree.specs.Classes.{classes_in}
use Rattle.oct_bt.proofs.Parting.{IsRecordFrom}
use Rattle.oct_bt.proofs.writing.read_record.Given as goal

abbrev pub invariant-loop-done : goal.invariant-loop-done
invariant-loop-done l = record {
  few : l.codes < 4 ^ l.done;
  count : length l.parts.items ≤ l.done;
  parts : (b : Cube) → block_in l.tree l.p ≡ Some b
      → IsRecordFrom (classes_in l.tree) l.depth b l.done l.codes l.parts.items;
}

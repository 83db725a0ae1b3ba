use Rattle.std.proofs.Common.{◌≡◌, ◌+◌, ◌-◌, ◌%◌, ◌^◌, length}
use Rattle.oct_key.specs.CubeOf.{cube_of}
use Rattle.oct_tree.specs.Classes.{classes_in}
use Rattle.oct_export.specs.BoxTexts.{box_lines}
use Rattle.oct_export.specs.Pushed.{IsPushed}
use Rattle.oct_export.proofs.Boxes.{first_full}
use Rattle.oct_export.proofs.Walks.{found_before}
use Rattle.oct_export.proofs.scene.+push_boxes.Given as goal

abbrev pub decreases-push_boxes : goal.decreases-push_boxes
decreases-push_boxes g l = 16 - l.block.depth

abbrev pub invariant-loop-i : goal.invariant-loop-i
invariant-loop-i g l = record {
  full : l.full ≡ first_full (classes_in l.tree) (cube_of l.block) l.i;
  bytes : l.bytes
      ≡ length (box_lines l.tree.res (found_before (classes_in l.tree)
      (16 - (l.block.depth + 1)) l.levels (cube_of l.block) l.i)) % 2 ^ 64;
  pushed : IsPushed
      (box_lines l.tree.res (found_before (classes_in l.tree)
      (16 - (l.block.depth + 1)) l.levels (cube_of l.block) l.i))
      l.fn.gather l.gather (g.K.Sink.written l.fn.sink) (g.K.Sink.written l.sink);
  faults : g.K.Sink.faults l.sink ≡ g.K.Sink.faults l.fn.sink;
  shortages : g.K.Sink.shortages l.sink ≡ g.K.Sink.shortages l.fn.sink;
}

use Rattle.std.proofs.Common.{◌≡◌, ◌≤◌, ◌+◌, ◌-◌}
use Rattle.oct_tree.specs.Classes.{classes_in}
use Rattle.oct_export.specs.Pushed.{IsPushed}
use Rattle.oct_export.specs.Grids.{grey_of}
use Rattle.oct_export.proofs.Rows.{row_front}
use Rattle.oct_export.proofs.grid.push_row.Given as goal

abbrev pub invariant-loop-x : goal.invariant-loop-x
invariant-loop-x g l = record {
  low : l.lo.x ≤ l.x;
  high : l.x ≤ l.hi.x + 1;
  pushed : IsPushed (row_front grey_of (classes_in l.tree) l.lo l.hi l.y (l.x - l.lo.x)) l.fn.gather
      l.gather (g.K.Sink.written l.fn.sink) (g.K.Sink.written l.sink);
  faults : g.K.Sink.faults l.sink ≡ g.K.Sink.faults l.fn.sink;
  shortages : g.K.Sink.shortages l.sink ≡ g.K.Sink.shortages l.fn.sink;
}

abbrev pub decreases-loop-x : goal.decreases-loop-x
decreases-loop-x g l = l.hi.x + 1 - l.x

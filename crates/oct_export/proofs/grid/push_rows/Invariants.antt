use Rattle.std.proofs.Common.{◌≡◌}
use Rattle.oct_tree.specs.Classes.{classes_in}
use Rattle.oct_export.specs.Grids.{rows_of}
use Rattle.oct_export.specs.Pushed.{IsPushed}
use Rattle.oct_export.proofs.grid.push_rows.Given as goal

abbrev pub invariant-loop-n : goal.invariant-loop-n
invariant-loop-n g l = record {
  pushed : IsPushed (rows_of (classes_in l.tree) l.lo l.hi l.n) l.fn.gather l.gather
      (g.K.Sink.written l.fn.sink) (g.K.Sink.written l.sink);
  faults : g.K.Sink.faults l.sink ≡ g.K.Sink.faults l.fn.sink;
  shortages : g.K.Sink.shortages l.sink ≡ g.K.Sink.shortages l.fn.sink;
}

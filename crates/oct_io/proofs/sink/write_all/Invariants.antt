use Rattle.std.proofs.Common.{◌≡◌, ◌≤◌, ◌-◌, length, take}
use Rattle.oct_io.specs.Told.{appended}
use Rattle.oct_io.proofs.sink.write_all.Given as goal

abbrev pub invariant-loop-done : goal.invariant-loop-done
invariant-loop-done g l = record {
  within : l.done ≤ length l.piece;
  written : g.K.Sink.written l.sink ≡ appended (g.K.Sink.written l.fn.sink) (take l.done l.piece);
  faults : g.K.Sink.faults l.sink ≡ g.K.Sink.faults l.fn.sink;
  shortages : g.K.Sink.shortages l.sink ≡ g.K.Sink.shortages l.fn.sink;
}

abbrev pub decreases-loop-done : goal.decreases-loop-done
decreases-loop-done g l = length l.piece - l.done

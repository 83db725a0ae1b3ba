use Rattle.std.proofs.Common.{◌≡◌, ◌≤◌, ◌-◌, length, take}
use Rattle.oct_io.specs.Told.{appended}
use Rattle.oct_session.proofs.ahead.write_counted.Given as goal

abbrev pub invariant-loop-told : goal.invariant-loop-told
invariant-loop-told g l = record {
  within : l.told ≤ length l.text;
  written : g.K.Sink.written l.sink ≡ appended (g.K.Sink.written l.fn.sink) (take l.told l.text);
  faults : g.K.Sink.faults l.sink ≡ g.K.Sink.faults l.fn.sink;
  shortages : g.K.Sink.shortages l.sink ≡ g.K.Sink.shortages l.fn.sink;
}

abbrev pub decreases-loop-told : goal.decreases-loop-told
decreases-loop-told g l = length l.text - l.told

use Rattle.std.proofs.Common.{◌≡◌, ◌≤◌, ◌+◌, ◌++◌, length}
use Rattle.oct_io.proofs.Gathering.{IsPushing}
use Rattle.oct_io.proofs.gather.Gather.push.Given as goal

abbrev pub invariant-loop-rest : goal.invariant-loop-rest
invariant-loop-rest g l = record {
  pushing : IsPushing (l.fn.self ++ l.fn.piece) l.self l.rest (g.K.Sink.written l.fn.sink)
      (g.K.Sink.written l.sink);
  waits : length (l.fn.self ++ l.fn.piece) ≤ 4096 → l.sink ≡ l.fn.sink;
  faults : g.K.Sink.faults l.sink ≡ g.K.Sink.faults l.fn.sink;
  shortages : g.K.Sink.shortages l.sink ≡ g.K.Sink.shortages l.fn.sink;
}

abbrev pub decreases-loop-rest : goal.decreases-loop-rest
decreases-loop-rest g l = length l.self + length l.rest

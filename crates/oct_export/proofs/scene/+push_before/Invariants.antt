use Rattle.std.proofs.Common.{◌≡◌, ◌%◌, ◌^◌, length}
use Rattle.oct_key.specs.CubeOf.{cube_of}
use Rattle.oct_export.specs.Pushed.{IsPushed}
use Rattle.oct_export.proofs.Walks.{before_child_of}
use Rattle.oct_export.proofs.scene.+push_before.Given as goal

abbrev pub decreases-push_before : goal.decreases-push_before
decreases-push_before g l = l.levels

abbrev pub invariant-loop-i : goal.invariant-loop-i
invariant-loop-i g l = record {
  bytes : l.bytes ≡ length (before_child_of l.res l.levels (cube_of l.parent) l.i) % 2 ^ 64;
  pushed : IsPushed (before_child_of l.res l.levels (cube_of l.parent) l.i)
      l.fn.gather l.gather (g.K.Sink.written l.fn.sink) (g.K.Sink.written l.sink);
  faults : g.K.Sink.faults l.sink ≡ g.K.Sink.faults l.fn.sink;
  shortages : g.K.Sink.shortages l.sink ≡ g.K.Sink.shortages l.fn.sink;
}

use Rattle.std.proofs.Common.{◌≡◌, length}
use Rattle.oct_gen.specs.Script.{script_of}
use Rattle.oct_gen.proofs.Written.{IsUnderWay}
use Rattle.oct_gen.proofs.writing.generate.Given as goal

abbrev pub invariant-loop-script : goal.invariant-loop-script
invariant-loop-script g l = record {
  way : IsUnderWay (script_of l.fn.seed l.fn.scans l.fn.points) (g.K.Sink.written l.fn.sink)
      (g.K.Sink.written l.sink) l.script;
  faults : g.K.Sink.faults l.sink ≡ g.K.Sink.faults l.fn.sink;
  shortages : g.K.Sink.shortages l.sink ≡ g.K.Sink.shortages l.fn.sink;
}

abbrev pub decreases-loop-script : goal.decreases-loop-script
decreases-loop-script g l = length l.script

use Rattle.std.proofs.Common.{Some, length}
use Rattle.oct_gen.specs.Lines.{to_come}
use Rattle.oct_gen.specs.Script.{script_of}
use Rattle.oct_gen.proofs.Written.{IsUnderWay}
use Rattle.oct_gen.proofs.writing.gen_script.Given as goal

abbrev pub invariant-loop-line : goal.invariant-loop-line
invariant-loop-line l = IsUnderWay (script_of l.fn.seed l.fn.scans l.fn.points)
    (Some l.fn.out.items) (Some l.out.items) (to_come l.lines)

abbrev pub decreases-loop-line : goal.decreases-loop-line
decreases-loop-line l = length (to_come l.lines)

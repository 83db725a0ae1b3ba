use Rattle.std.proofs.Common.{◌-◌, length}
use Rattle.oct_session.specs.Ahead.{IsRun}
use Rattle.oct_session.proofs.ahead.Run.read.Given as goal

abbrev pub invariant-reading : goal.invariant-reading
invariant-reading l = IsRun l.map l.line l.piece l.self

abbrev pub decreases-reading : goal.decreases-reading
decreases-reading l = length l.piece - l.self.taken

use Rattle.std.proofs.Common.{◌-◌, ◌≤◌, length, take, None}
use Rattle.oct_session.specs.Moments.{seen, Makes, Take}
use Rattle.oct_session.proofs.session.Session.take.Given as goal

abbrev pub invariant-loop-taken : goal.invariant-loop-taken
invariant-loop-taken g l = record {
  within : l.taken ≤ length l.piece;
  takes : Makes (Take (take l.taken l.piece)) (seen g.K.Sink g.F.Store l.fn.context l.fn.self)
      (seen g.K.Sink g.F.Store l.context l.self) None;
}

abbrev pub decreases-loop-taken : goal.decreases-loop-taken
decreases-loop-taken g l = length l.piece - l.taken

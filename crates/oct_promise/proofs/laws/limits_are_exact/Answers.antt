use Rattle.oct_promise.proofs.EditsDone.{limits_done, nolimit_done}
use Rattle.oct_promise.proofs.laws.limits_are_exact.Goals as goal

pub returns-clause-limits : goal.returns-clause-limits
returns-clause-limits c = limits_done _ c.keep.ensures.set_up

pub returns-clause-ends : goal.returns-clause-ends
returns-clause-ends c = nolimit_done _

use Rattle.oct_promise.proofs.EndingsDone.{too_long_exactly, refused_exactly, done_exactly}
use Rattle.oct_promise.proofs.laws.sessions_end_exactly.Goals as goal

pub returns-clause-too_long : goal.returns-clause-too_long
returns-clause-too_long c = too_long_exactly

pub returns-clause-refused : goal.returns-clause-refused
returns-clause-refused c = refused_exactly

pub returns-clause-done : goal.returns-clause-done
returns-clause-done c = done_exactly

use Rattle.oct_promise.proofs.EndingsDone.{quit_ends}
use Rattle.oct_promise.proofs.laws.quits_end_sessions.Goals as goal

pub returns : goal.returns
returns c = quit_ends

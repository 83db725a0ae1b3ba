use Rattle.oct_promise.proofs.EditsDone.{track_done, untrack_done}
use Rattle.oct_promise.proofs.laws.marks_are_exact.Goals as goal

pub returns-clause-track : goal.returns-clause-track
returns-clause-track c = track_done

pub returns-clause-untrack : goal.returns-clause-untrack
returns-clause-untrack c = untrack_done

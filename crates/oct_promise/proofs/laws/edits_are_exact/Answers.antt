use Rattle.oct_promise.proofs.EditsDone.{edits_done}
use Rattle.oct_promise.proofs.laws.edits_are_exact.Goals as goal

pub returns : goal.returns
returns c = edits_done _ c.keep.ensures.set_up

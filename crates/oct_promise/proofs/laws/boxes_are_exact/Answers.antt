use Rattle.oct_promise.proofs.EditsDone.{boxes_done}
use Rattle.oct_promise.proofs.laws.boxes_are_exact.Goals as goal

pub returns : goal.returns
returns c = boxes_done _ c.keep.ensures.set_up

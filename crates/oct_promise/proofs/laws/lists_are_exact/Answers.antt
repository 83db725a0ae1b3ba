use Rattle.oct_promise.proofs.ListsDone.{list_done}
use Rattle.oct_promise.proofs.laws.lists_are_exact.Goals as goal

pub returns : goal.returns
returns c = list_done _ c.keep.ensures.set_up

use Rattle.oct_promise.proofs.EditsDone.{clear_done}
use Rattle.oct_promise.proofs.laws.clears_are_exact.Goals as goal

pub returns : goal.returns
returns c = clear_done

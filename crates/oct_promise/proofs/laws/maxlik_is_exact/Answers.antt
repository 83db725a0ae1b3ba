use Rattle.oct_promise.proofs.EditsDone.{maxlik_done}
use Rattle.oct_promise.proofs.laws.maxlik_is_exact.Goals as goal

pub returns : goal.returns
returns c = maxlik_done

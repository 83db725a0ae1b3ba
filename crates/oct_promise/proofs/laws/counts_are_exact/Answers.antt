use Rattle.oct_promise.proofs.ListsDone.{counts_done}
use Rattle.oct_promise.proofs.laws.counts_are_exact.Goals as goal

pub returns : goal.returns
returns c = counts_done

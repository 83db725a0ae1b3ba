use Rattle.oct_promise.proofs.Alone.{value_alone}
use Rattle.oct_promise.proofs.laws.values_are_folds.Goals as goal

pub returns : goal.returns
returns c = value_alone

use Rattle.oct_bt.proofs.Fronts.{front_read}
use Rattle.oct_bt.proofs.laws.fronts_are_refused.Goals as goal

pub returns : goal.returns
returns c = record { exact = λ res classes n is few. front_read res classes n is few }

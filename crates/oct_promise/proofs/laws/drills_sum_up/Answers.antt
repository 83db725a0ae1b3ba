use Rattle.oct_promise.proofs.Summed.{drill_summed}
use Rattle.oct_promise.proofs.laws.drills_sum_up.Goals as goal

pub returns : goal.returns
returns c = drill_summed

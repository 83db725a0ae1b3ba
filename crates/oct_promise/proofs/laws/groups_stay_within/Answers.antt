use Rattle.oct_promise.proofs.Fitting.{groups_within}
use Rattle.oct_promise.proofs.laws.groups_stay_within.Goals as goal

pub returns : goal.returns
returns c = groups_within

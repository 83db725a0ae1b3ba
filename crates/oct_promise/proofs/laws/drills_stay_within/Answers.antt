use Rattle.oct_promise.proofs.DrillEnds.{drill_below}
use Rattle.oct_promise.proofs.laws.drills_stay_within.Goals as goal

pub returns : goal.returns
returns c = drill_below

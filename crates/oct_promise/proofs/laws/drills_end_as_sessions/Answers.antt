use Rattle.oct_promise.proofs.DrillEnds.{drill_ends}
use Rattle.oct_promise.proofs.laws.drills_end_as_sessions.Goals as goal

pub returns : goal.returns
returns c = drill_ends

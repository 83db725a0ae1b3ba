use Rattle.oct_promise.proofs.RegionsKept.{region_holds}
use Rattle.oct_promise.proofs.laws.regions_hold_their_part.Goals as goal

pub returns : goal.returns
returns c = region_holds

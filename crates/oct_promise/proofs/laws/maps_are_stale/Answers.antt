use Rattle.oct_promise.proofs.MarksLive.{stale_exactly}
use Rattle.oct_promise.proofs.laws.maps_are_stale.Goals as goal

pub returns : goal.returns
returns c = stale_exactly

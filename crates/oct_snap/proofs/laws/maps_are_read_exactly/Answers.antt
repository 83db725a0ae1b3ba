use Rattle.oct_snap.proofs.Meanings.{map_is}
use Rattle.oct_snap.proofs.laws.maps_are_read_exactly.Goals as goal

pub returns : goal.returns
returns c = map_is

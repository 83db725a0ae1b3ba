use Rattle.oct_snap.proofs.Back.{nodes_exactly}
use Rattle.oct_snap.proofs.laws.nodes_are_read_exactly.Goals as goal

pub returns : goal.returns
returns c = nodes_exactly

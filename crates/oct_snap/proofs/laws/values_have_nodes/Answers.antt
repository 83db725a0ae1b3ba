use Rattle.oct_snap.proofs.MapNodes.{map_nodes}
use Rattle.oct_snap.proofs.Back.{map_back}
use Rattle.oct_snap.proofs.laws.values_have_nodes.Goals as goal

pub returns : goal.returns
returns c = λ o values sound within. (let (nodes, are) = map_nodes o values within in
    (nodes, are.value, map_back o values sound nodes are))

use Rattle.std.proofs.Common.{refl, replicate}
use Rattle.oct_cast.proofs.Ways.{root_linked}
use Rattle.oct_cast.proofs.way.Way.new.Goals as goal

pub descend-node-requires-clause-linked : goal.descend-node-requires-clause-linked
descend-node-requires-clause-linked c = (
  c.requires.code.0,
  c.requires.code.1,
  root_linked c.args.tree.now c.requires.code.0 (replicate 16 c.args.id) c.args.id c.requires.root
      (λ g. refl),
)

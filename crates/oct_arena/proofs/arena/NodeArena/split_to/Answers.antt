use Rattle.std.proofs.Common.{ap}
use Rattle.oct_arena.specs.Entries.{home_of}
use Rattle.oct_arena.proofs.arena.NodeArena.split_to.Goals as goal

pub child-home-requires-clause-depth : goal.child-home-requires-clause-depth
child-home-requires-clause-depth c =
    c.requires.deep c.group.result.now.home (ap home_of c.group.ensures.exact)

use Rattle.oct_key.specs.CubeOf.{cube_of}
use Rattle.oct_frontier.proofs.Exact.{listed_is}
use Rattle.oct_frontier.proofs.listing.list_all.Goals as goal

pub returns-clause-exact : goal.returns-clause-exact
returns-clause-exact c =
    listed_is c.args.tree.now c.args.lo c.args.hi (cube_of c.args.whole.now.block)
    c.in_ok-keys.keys.items
    c.list_under.new.keys.items c.sort_unstable.new.self.items _ c.requires.block
    c.in_ok-keys.ensures.items
    c.list_under.ensures.listed c.sort_unstable.ensures.permutation c.sort_unstable.ensures.sorted
    c.from.ensures

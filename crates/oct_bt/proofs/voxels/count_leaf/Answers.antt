use Rattle.oct_bt.proofs.Tallies.{power_fits}
use Rattle.oct_bt.proofs.voxels.count_leaf.Goals as goal

pub pow-all-requires : goal.pow-all-requires
pow-all-requires c = power_fits c.args.depth c.from.result c.requires.levels c.from.ensures

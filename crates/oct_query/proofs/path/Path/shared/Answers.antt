use Rattle.std.proofs.Common.{rules, arith}
use Rattle.oct_query.proofs.Shared.{one_voxel, above_bit}
use Rattle.oct_query.proofs.path.Path.shared.Goals as goal

pub returns-then-differ-eq0-clause-same : goal.returns-then-differ-eq0-clause-same
returns-then-differ-eq0-clause-same c =
    one_voxel c.args.self.now.key c.args.k _ (search rules)

pub returns-clause-same : goal.returns-clause-same
returns-clause-same c =
    above_bit c.args.self.now.key c.args.k _ c.ilog2.result c.ilog2.ensures.next_power_gt
    (omega arith)

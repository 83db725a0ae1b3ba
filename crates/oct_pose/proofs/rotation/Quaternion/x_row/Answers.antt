use Rattle.std.proofs.Common.{rules}
use Rattle.oct_pose.proofs.Turns.{IsBounded-x_row}
use Rattle.oct_pose.proofs.rotation.Quaternion.x_row.Goals as goal

pub returns-clause-value : goal.returns-clause-value
returns-clause-value c = search rules

pub returns-clause-bounded : goal.returns-clause-bounded
returns-clause-bounded c = rw (returns-clause-value c) (IsBounded-x_row c.args.self)

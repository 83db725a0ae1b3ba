use Rattle.std.proofs.Common.{rules}
use Rattle.oct_pose.proofs.Turns.{IsBounded-z_row, z_row_is}
use Rattle.oct_pose.proofs.rotation.Quaternion.z_row.Goals as goal

pub returns-clause-value : goal.returns-clause-value
returns-clause-value c = z_row_is c.args.self _ _ _ (search rules) (search rules) (search rules)

pub returns-clause-bounded : goal.returns-clause-bounded
returns-clause-bounded c = rw (returns-clause-value c) (IsBounded-z_row c.args.self)

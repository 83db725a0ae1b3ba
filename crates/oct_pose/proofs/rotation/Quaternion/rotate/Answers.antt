use Rattle.std.proofs.Common.{sym}
use Rattle.oct_pose.proofs.Turns.{norm_positive}
use Rattle.oct_pose.proofs.Upright.{upright_stays}
use Rattle.oct_pose.proofs.rotation.Quaternion.rotate.Goals as goal

pub returns-then-is_upright-clause-exact : goal.returns-then-is_upright-clause-exact
returns-then-is_upright-clause-exact c =
    (let (x, y, z) = c.is_upright.ensures c.if-is_upright.true in
    sym (upright_stays c.args.self c.args.p x y z (norm_positive c.args.self c.requires.turns)))
